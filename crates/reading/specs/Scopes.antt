-- A scope of the numbers that were written, however many. Assumes nothing.
use Rattle.std.specs.Prelude.{ℕ, min, List, [], ◌∷◌, length, map, slice_index}
use Rattle.std.specs.Option.{unwrap_or}
use Rattle.wording.specs.Figures.{byte_of}
use Rattle.terms.specs.declared.scope.Scope.{Scope}

-- how many there are, 255 where there are more
unfoldable pub count_of : {X : Type 0} → List X → ℕ
count_of xs = min (length xs) 255

-- the first four, with 0 for each that is not there
unfoldable pub first_four : List ℕ → List ℕ
first_four ns = slice_index ns 0 ∷ slice_index ns 1 ∷ slice_index ns 2 ∷ slice_index ns 3 ∷ []

abbrev pub scope_of : List ℕ → Scope
scope_of ns = record { count = count_of ns; questions = first_four ns }

-- the numbers that the words write, with 0 for a word that writes none
abbrev pub numbers_in : List (List ℕ) → List ℕ
numbers_in ws = map (λ w. unwrap_or (byte_of w) 0) ws
