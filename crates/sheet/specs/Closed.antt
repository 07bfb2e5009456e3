-- Sets of options that hold together. Assumes nothing.
use Rattle.std.specs.Prelude.{◌≡◌, ℕ, ◌<◌, true, List, Some, None, slice_index, slice_index_or}
use Rattle.terms.specs.Masks.{has}
use Rattle.terms.specs.Scopes.{question_at, masks_at}
use Rattle.books.specs.Plain.{Plain, Supported, positions}
use Rattle.record.specs.State.{State}

-- an option of a set, given as a mask for each question, that is declared, agrees with the picks,
-- and has support, inside the set, from every placed rule on its question
pub record Holds (b : Plain) (s : State) (set : List ℕ) (q o : ℕ) : Type 0 where
  pub declared : o < slice_index s.sizes q
  pub agrees : (x : ℕ) → slice_index_or s.picks q None ≡ Some x → o ≡ x
  pub supported : (r p : ℕ) → has s.placed r ≡ true → p < positions b r → question_at (b.scope r) p ≡ q → Supported b r p o (masks_at set (b.scope r))

abbrev pub Closed : Plain → State → List ℕ → Type 0
Closed b s set = (q o : ℕ) → has (slice_index set q) o ≡ true → Holds b s set q o

-- every closed set lies within this one
abbrev pub Greatest : Plain → State → List ℕ → Type 0
Greatest b s set = (other : List ℕ) → Closed b s other → (q o : ℕ) → has (slice_index other q) o ≡ true → has (slice_index set q) o ≡ true
