-- The definitions computed on small books. Assumes nothing.
use Rattle.std.proofs.Common.{◌≡◌, ℕ, true, [], ◌∷◌, refl}
use Rattle.terms.specs.declared.scope.Scope.{Scope}
use Rattle.books.specs.Plain.{Plain, no_scope}
use Rattle.books.specs.Pair.{numbered, pair_model}
use Rattle.books.specs.Twos.{two_model}

abbrev over : ℕ → ℕ → Scope
over a b = record { count = 2; questions = a ∷ b ∷ 0 ∷ 0 ∷ [] }

-- one rule, which allows everything
abbrev tying : Scope → Plain
tying scope = two_model (scope ∷ []) (λ r a b. true)

-- the second book's rules come after the first's

second_scope : (pair_model (tying (over 0 1)) (tying (over 1 2))).scope 1 ≡ over 1 2
unfolding pair_model numbered two_model
second_scope = refl

third_scope : (pair_model (tying (over 0 1)) (tying (over 1 2))).scope 2 ≡ no_scope
unfolding pair_model numbered two_model
third_scope = refl
