-- The definitions computed on small books. Assumes nothing.
use Rattle.std.proofs.Common.{◌≡◌, ℕ, List, [], ◌∷◌, Some, refl}
use Rattle.terms.specs.Masks.{has, with, less, within, within_each}
use Rattle.terms.specs.declared.scope.Scope.{Scope}
use Rattle.terms.specs.declared.refusal.Refusal.TheVariants.{BadQuestions}
use Rattle.books.specs.Questions.{fresh, fits, misfit, first_fault, too_many, rules_fault}
use Rattle.books.specs.Reasons.{owed}
use Rattle.books.specs.Twos.{some_below, kept_below, two_model, two_reasons}
use Rattle.differs.specs.Differ.{differ_fault, differ_reasons}

abbrev over : ℕ → ℕ → Scope
over a b = record { count = 2; questions = a ∷ b ∷ 0 ∷ 0 ∷ [] }

abbrev differs : List Scope
differs = over 0 2 ∷ []

three_questions : differ_fault (over 0 1 ∷ record { count = 3; questions = 0 ∷ 1 ∷ 2 ∷ 0 ∷ [] } ∷ []) ≡ Some (BadQuestions 1)
unfolding differ_fault rules_fault too_many misfit first_fault fits fresh has with
three_questions = refl

differ_blames : differ_reasons differs 0 1 0 (7 ∷ 7 ∷ 0 ∷ 0 ∷ []) (1 ∷ 7 ∷ 0 ∷ 0 ∷ []) ≡ 6 ∷ 0 ∷ 0 ∷ 0 ∷ []
unfolding differ_reasons two_reasons two_model owed within_each within less some_below kept_below has with
differ_blames = refl
