-- Rules that want unequal options. Assumes nothing.
use Rattle.std.specs.Prelude.{ℕ, Bool, not, List, None, Option, ◌==◌}
use Rattle.terms.specs.declared.scope.Scope.{Scope}
use Rattle.terms.specs.declared.refusal.Refusal.{Refusal}
use Rattle.books.specs.Plain.{Plain, no_scope}
use Rattle.books.specs.Twos.{two_fault, rules_model, rules_reasons}

abbrev pub differs : ℕ → ℕ → Bool
differs a b = not (a == b)

-- the first fault of the rules handed in: a rule says nothing beside its questions
unfoldable pub differ_fault : List Scope → Option Refusal
differ_fault = two_fault (λ s. s) (λ s r. None)

unfoldable pub differ_model : List Scope → Plain
differ_model = rules_model (λ s. s) (λ s. differs) no_scope

unfoldable pub differ_reasons : List Scope → ℕ → ℕ → ℕ → List ℕ → List ℕ → List ℕ
differ_reasons = rules_reasons (λ s. s) (λ s. differs) no_scope
