-- Two books as one. Assumes nothing.
use Rattle.std.specs.Prelude.{ℕ, ◌+◌, ◌-◌, min, true, false, List, None, Option, nat_lt}
use Rattle.terms.specs.declared.refusal.Refusal.{Refusal}
use Rattle.books.specs.Plain.{Plain, no_scope}
use Rattle.books.specs.Questions.{too_many}
use Rattle.books.specs.Reasons.{no_reason}

-- what is said of rule r where the first book has n rules: the second's are numbered after the first's, and none is above 63
unfoldable pub numbered : {X : Type 0} → ℕ → (ℕ → X) → (ℕ → X) → X → ℕ → X
numbered n first second lacks r =
    elim (nat_lt r 64) [
      | true ↦ elim (nat_lt r n) [ true ↦ first r | false ↦ second (r - n) ]
      | false ↦ lacks
    ]

-- a pair would have more than 64 rules
unfoldable pub pair_fault : Plain → Plain → Option Refusal
pair_fault a b = too_many (a.rules + b.rules) None

-- the rules of a pair without fault are all those of the two
unfoldable pub pair_model : Plain → Plain → Plain
pair_model a b =
    record {
      rules = min 64 (a.rules + b.rules);
      scope = numbered a.rules a.scope b.scope no_scope;
      allows = numbered a.rules a.allows b.allows (λ t. false);
      supports = numbered a.rules a.supports b.supports (λ p o masks. false);
    }

unfoldable pub pair_reasons : ℕ → (ℕ → ℕ → ℕ → List ℕ → List ℕ → List ℕ) → (ℕ → ℕ → ℕ → List ℕ → List ℕ → List ℕ) → ℕ → ℕ → ℕ → List ℕ → List ℕ → List ℕ
pair_reasons n first second = numbered n first second (λ p o declared standing. no_reason)
