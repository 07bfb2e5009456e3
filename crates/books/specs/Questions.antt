-- What the questions of a rule must be, and the first fault of rules. Assumes nothing.
use Rattle.std.specs.Prelude.{ℕ, suc, min, Bool, true, false, not, ◌&&◌, List, [], ◌∷◌, length, Some, None, Option, ◌==◌, nat_le, nat_lt}
use Rattle.terms.specs.Masks.{has, with}
use Rattle.terms.specs.Scopes.{questions_of}
use Rattle.terms.specs.declared.scope.Scope.{Scope}
use Rattle.terms.specs.declared.refusal.Refusal.{Refusal}
use Rattle.terms.specs.declared.refusal.Refusal.TheVariants.{TooManyRules, BadQuestions}

-- every question is below 16, and none is among those seen or twice
unfoldable pub fresh : ℕ → List ℕ → Bool
fresh seen [] = true
fresh seen (q ∷ qs) = nat_lt q 16 && (not (has seen q) && fresh (with seen q) qs)

-- from least to most questions, at most four, as many as are counted, each below 16 and none twice
unfoldable pub fits : ℕ → ℕ → Scope → Bool
fits least most s =
    nat_le least s.count && (nat_le s.count (min most 4) && (length (questions_of s) == s.count && fresh 0 (questions_of s)))

-- the first of two faults
abbrev pub first_of : Option Refusal → Option Refusal → Option Refusal
first_of (Some e) fault = Some e
first_of None fault = fault

-- the first fault of rules of which each has one or none, the first being number r
unfoldable pub first_fault : {R : Type 0} → (R → ℕ → Option Refusal) → ℕ → List R → Option Refusal
first_fault fault r [] = None
first_fault fault r (x ∷ xs) = first_of (fault x r) (first_fault fault (suc r) xs)

-- the refusal where a test fails
abbrev pub refused_unless : Bool → Refusal → Option Refusal
refused_unless true e = None
refused_unless false e = Some e

-- the refusal of the lowest rule that fails the test, the first being number r
abbrev pub lowest : {R : Type 0} → (R → Bool) → (ℕ → Refusal) → ℕ → List R → Option Refusal
lowest test refusal = first_fault (λ x r. refused_unless (test x) (refusal r))

-- the lowest rule, the first being number r, whose questions do not fit
unfoldable pub misfit : {R : Type 0} → (R → Scope) → ℕ → ℕ → ℕ → List R → Option Refusal
misfit ties least most = lowest (λ x. fits least most (ties x)) BadQuestions

-- more than 64 rules, or else the first fault of another kind
unfoldable pub too_many : ℕ → Option Refusal → Option Refusal
too_many n fault = elim (nat_le n 64) [ true ↦ fault | false ↦ Some TooManyRules ]

-- the first fault of rules that tie from least to most questions each, whatever else they say
unfoldable pub rules_fault : {R : Type 0} → (R → Scope) → ℕ → ℕ → List R → Option Refusal
rules_fault ties least most rules = too_many (length rules) (misfit ties least most 0 rules)
