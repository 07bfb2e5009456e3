-- What a differ book means, and that one without fault keeps the laws. Assumes nothing.
use Rattle.std.proofs.Common.{◌≡◌, ℕ, suc, false, List, [], ◌∷◌, is_some, None, Some, Option, refl, ap, ◌∙◌}
use Rattle.std.proofs.lemmas.List.{map-id}
use Rattle.terms.specs.declared.scope.Scope.{Scope}
use Rattle.terms.specs.declared.refusal.Refusal.{Refusal}
use Rattle.books.specs.Plain.{Lawful, no_scope}
use Rattle.books.specs.Reasons.{Reasonable}
use Rattle.books.specs.Questions.{first_of, first_fault, rules_fault}
use Rattle.books.specs.Twos.{two_model, two_reasons}
use Rattle.books.proofs.TwoLaws.{rules_lawful, rules_reasonable}
use Rattle.differs.specs.Differ.{differs, differ_fault, differ_model, differ_reasons}

no_more : (r : ℕ) (rules : List Scope) → first_fault (λ s r. None) r rules ≡ None
unfolding first_fault
no_more r [] = refl
no_more r (x ∷ xs) = no_more (suc r) xs

first_alone : (f : Option Refusal) → first_of f None ≡ f
first_alone (Some e) = refl
first_alone None = refl

pub differ_fault_is : (rules : List Scope) → differ_fault rules ≡ rules_fault (λ s. s) 2 2 rules
unfolding differ_fault
differ_fault_is rules = ap (first_of (rules_fault (λ s. s) 2 2 rules)) (no_more 0 rules) ∙ first_alone (rules_fault (λ s. s) 2 2 rules)

pub differ_model_is : (rules : List Scope) → differ_model rules ≡ two_model rules (λ r. differs)
unfolding differ_model
differ_model_is rules = ap (λ xs. two_model xs (λ r. differs)) (map-id rules)

pub differ_reasons_is : (rules : List Scope) → differ_reasons rules ≡ two_reasons rules (λ r. differs)
unfolding differ_reasons
differ_reasons_is rules = ap (λ xs. two_reasons xs (λ r. differs)) (map-id rules)

module _ (rules : List Scope) (sound : is_some (differ_fault rules) ≡ false) where
  pub differ_lawful : Lawful (differ_model rules)
  unfolding differ_fault differ_model
  differ_lawful = rules_lawful (λ s. s) (λ s r. None) rules sound (λ s. differs) no_scope

  pub differ_reasonable : Reasonable (differ_model rules) (differ_reasons rules)
  unfolding differ_fault differ_model differ_reasons
  differ_reasonable = rules_reasonable (λ s. s) (λ s r. None) rules sound (λ s. differs) no_scope
