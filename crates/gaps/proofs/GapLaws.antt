-- What a gap book means, and that one without fault keeps the laws. Assumes nothing.
use Rattle.std.proofs.Common.{◌≡◌, ℕ, Bool, false, List, map, get_or, pos, is_some, refl, sym, ap}
use Rattle.std.proofs.Math.ListN.{get_or-map}
use Rattle.gaps.specs.declared.gap.GapRule.{GapRule}
use Rattle.books.specs.Plain.{Lawful}
use Rattle.books.specs.Reasons.{Reasonable}
use Rattle.terms.specs.declared.refusal.Refusal.TheVariants.{DistanceOutOfRange}
use Rattle.books.specs.Questions.{rules_fault, first_of, lowest}
use Rattle.books.specs.Twos.{two_model, two_reasons}
use Rattle.books.proofs.TwoLaws.{rules_lawful, rules_reasonable}
use Rattle.gaps.specs.Gap.{keeps, in_reach, far, no_gap, gap_fault, gap_model, gap_reasons}

-- the options a and b of rule r keep its distance
abbrev keeps_rule : List GapRule → ℕ → ℕ → ℕ → Bool
keeps_rule rules r = keeps (get_or (map (λ g. g.distance) rules) r (pos 0))

keeps_at : (rules : List GapRule) (r : ℕ) → keeps (get_or rules r no_gap).distance ≡ keeps_rule rules r
keeps_at rules r = ap keeps (sym (get_or-map (λ (g : GapRule). g.distance) rules r no_gap))

pub gap_fault_is : (rules : List GapRule) → gap_fault rules ≡ first_of (rules_fault (λ g. g.scope) 2 2 rules) (lowest (λ g. in_reach g.distance) DistanceOutOfRange 0 rules)
unfolding gap_fault
gap_fault_is rules = refl

pub gap_model_is : (rules : List GapRule) → gap_model rules ≡ two_model (map (λ g. g.scope) rules) (keeps_rule rules)
unfolding gap_model
gap_model_is rules = λ i. two_model (map (λ g. g.scope) rules) (λ r. keeps_at rules r i)

pub gap_reasons_is : (rules : List GapRule) → gap_reasons rules ≡ two_reasons (map (λ g. g.scope) rules) (keeps_rule rules)
unfolding gap_reasons
gap_reasons_is rules = λ i. two_reasons (map (λ g. g.scope) rules) (λ r. keeps_at rules r i)

module _ (rules : List GapRule) (sound : is_some (gap_fault rules) ≡ false) where
  pub gap_lawful : Lawful (gap_model rules)
  unfolding gap_fault gap_model
  gap_lawful = rules_lawful (λ g. g.scope) far rules sound (λ g. keeps g.distance) no_gap

  pub gap_reasonable : Reasonable (gap_model rules) (gap_reasons rules)
  unfolding gap_fault gap_model gap_reasons
  gap_reasonable = rules_reasonable (λ g. g.scope) far rules sound (λ g. keeps g.distance) no_gap
