-- The definitions computed on small books. Assumes nothing.
use Rattle.std.proofs.Common.{◌≡◌, ℕ, List, [], ◌∷◌, pos, negsuc, Some, None, refl}
use Rattle.terms.specs.Masks.{has, with, less, within, within_each}
use Rattle.terms.specs.declared.scope.Scope.{Scope}
use Rattle.terms.specs.declared.refusal.Refusal.TheVariants.{DistanceOutOfRange}
use Rattle.books.specs.Questions.{fresh, fits, misfit, first_fault, too_many, rules_fault}
use Rattle.books.specs.Reasons.{owed, no_reason}
use Rattle.books.specs.Twos.{some_below, kept_below, two_model, two_reasons}
use Rattle.gaps.specs.declared.gap.GapRule.{GapRule}
use Rattle.gaps.specs.Gap.{gap_fault, gap_reasons}

abbrev over : ℕ → ℕ → Scope
over a b = record { count = 2; questions = a ∷ b ∷ 0 ∷ 0 ∷ [] }

abbrev gaps : List GapRule
gaps = record { scope = over 1 2; distance = pos 1 } ∷ []

-- the furthest distances, and one too far

furthest : gap_fault (record { scope = over 1 2; distance = pos 31 } ∷ record { scope = over 1 2; distance = negsuc 30 } ∷ []) ≡ None
unfolding gap_fault rules_fault too_many misfit fits fresh has with first_fault
furthest = refl

further : gap_fault (record { scope = over 1 2; distance = pos 32 } ∷ []) ≡ Some (DistanceOutOfRange 0)
unfolding gap_fault rules_fault too_many misfit fits fresh has with first_fault
further = refl

-- reasons

-- option 2 of the lower question has no partner among three options, and nothing is to blame
gap_reason : gap_reasons gaps 0 0 2 (7 ∷ 7 ∷ 0 ∷ 0 ∷ []) (7 ∷ 7 ∷ 0 ∷ 0 ∷ []) ≡ no_reason
unfolding gap_reasons two_reasons two_model owed within_each within less some_below kept_below has with
gap_reason = refl

gap_blames : gap_reasons gaps 0 0 0 (7 ∷ 7 ∷ 0 ∷ 0 ∷ []) (7 ∷ 1 ∷ 0 ∷ 0 ∷ []) ≡ 0 ∷ 6 ∷ 0 ∷ 0 ∷ []
unfolding gap_reasons two_reasons two_model owed within_each within less some_below kept_below has with
gap_blames = refl
