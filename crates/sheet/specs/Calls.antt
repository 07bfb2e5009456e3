-- What the calls on a sheet answer, from plain values. Assumes nothing.
use Rattle.std.specs.Prelude.{ℕ, not, None, Option, nat_lt}
use Rattle.terms.specs.Masks.{has}
use Rattle.terms.specs.Scopes.{questions_of}
use Rattle.terms.specs.declared.refusal.Refusal.{Refusal}
use Rattle.terms.specs.declared.refusal.Refusal.TheVariants.{NoSuchQuestion, NoSuchRule, RuleOffSheet, PlacementStands}
use Rattle.books.specs.Plain.{Plain}
use Rattle.record.specs.State.{State}
use Rattle.record.specs.Told.{refuse}
use Rattle.record.specs.Calls.{all_below}

unfoldable pub rule_fault : Plain → State → ℕ → Option Refusal
rule_fault b s r =
    refuse (not (nat_lt r b.rules)) (NoSuchRule r)
    (refuse (not (all_below s.count (questions_of (b.scope r)))) (RuleOffSheet r)
    (refuse (has s.placed r) (PlacementStands r) None))

unfoldable pub question_fault : State → ℕ → Option Refusal
question_fault s q = refuse (not (nat_lt q s.count)) (NoSuchQuestion q) None
