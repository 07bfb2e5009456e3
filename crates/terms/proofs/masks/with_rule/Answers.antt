use Rattle.std.proofs.Common.{sym, ap, ◌∙◌}
use lib.Bits.{bit_or}
use Rattle.std.proofs.lemmas.Nat.{one_shl}
use Rattle.std.proofs.lemmas.Bool.{lt-ltb, le-ltb, cond-true, cond-false}
use Rattle.terms.specs.Masks.{with_rule}
use Rattle.terms.proofs.masks.with_rule.Goals as goal

pub returns-then-rule-lt64 : goal.returns-then-rule-lt64
unfolding with_rule
returns-then-rule-lt64 c =
    ap (bit_or c.args.rules) (one_shl c.args.rule 64 c.if-rule-lt64.true) ∙ sym (cond-true _ _ _ (lt-ltb _ _ c.if-rule-lt64.true))

pub returns-else-rule-lt64 : goal.returns-else-rule-lt64
unfolding with_rule
returns-else-rule-lt64 c = sym (cond-false _ _ _ (le-ltb _ _ c.if-rule-lt64.false))
