use Rattle.std.proofs.Common.{◌/◌, ◌^◌, eqb, sym, ap, ◌∙◌, arith}
use Rattle.std.proofs.lemmas.Nat.{and_mask}
use Rattle.std.proofs.lemmas.Bool.{le-ltb}
use Rattle.terms.proofs.Bits.{has_shifted, has_high}
use Rattle.terms.proofs.masks.has_rule.Goals as goal

pub returns-then-rule-lt64 : goal.returns-then-rule-lt64
returns-then-rule-lt64 c =
    ap (λ x. eqb x 1) (and_mask (c.args.rules / 2 ^ c.args.rule) 1) ∙ sym (has_shifted c.args.rules c.args.rule)

pub returns-else-rule-lt64 : goal.returns-else-rule-lt64
returns-else-rule-lt64 c =
    le-ltb _ _ c.if-rule-lt64.false ∙ sym (has_high 64 c.args.rules c.args.rule (omega arith) c.if-rule-lt64.false)
