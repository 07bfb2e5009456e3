use Rattle.std.proofs.Common.{◌/◌, ◌^◌, eqb, sym, ap, ◌∙◌, arith}
use Rattle.std.proofs.lemmas.Nat.{and_mask}
use Rattle.std.proofs.lemmas.Bool.{le-ltb}
use Rattle.terms.proofs.Bits.{has_shifted, has_high}
use Rattle.terms.proofs.masks.has.Goals as goal

pub returns-then-option-lt32 : goal.returns-then-option-lt32
returns-then-option-lt32 c =
    ap (λ x. eqb x 1) (and_mask (c.args.mask / 2 ^ c.args.option) 1) ∙ sym (has_shifted c.args.mask c.args.option)

pub returns-else-option-lt32 : goal.returns-else-option-lt32
returns-else-option-lt32 c =
    le-ltb _ _ c.if-option-lt32.false ∙ sym (has_high 32 c.args.mask c.args.option (omega arith) c.if-option-lt32.false)
