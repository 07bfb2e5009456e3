use Rattle.std.proofs.Common.{◌-◌, ◌^◌, sym, ap, ◌∙◌, arith}
use lib.Bits.{bit_and}
use lib.Pow.{pow-lt}
use Rattle.std.proofs.lemmas.Nat.{one_shl}
use Rattle.std.proofs.lemmas.Bool.{lt-ltb, le-ltb, cond-true, cond-false}
use Rattle.terms.specs.Masks.{without}
use Rattle.terms.proofs.MaskLaws.{less_code}
use Rattle.terms.proofs.masks.without.Goals as goal

pub returns-then-option-lt32 : goal.returns-then-option-lt32
unfolding without
returns-then-option-lt32 c =
    ap (λ x. bit_and c.args.mask (4294967295 - x)) (one_shl c.args.option 32 c.if-option-lt32.true)
    ∙ less_code c.args.mask (2 ^ c.args.option) (omega arith) (pow-lt c.if-option-lt32.true)
    ∙ sym (cond-true _ _ _ (lt-ltb _ _ c.if-option-lt32.true))

pub returns-else-option-lt32 : goal.returns-else-option-lt32
unfolding without
returns-else-option-lt32 c = sym (cond-false _ _ _ (le-ltb _ _ c.if-option-lt32.false))
