use Rattle.std.proofs.Common.{sym, ap, ◌∙◌}
use lib.Bits.{bit_or}
use Rattle.std.proofs.lemmas.Nat.{one_shl}
use Rattle.std.proofs.lemmas.Bool.{lt-ltb, le-ltb, cond-true, cond-false}
use Rattle.terms.specs.Masks.{with}
use Rattle.terms.proofs.masks.with.Goals as goal

pub returns-then-option-lt32 : goal.returns-then-option-lt32
unfolding with
returns-then-option-lt32 c =
    ap (bit_or c.args.mask) (one_shl c.args.option 32 c.if-option-lt32.true) ∙ sym (cond-true _ _ _ (lt-ltb _ _ c.if-option-lt32.true))

pub returns-else-option-lt32 : goal.returns-else-option-lt32
unfolding with
returns-else-option-lt32 c = sym (cond-false _ _ _ (le-ltb _ _ c.if-option-lt32.false))
