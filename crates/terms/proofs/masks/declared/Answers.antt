use Rattle.std.proofs.Common.{◌≡◌, ◌-◌, ◌^◌, min, ap, ◌∙◌, arith}
use Rattle.std.proofs.lemmas.Nat.{one_shl}
use Rattle.terms.specs.Masks.{declared}
use Rattle.terms.proofs.masks.declared.Goals as goal

pub returns-then-size-lt32 : goal.returns-then-size-lt32
unfolding declared
returns-then-size-lt32 c =
    let e : c.args.size ≡ min c.args.size 32 = omega arith in
    ap (λ x. x - 1) (one_shl c.args.size 32 c.if-size-lt32.true ∙ ap (λ k. 2 ^ k) e)

pub returns-else-size-lt32 : goal.returns-else-size-lt32
unfolding declared
returns-else-size-lt32 c =
    let e : 32 ≡ min c.args.size 32 = omega arith in
    ap (λ k. 2 ^ k - 1) e
