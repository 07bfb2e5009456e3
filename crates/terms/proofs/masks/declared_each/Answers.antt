use Rattle.std.proofs.Common.{◌≡◌, cond, length, get_or, ◌∙◌, nat_lt, rules}
use Rattle.terms.specs.Masks.{declared}
use Rattle.terms.proofs.FromFn.{from_fn_is}
use Rattle.terms.proofs.MaskLaws.{length-declared_each, get_or-declared_each}
use Rattle.terms.proofs.masks.declared_each.Goals as goal

pub returns : goal.returns
returns c =
    let n : length c.args.sizes ≡ 16 = search rules in
    from_fn_is _ (λ i. cond (nat_lt i c.args.count) (declared (get_or c.args.sizes i 0)) 0) _ c.from_fn.result _ 16 0 c.from_fn.ensures.items (λ i y q l e. search rules)
    (length-declared_each c.args.count c.args.sizes ∙ n) (λ k l. get_or-declared_each c.args.count c.args.sizes k)
