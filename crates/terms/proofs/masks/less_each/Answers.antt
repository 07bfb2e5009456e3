use Rattle.std.proofs.Common.{◌≡◌, length, get_or, ◌∙◌, rules}
use Rattle.terms.specs.Masks.{less}
use Rattle.terms.proofs.FromFn.{from_fn_is}
use Rattle.terms.proofs.MaskLaws.{length-less_each, get_or-less_each}
use Rattle.terms.proofs.masks.less_each.Goals as goal

pub returns : goal.returns
returns c =
    let n : length c.args.masks ≡ 16 = search rules in
    from_fn_is _ (λ i. less (get_or c.args.masks i 0) (get_or c.args.others i 0)) _ c.from_fn.result _ 16 0 c.from_fn.ensures.items (λ i y q l e. search rules)
    (length-less_each c.args.masks c.args.others ∙ n) (λ k l. get_or-less_each c.args.masks c.args.others k)
