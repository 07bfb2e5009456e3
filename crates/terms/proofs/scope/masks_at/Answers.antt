use Rattle.std.proofs.Common.{rules}
use Rattle.terms.specs.Scopes.{mask_at}
use Rattle.terms.proofs.FromFn.{from_fn_is}
use Rattle.terms.proofs.ScopeLaws.{masks_length, masks_below}
use Rattle.terms.proofs.scope.masks_at.Goals as goal

pub returns : goal.returns
returns c =
    from_fn_is _ (mask_at c.args.masks c.args.scope) _ c.from_fn.result _ 4 0 c.from_fn.ensures.items (λ i y q l e. search rules)
    (masks_length c.args.masks c.args.scope) (masks_below c.args.masks c.args.scope)
