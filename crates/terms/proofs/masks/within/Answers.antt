use Rattle.std.proofs.Common.{eqb, ap}
use Rattle.terms.specs.Masks.{within}
use Rattle.terms.proofs.masks.within.Goals as goal

pub returns : goal.returns
unfolding within
returns c = ap (λ x. eqb x 0) c.less.ensures
