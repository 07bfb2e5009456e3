use Rattle.std.proofs.Common.{arith}
use Rattle.terms.proofs.MaskLaws.{less_code}
use Rattle.terms.proofs.masks.less.Goals as goal

pub returns : goal.returns
returns c = less_code c.args.mask c.args.other (omega arith) (omega arith)
