use Rattle.std.proofs.Common.{arith}
use Rattle.terms.proofs.MaskLaws.{held_code}
use Rattle.terms.proofs.masks.held.Goals as goal

pub returns : goal.returns
returns c = held_code c.args.mask (omega arith)
