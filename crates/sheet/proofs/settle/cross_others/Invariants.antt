use Rattle.std.proofs.Common.{◌≡◌}
use Rattle.record.specs.View.{view}
use Rattle.sheet.specs.Settle.{upto, cross_other}
use Rattle.sheet.proofs.settle.cross_others.Given as goal

abbrev pub invariant-loop-option : goal.invariant-loop-option
invariant-loop-option l = view l.state ≡ upto (cross_other l.question l.picked) l.option (view l.initial.state)
