use Rattle.std.proofs.Common.{◌≡◌}
use Rattle.record.specs.View.{view}
use Rattle.sheet.specs.Settle.{upto, pick_question}
use Rattle.sheet.proofs.settle.write_picks.Given as goal

abbrev pub invariant-loop-question : goal.invariant-loop-question
invariant-loop-question l = view l.state ≡ upto pick_question l.question (view l.initial.state)
