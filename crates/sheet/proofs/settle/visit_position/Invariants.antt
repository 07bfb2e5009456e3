use Rattle.std.proofs.Common.{◌≡◌}
use Rattle.record.specs.View.{view}
use Rattle.sheet.specs.Settle.{upto, visit_option}
use Rattle.sheet.proofs.settle.visit_position.Given as goal

abbrev pub invariant-loop-option : goal.invariant-loop-option
invariant-loop-option g l =
    view l.state ≡ upto (visit_option (g.B.Book.model l.book) (g.B.ReasoningBook.reasons l.book) l.rule l.position) l.option (view l.initial.state)
