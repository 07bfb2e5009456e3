use Rattle.std.proofs.Common.{◌≡◌}
use Rattle.record.specs.View.{view}
use Rattle.sheet.specs.Settle.{upto, visit_position}
use Rattle.sheet.proofs.settle.visit_rule.Given as goal

abbrev pub invariant-loop-position : goal.invariant-loop-position
invariant-loop-position g l =
    view l.state ≡ upto (visit_position (g.B.Book.model l.book) (g.B.ReasoningBook.reasons l.book) l.rule) l.position (view l.initial.state)
