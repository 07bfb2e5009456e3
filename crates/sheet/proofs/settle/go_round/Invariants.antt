use Rattle.std.proofs.Common.{◌≡◌}
use Rattle.record.specs.View.{view}
use Rattle.sheet.specs.Settle.{upto, visit_rule}
use Rattle.sheet.proofs.settle.go_round.Given as goal

abbrev pub invariant-loop-rule : goal.invariant-loop-rule
invariant-loop-rule g l =
    view l.state ≡ upto (visit_rule (g.B.Book.model l.book) (g.B.ReasoningBook.reasons l.book)) l.rule (view l.initial.state)
