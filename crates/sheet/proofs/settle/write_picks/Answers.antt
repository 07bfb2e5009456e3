use Rattle.std.proofs.Common.{get_or, None, sym, ap, ◌∙◌}
use Rattle.record.specs.View.{view}
use Rattle.sheet.specs.Settle.{pick_question}
use Rattle.sheet.proofs.Steps.{upto_more, question_picked, question_unpicked}
use Rattle.sheet.proofs.settle.write_picks.Goals as goal
use Rattle.sheet.proofs.settle.write_picks.Goals.{in-Some, in_default}

pub loop-question-preserved : goal.loop-question-preserved
unfolding view
loop-question-preserved c =
    let s = view c.loop-question.state in
    let q = c.loop-question.question in
    let start = view c.args.state.now in
    elim c.match-pick.branch [
      | in-Some w ↦
          ap view w.state-is ∙ w.cross_others.ensures
          ∙ question_picked q s w.in-Some.picked (ap (λ d. get_or d.picks q None) (sym c.docket.ensures) ∙ sym w.in-Some.ensures)
          ∙ ap (pick_question q) c.loop-question.invariant ∙ upto_more pick_question q start
      | in_default w ↦
          ap view w.state-is
          ∙ question_unpicked q s (ap (λ d. get_or d.picks q None) (sym c.docket.ensures) ∙ sym c.pick.ensures ∙ w.in_default.is)
          ∙ ap (pick_question q) c.loop-question.invariant ∙ upto_more pick_question q start
    ]
