use Rattle.std.proofs.Common.{sym, ap, ◌∙◌, subst}
use Rattle.record.specs.View.{view}
use Rattle.record.specs.Told.{told, unless}
use Rattle.record.specs.Calls.{noted_pick, pick_fault}
use Rattle.sheet.specs.Valid.{Valid}
use Rattle.sheet.proofs.Notes.{unless_keeps, pick_valid}
use Rattle.sheet.proofs.sheet.Sheet.pick.Goals as goal

pub returns-clause-answer : goal.returns-clause-answer
returns-clause-answer g c = c.pick.ensures.answer ∙ ap (λ s. pick_fault s.state c.args.question c.args.option) c.self.view_is

pub returns-clause-after : goal.returns-clause-after
returns-clause-after g c =
    (λ i. record { book = c.self.inside.book.now; state = c.pick.ensures.after i })
    ∙ ap (λ s. record { book = s.book; state = unless (told c.pick.result) s.state (noted_pick s.state c.args.question c.args.option) }) c.self.view_is

pub returns-clause-valid : goal.returns-clause-valid
returns-clause-valid g c = λ v.
    let model = g.B.Book.model in
    let s = view c.self.inside.state in
    let b = model c.self.inside.book.now in
    subst (λ s. Valid (model s.book) (view c.pick.new.self)) c.self.view_is
    (subst (Valid b) (sym c.pick.ensures.after)
    (unless_keeps (Valid b) (told c.pick.result) s (noted_pick s c.args.question c.args.option) (subst (λ s. Valid (model s.book) s.state) (sym c.self.view_is) v)
    (λ e. pick_valid b s c.args.question c.args.option (sym c.pick.ensures.answer ∙ e) (subst (λ s. Valid (model s.book) s.state) (sym c.self.view_is) v))))
