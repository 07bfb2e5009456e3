use Rattle.std.proofs.Common.{◌≡◌, ◌<◌, ◌≤◌, sym, refl, ap, ◌∙◌, subst, arith}
use Rattle.record.specs.View.{view}
use Rattle.record.specs.Told.{told, unless}
use Rattle.record.specs.Calls.{noted_rule, place_fault}
use Rattle.sheet.specs.Calls.{rule_fault}
use Rattle.sheet.specs.Valid.{Valid}
use Rattle.sheet.proofs.Notes.{unless_keeps, place_valid, same_fault, no_rule}
use Rattle.sheet.proofs.sheet.Sheet.place.Given as given
use Rattle.sheet.proofs.sheet.Sheet.place.Goals as goal

pub returns-then-rule-rules : goal.returns-then-rule-rules
returns-then-rule-rules g c =
    let b = g.B.Book.model c.self.inside.book.now in
    let h : b.rules ≤ c.args.rule = omega (arith, c.rules.ensures) in
    record {
      answer = no_rule b (view c.self.inside.state) c.args.rule h ∙ ap (λ s. rule_fault (g.B.Book.model s.book) s.state c.args.rule) c.self.view_is;
      after = refl;
      valid = λ v. v;
    }

-- the record answers as the sheet has to
answers : (g : given.Over) (c : goal.After-place g) → told c.place.result ≡ rule_fault (g.B.Book.model c.self.inside.book.now) (view c.self.inside.state) c.args.rule
answers g c =
    let b = g.B.Book.model c.self.inside.book.now in
    let s = view c.self.inside.state in
    let h : c.args.rule < b.rules = omega (arith, c.rules.ensures) in
    c.place.ensures.answer ∙ ap (place_fault s c.args.rule) c.scope-scope.ensures ∙ same_fault b s c.args.rule c.lawful.ensures h

leaves : (g : given.Over) (c : goal.After-place g) → view c.place.new.self ≡ unless (told c.place.result) (view c.self.inside.state) (noted_rule (view c.self.inside.state) c.args.rule ((g.B.Book.model c.self.inside.book.now).scope c.args.rule))
leaves g c =
    let s = view c.self.inside.state in
    c.place.ensures.after ∙ ap (λ x. unless (told c.place.result) s (noted_rule s c.args.rule x)) c.scope-scope.ensures

pub returns-clause-answer : goal.returns-clause-answer
returns-clause-answer g c = answers g c ∙ ap (λ s. rule_fault (g.B.Book.model s.book) s.state c.args.rule) c.self.view_is

pub returns-clause-after : goal.returns-clause-after
returns-clause-after g c =
    (λ i. record { book = c.self.inside.book.now; state = leaves g c i })
    ∙ ap (λ s. record { book = s.book; state = unless (told c.place.result) s.state (noted_rule s.state c.args.rule ((g.B.Book.model s.book).scope c.args.rule)) }) c.self.view_is

pub returns-clause-valid : goal.returns-clause-valid
unfolding view
returns-clause-valid g c = λ v.
    let model = g.B.Book.model in
    let s = view c.self.inside.state in
    let b = model c.self.inside.book.now in
    let w : Valid b s = subst (λ s. Valid (model s.book) s.state) (sym c.self.view_is) v in
    subst (λ s. Valid (model s.book) (view c.place.new.self)) c.self.view_is
    (subst (Valid b) (sym (leaves g c))
    (unless_keeps (Valid b) (told c.place.result) s (noted_rule s c.args.rule (b.scope c.args.rule)) w
    (λ e. place_valid b s c.args.rule c.lawful.ensures c.self.inside.state.rules (sym (answers g c) ∙ e) w)))
