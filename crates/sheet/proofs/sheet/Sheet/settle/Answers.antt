use Rattle.std.proofs.Common.{◌≡◌, ◌≤◌, true, false, eqb, length, sym, refl, ap, ◌∙◌, subst, arith}
use Rattle.std.proofs.lemmas.Bool.{not-true, not-false, eqb-false}
use Rattle.record.specs.View.{view}
use Rattle.record.specs.State.{State}
use Rattle.record.specs.Calls.{standing_each}
use Rattle.record.proofs.RecordLaws.{sound_of}
use Rattle.sheet.specs.Settle.{round, rounds, settled}
use Rattle.sheet.specs.Valid.{Valid}
use Rattle.sheet.specs.Closed.{Closed, Greatest}
use Rattle.sheet.proofs.Later.{later_lines}
use Rattle.sheet.proofs.Keeps.{settled_valid}
use Rattle.sheet.proofs.Fixed.{lines_few, round_later, settled_still, settled_closed, settled_greatest}
use Rattle.sheet.proofs.Steps.{rounds_on, rounds_over}
use Rattle.sheet.proofs.sheet.Sheet.settle.Given as given
use Rattle.sheet.proofs.sheet.Sheet.settle.Goals as goal

pub rounds-init : goal.rounds-init
rounds-init g c = (refl, (513, omega arith, refl))

pub rounds-smaller : goal.rounds-smaller
rounds-smaller g c =
    let b = g.B.Book.model c.rounds.self-inside.book.now in
    let why = g.B.ReasoningBook.reasons c.rounds.self-inside.book.now in
    let s = view c.rounds.self-inside.state in
    let t = view c.go_round.new.state in
    let loud : eqb (length t.log) (length s.log) ≡ false = not-true _ (sym c.go_round.ensures.answer ∙ c.rounds-test.true) in
    let grown : length s.log ≤ length t.log = subst (λ u. length s.log ≤ length u.log) (sym c.go_round.ensures.after) (later_lines s (round b why s) (round_later b why s)) in
    let few : length t.log ≤ 512 = lines_few b why t (sound_of c.go_round.new.state) in
    omega (arith, eqb-false (length t.log) (length s.log) loud)

pub rounds-preserved : goal.rounds-preserved
rounds-preserved g c =
    let b = g.B.Book.model c.rounds.self-inside.book.now in
    let why = g.B.ReasoningBook.reasons c.rounds.self-inside.book.now in
    let s = view c.rounds.self-inside.state in
    let t = view c.go_round.new.state in
    let loud : eqb (length t.log) (length s.log) ≡ false = not-true _ (sym c.go_round.ensures.answer ∙ c.rounds-test.true) in
    let grown : length s.log ≤ length t.log = subst (λ u. length s.log ≤ length u.log) (sym c.go_round.ensures.after) (later_lines s (round b why s) (round_later b why s)) in
    (c.rounds.invariant.0, rounds_on b why s t (rounds b why 513 (view c.write_picks.new.state)) c.go_round.ensures.after loud grown (lines_few b why s (sound_of c.rounds.self-inside.state)) c.rounds.invariant.1)

-- a settle comes to its definition
over : (g : given.Over) (c : goal.After-rounds g) → view c.go_round.new.state ≡ settled (g.B.Book.model c.self.inside.book.now) (g.B.ReasoningBook.reasons c.self.inside.book.now) (view c.self.inside.state)
unfolding settled
over g c =
    let b = g.B.Book.model c.self.inside.book.now in
    let why = g.B.ReasoningBook.reasons c.self.inside.book.now in
    let here = c.rounds.self-inside.book.now in
    let s = view c.rounds.self-inside.state in
    let t = view c.go_round.new.state in
    let quiet : eqb (length t.log) (length s.log) ≡ true = not-false _ (sym c.go_round.ensures.answer ∙ c.rounds-test.false) in
    rounds_over (g.B.Book.model here) (g.B.ReasoningBook.reasons here) s t
    (rounds (g.B.Book.model here) (g.B.ReasoningBook.reasons here) 513 (view c.write_picks.new.state))
    c.go_round.ensures.after quiet (lines_few b why s (sound_of c.rounds.self-inside.state)) c.rounds.invariant.1
    ∙ ap (λ k. rounds (g.B.Book.model k.now) (g.B.ReasoningBook.reasons k.now) 513 (view c.write_picks.new.state)) c.rounds.invariant.0
    ∙ ap (rounds b why 513) c.write_picks.ensures

pub returns-clause-after : goal.returns-clause-after
returns-clause-after g c =
    (λ i. record { book = (c.rounds.invariant.0 i).now; state = over g c i })
    ∙ ap (λ s. record { book = s.book; state = settled (g.B.Book.model s.book) (g.B.ReasoningBook.reasons s.book) s.state }) c.self.view_is

-- what a settled state keeps, said of the sheet as it was given
module _ (g : given.Over) (c : goal.After-rounds g) where
  carried : (P : g.row.B.Denot → State → Type 0) → P c.self.inside.book.now (settled (g.B.Book.model c.self.inside.book.now) (g.B.ReasoningBook.reasons c.self.inside.book.now) (view c.self.inside.state)) → P c.args.self.now.book (view c.go_round.new.state)
  carried P h = subst (λ s. P s.book (view c.go_round.new.state)) c.self.view_is (subst (P c.self.inside.book.now) (sym (over g c)) h)

  started : Valid (g.B.Book.model c.args.self.now.book) c.args.self.now.state → Valid (g.B.Book.model c.self.inside.book.now) (view c.self.inside.state)
  started v = subst (λ s. Valid (g.B.Book.model s.book) s.state) (sym c.self.view_is) v

pub returns-clause-still : goal.returns-clause-still
returns-clause-still g c =
    carried g c (λ k s. round (g.B.Book.model k) (g.B.ReasoningBook.reasons k) s ≡ s)
    (settled_still _ _ c.reasonable.ensures (view c.self.inside.state) (sound_of c.self.inside.state))

pub returns-clause-valid : goal.returns-clause-valid
returns-clause-valid g c = λ v.
    carried g c (λ k s. Valid (g.B.Book.model k) s)
    (settled_valid _ _ c.reasonable.ensures (view c.self.inside.state) (sound_of c.self.inside.state) (started g c v))

pub returns-clause-closed : goal.returns-clause-closed
returns-clause-closed g c = λ v.
    carried g c (λ k s. Closed (g.B.Book.model k) s (standing_each s))
    (settled_closed _ _ c.lawful.ensures c.reasonable.ensures (view c.self.inside.state) (sound_of c.self.inside.state) (started g c v))

pub returns-clause-greatest : goal.returns-clause-greatest
returns-clause-greatest g c = λ v.
    carried g c (λ k s. Greatest (g.B.Book.model k) s (standing_each s))
    (settled_greatest _ _ c.lawful.ensures c.reasonable.ensures (view c.self.inside.state) (sound_of c.self.inside.state) (started g c v))
