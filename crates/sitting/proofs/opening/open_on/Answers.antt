use Rattle.std.proofs.Common.{◌≡◌, true, false, map, length, ap, ◌∙◌}
use Rattle.record.specs.Calls.{opened}
use Rattle.lines.specs.Marks.{noted}
use Rattle.terms.specs.Denials.{denied_text}
use Rattle.sitting.specs.Tales.{tale, answered}
use Rattle.sitting.specs.Closings.{closing_told}
use Rattle.sitting.specs.Scenes.{all_obeyed}
use Rattle.sitting.specs.Sittings.{opened_text}
use Rattle.sitting.proofs.TaleLaws.{tale_answered}
use Rattle.sitting.proofs.OpeningLaws.{book_granted, book_denied}
use Rattle.sitting.proofs.opening.open_on.Goals as goal

pub returns-in_ok-attend-in-Ok : goal.returns-in_ok-attend-in-Ok
unfolding opened
returns-in_ok-attend-in-Ok g c =
    let b = g.B.Book.model c.args.book.now in
    let t = tale c.args.told.now in
    let text = c.args.opening.line.text.now in
    let calls = map noted c.args.opening.calls.now in
    let book = ap (λ s. s.book) c.in-Ok.ensures.sheet in
    let state = ap (λ s. s.state) c.in-Ok.ensures.sheet in
    let count : c.count-questions.result ≡ length c.args.opening.sizes.now = c.count-questions.ensures ∙ c.docket.ensures.count ∙ ap (λ s. s.count) state in
    let told = tale_answered c.args.told.now c.answer.new.self text (opened_text c.count-questions.result c.rules-rules.result) c.in_ok-answer-in-Ok.ensures.text c.answer.ensures.sound
    ∙ (λ i. answered text (opened_text (count i) (c.rules-rules.ensures i)) t) in
    let all = c.in_ok-attend-in-Ok.ensures
    ∙ (λ i. closing_told b
    (all_obeyed (g.B.Book.model (book i)) (g.B.ReasoningBook.reasons (book i)) calls (record { state = state i; tale = told i })).state
    (all_obeyed (g.B.Book.model (book i)) (g.B.ReasoningBook.reasons (book i)) calls (record { state = state i; tale = told i })).tale) in
    (λ i. record { done = true; tale = all i })
    ∙ book_granted (noted c.args.opening.line) c.args.opening.sizes.now calls t b (g.B.ReasoningBook.reasons c.args.book.now) c.in-Ok.ensures.answer

pub returns-in_ok-answer-in-Err : goal.returns-in_ok-answer-in-Err
returns-in_ok-answer-in-Err g c =
    let told = tale_answered c.args.told.now c.answer-in-Err.new.self c.args.opening.line.text.now (denied_text c.in-Err.refusal) c.in_ok-answer-in-Err.ensures.text c.answer-in-Err.ensures.sound in
    (λ i. record { done = false; tale = told i }) ∙ book_denied _ _ _ _ _ _ c.in-Err.refusal c.in-Err.ensures.answer
