use Rattle.std.proofs.Common.{◌+◌, get_or, drop, sym, ap, ◌∙◌, inl, inr, arith}
use Rattle.std.proofs.lemmas.List.{at_drop_more, at_drop_all}
use Rattle.books.specs.Questions.{fresh}
use Rattle.books.proofs.QuestionLaws.{fresh_bad, fresh_good, fresh_none}
use Rattle.books.proofs.questions.fresh.Goals as goal
use Rattle.books.proofs.questions.fresh.Goals.{then-q-gt15-via-then-q-gt15, then-q-gt15-via-else-q-gt15+then-has}

pub returns-then-q-gt15 : goal.returns-then-q-gt15
returns-then-q-gt15 c =
    let xs = c.args.questions.now in
    let i = c.loop-q.q-index in
    sym
    (sym c.loop-q.invariant
    ∙ at_drop_more (fresh c.loop-q.seen) xs i 0 c.loop-q-test.true
    ∙ fresh_bad c.loop-q.seen (get_or xs i 0) (drop (i + 1) xs)
    (elim c.then-q-gt15.branch [
      | then-q-gt15-via-then-q-gt15 w ↦ inl (omega (arith, w.if-q-gt15.true))
      | then-q-gt15-via-else-q-gt15+then-has w ↦ inr (sym w.has.ensures ∙ w.if-has.true)
    ]))

pub loop-q-preserved : goal.loop-q-preserved
loop-q-preserved c =
    let xs = c.args.questions.now in
    let i = c.loop-q.q-index in
    ap (λ m. fresh m (drop (i + 1) xs)) c.with-seen.ensures
    ∙ sym
    (sym c.loop-q.invariant
    ∙ at_drop_more (fresh c.loop-q.seen) xs i 0 c.loop-q-test.true
    ∙ fresh_good c.loop-q.seen (get_or xs i 0) (drop (i + 1) xs) (omega (arith, c.if-q-gt15.false)) (sym c.if-has.ensures))

pub returns : goal.returns
returns c = sym (sym c.loop-q.invariant ∙ at_drop_all (fresh c.loop-q.seen) c.args.questions.now c.loop-q.q-index c.loop-q-test.false ∙ fresh_none c.loop-q.seen)
