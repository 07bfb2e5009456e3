use Rattle.std.proofs.Common.{◌≡◌, min, ◌++◌, length, codes, sym, refl, ap, ◌∙◌, ap₂, rules}
use Rattle.std.proofs.lemmas.List.{length_push}
use Rattle.std.proofs.Output.{has_written_of_eq, has_written_append, writes_in_calls_nil}
use Rattle.std.proofs.lemmas.Slice.Zip.{zip_turn, zip_end}
use Rattle.showing.specs.Texts.{named_text, reason_below}
use Rattle.showing.proofs.TextLaws.{because_none, because_some, reason_more}
use Rattle.showing.proofs.logged.BecauseDisplay.fmt.Goals as goal

pub returns-then-is_empty-clause-writes : goal.returns-then-is_empty-clause-writes
returns-then-is_empty-clause-writes g c = λ plain ok.
    has_written_of_eq g.W.Write.write_str_gives _ _ _ _ (sym (because_none c.args.self.now.questions c.args.self.now.reason (sym c.is_empty.ensures ∙ c.if-is_empty.true)))
    (record { wrote = writes_in_calls_nil g.W.Write.write_str_gives _; plain = plain })

pub loop-question-init : goal.loop-question-init
unfolding reason_below
loop-question-init g c = λ plain. record { wrote = writes_in_calls_nil g.W.Write.write_str_gives _; plain = plain }

pub loop-question-preserved : goal.loop-question-preserved
loop-question-preserved g c = λ plain.
    let x = c.loop-question.invariant plain in
    let r = c.args.self.now in
    let k = c.loop-question.yielded in
    let turn = zip_turn r.questions r.reason k c.into_iter-question-iterator.result c.loop-question.question-iterator c.next.new.self c.next.result (cc) (cc) c.loop-question.yielded_by (c.in-Some.question, c.in-Some.mask) c.in-Some.is c.next.ensures.steps in
    has_written_of_eq g.W.Write.write_str_gives _ _ _ _
    (ap₂ (λ q m. reason_below (length k) r.questions r.reason ++ named_text q m) (turn.2 0) (turn.3 0) ∙ sym (reason_more (length k) r.questions r.reason) ∙ ap (λ n. reason_below n r.questions r.reason) (sym (length_push k (c.in-Some.question, c.in-Some.mask))))
    (has_written_append g.W.Write.write_str_gives _ _ _ _ _ x (c.in_ok-write.ensures.writes x.plain refl))

pub returns-clause-writes : goal.returns-clause-writes
returns-clause-writes g c = λ plain ok.
    let x = c.in_ok-write_str.ensures.writes plain refl in
    let r = c.args.self.now in
    let n = zip_end r.questions r.reason c.loop-question.yielded c.into_iter-question-iterator.result c.loop-question.question-iterator c.next.new.self c.next.result (cc) (cc) c.loop-question.yielded_by c.in-None.is c.next.ensures.steps in
    let four : min (length r.questions) (length r.reason) ≡ 4 = search rules in
    has_written_of_eq g.W.Write.write_str_gives _ _ _ _
    (ap (λ k. codes " because" ++ reason_below k c.args.self.now.questions c.args.self.now.reason) n
    ∙ ap (λ k. codes " because" ++ reason_below k r.questions r.reason) four
    ∙ sym (because_some c.args.self.now.questions c.args.self.now.reason (sym c.is_empty.ensures ∙ c.if-is_empty.false)))
    (has_written_append g.W.Write.write_str_gives _ _ _ _ _ x (c.loop-question.invariant x.plain))
