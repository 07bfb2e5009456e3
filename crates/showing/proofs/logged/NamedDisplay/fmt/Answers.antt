use Rattle.std.proofs.Common.{◌≡◌, sym, refl, ap, ◌∙◌, arith}
use Rattle.std.proofs.Output.{has_written_of_eq, has_written_to_eq, has_written_append, writes_in_calls_nil}
use Rattle.showing.specs.Texts.{named_below, named_text}
use Rattle.showing.proofs.TextLaws.{named_more, named_same}
use Rattle.showing.proofs.logged.NamedDisplay.fmt.Goals as goal
use Rattle.showing.proofs.logged.NamedDisplay.fmt.Goals.{then-has+in_ok-write, else-has}

pub loop-option-init : goal.loop-option-init
unfolding named_below
loop-option-init g c = λ plain. record { wrote = writes_in_calls_nil g.W.Write.write_str_gives _; plain = plain }

pub loop-option-preserved : goal.loop-option-preserved
loop-option-preserved g c = λ plain.
    let x = c.loop-option.invariant plain in
    elim c.if-has.branch [
      | then-has+in_ok-write w ↦
          has_written_of_eq g.W.Write.write_str_gives _ _ _ _ (sym (named_more c.loop-option.option-counter c.args.self.now.question c.args.self.now.mask (sym c.has.ensures ∙ w.if-has.true)))
          (has_written_to_eq g.W.Write.write_str_gives _ _ _ _ w.f-is (has_written_append g.W.Write.write_str_gives _ _ _ _ _ x (w.in_ok-write.ensures.writes x.plain refl)))
      | else-has w ↦
          has_written_of_eq g.W.Write.write_str_gives _ _ _ _ (sym (named_same c.loop-option.option-counter c.args.self.now.question c.args.self.now.mask (sym c.has.ensures ∙ w.if-has.false)))
          (has_written_to_eq g.W.Write.write_str_gives _ _ _ _ w.f-is x)
    ]

pub returns-clause-writes : goal.returns-clause-writes
unfolding named_text
returns-clause-writes g c = λ plain ok.
    let n : c.loop-option.option-counter ≡ 32 = omega arith in
    has_written_of_eq g.W.Write.write_str_gives _ _ _ _ (ap (λ k. named_below k c.args.self.now.question c.args.self.now.mask) n) (c.loop-option.invariant plain)
