use Rattle.std.proofs.Common.{◌≡◌, [], ◌∷◌, ◌++◌, decimal, sym, refl, ap, ◌∙◌, arith}
use lib.Utf8.{encode}
use Rattle.std.proofs.Output.{has_written_of_eq, has_written_to_eq, has_written_append, writes_in_calls_nil}
use Rattle.showing.specs.Texts.{gap, options_below}
use Rattle.showing.proofs.TextLaws.{options_more, options_gap, options_same, options_text_none, options_text_some}
use Rattle.showing.proofs.options.OptionsDisplay.fmt.Goals as goal
use Rattle.showing.proofs.options.OptionsDisplay.fmt.Goals.{then-has+in_ok-write, else-has}

pub returns-then-self-eq0-clause-writes : goal.returns-then-self-eq0-clause-writes
returns-then-self-eq0-clause-writes g c = λ plain ok. has_written_of_eq g.W.Write.write_str_gives _ _ _ _ (sym (options_text_none _ c.if-self-eq0.true)) (c.write_str.ensures.writes plain ok)

pub loop-option-init : goal.loop-option-init
unfolding gap options_below
loop-option-init g c = (([], (refl, refl)), refl, λ plain. record { wrote = writes_in_calls_nil g.W.Write.write_str_gives _; plain = plain })

pub loop-option-preserved : goal.loop-option-preserved
unfolding encode
loop-option-preserved g c =
    elim c.if-has.branch [
      | then-has+in_ok-write w ↦
          let more = options_more c.loop-option.option-counter c.args.self.now.0 (sym c.has.ensures ∙ w.if-has.true) in
          let next = options_gap c.loop-option.option-counter c.args.self.now.0 (sym c.has.ensures ∙ w.if-has.true) (omega arith) in (
            (32 ∷ [], (refl, sym (ap (λ s. s.now) w.gap-is))),
            ap (λ s. s.now) w.gap-is ∙ sym next,
            λ plain.
                let x = c.loop-option.invariant.2 plain in
                has_written_of_eq g.W.Write.write_str_gives _ _ _ _ (ap (λ m. options_below c.loop-option.option-counter c.args.self.now.0 ++ (m ++ decimal c.loop-option.option-counter)) c.loop-option.invariant.1 ∙ sym more)
                (has_written_to_eq g.W.Write.write_str_gives _ _ _ _ w.f-is (has_written_append g.W.Write.write_str_gives _ _ _ _ _ x (w.in_ok-write.ensures.writes x.plain refl))),
          )
      | else-has w ↦
          let same = options_same c.loop-option.option-counter c.args.self.now.0 (sym c.has.ensures ∙ w.if-has.false) in
          let kept = ap (λ s. s.now) w.gap-is in (
            (c.loop-option.invariant.0.0, (c.loop-option.invariant.0.1.0, c.loop-option.invariant.0.1.1 ∙ sym kept)),
            kept ∙ c.loop-option.invariant.1 ∙ sym (ap (gap _) same),
            λ plain. has_written_of_eq g.W.Write.write_str_gives _ _ _ _ (sym same) (has_written_to_eq g.W.Write.write_str_gives _ _ _ _ w.f-is (c.loop-option.invariant.2 plain)),
          )
    ]

pub returns-clause-writes : goal.returns-clause-writes
returns-clause-writes g c = λ plain ok.
    let n : c.loop-option.option-counter ≡ 32 = omega arith in
    has_written_of_eq g.W.Write.write_str_gives _ _ _ _ (ap (λ k. options_below k c.args.self.now.0) n ∙ sym (options_text_some _ c.if-self-eq0.false)) (c.loop-option.invariant.2 plain)
