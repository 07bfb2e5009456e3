use Rattle.std.proofs.Common.{◌≡◌, ℕ, min, ltb, List, ◌++◌, length, take, drop, None, sym, ap, ◌∙◌, ap₂, inl, inr, arith}
use Rattle.std.proofs.lemmas.List.{take_all, drop_all}
use Rattle.std.proofs.lemmas.Bool.{lt-ltb, le-ltb, cases_lt}
use Rattle.terms.specs.declared.line.Line.{Line}
use Rattle.terms.specs.declared.refusal.Refusal.TheVariants.{TooFewLines}
use Rattle.record.specs.Told.{refuse}
use Rattle.record.specs.Calls.{copy_fault, overlaid}
use Rattle.record.proofs.state.Record.copy_log.Goals as goal

-- all that fits is written
whole : (log buffer : List Line) (i : ℕ) → i ≡ min (length log) (length buffer) → take i log ++ drop i buffer ≡ overlaid log buffer
unfolding overlaid
whole log buffer i e = elim (cases_lt (length buffer) (length log)) [
  | inl s ↦
      (let f : i ≡ length buffer = omega arith in
      ap₂ ◌++◌ (ap (λ k. take k log) f) (drop_all i buffer (omega arith) ∙ sym (drop_all (length log) buffer (omega arith))))
  | inr s ↦
      (let f : i ≡ length log = omega arith in
      ap₂ ◌++◌ (take_all i log (omega arith) ∙ sym (take_all (length buffer) log s)) (ap (λ k. drop k buffer) f))
]

pub returns-then-fit-log-clause-answer : goal.returns-then-fit-log-clause-answer
unfolding copy_fault
returns-then-fit-log-clause-answer c =
    ap (λ b. refuse b TooFewLines None) (sym (ap (λ log. ltb (length c.args.lines.now) (length log)) (sym c.log-log.ensures) ∙ lt-ltb _ _ (omega arith)))

pub returns-else-fit-log-clause-answer : goal.returns-else-fit-log-clause-answer
unfolding copy_fault
returns-else-fit-log-clause-answer c =
    ap (λ b. refuse b TooFewLines None) (sym (ap (λ log. ltb (length c.args.lines.now) (length log)) (sym c.log-log.ensures) ∙ le-ltb _ _ (omega arith)))

pub returns-then-fit-log-clause-buffer : goal.returns-then-fit-log-clause-buffer
returns-then-fit-log-clause-buffer c =
    let log = c.log-log.result.now in
    ap (λ t. t ++ drop c.min-fit.result c.args.lines.now) c.copy_from_slice.ensures.after ∙ whole log c.args.lines.now _ c.min-fit.ensures ∙ ap (λ l. overlaid l c.args.lines.now) c.log-log.ensures

pub returns-else-fit-log-clause-buffer : goal.returns-else-fit-log-clause-buffer
returns-else-fit-log-clause-buffer c =
    let log = c.log-log.result.now in
    ap (λ t. t ++ drop c.min-fit.result c.args.lines.now) c.copy_from_slice.ensures.after ∙ whole log c.args.lines.now _ c.min-fit.ensures ∙ ap (λ l. overlaid l c.args.lines.now) c.log-log.ensures
