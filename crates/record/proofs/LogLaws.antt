-- A log fits 512 lines, and more. Assumes nothing.
use Rattle.std.proofs.Common.{◌≡◌, ◌≤◌, List, ◌++◌, length, take, drop, None, ap, ◌∙◌, arith, length-append, le-ltb}
use Rattle.std.proofs.lemmas.List.{take_all, take-append-le}
use Rattle.terms.specs.declared.line.Line.{Line}
use Rattle.terms.specs.declared.refusal.Refusal.TheVariants.{TooFewLines}
use Rattle.record.specs.Told.{refuse}
use Rattle.record.specs.Calls.{copy_fault, overlaid}
use Rattle.record.specs.View.{view}
use Rattle.record.specs.declared.state.Record.{Record}
use Rattle.record.proofs.RecordLaws.{lines_le}

module _ (r : Record) (buffer : List Line) (h : 512 ≤ length buffer) where
  log_le : length (view r).log ≤ length buffer
  unfolding view
  log_le = omega (arith, h, lines_le r)

  pub fits_all : copy_fault (view r).log buffer ≡ None
  unfolding copy_fault
  fits_all = ap (λ b. refuse b TooFewLines None) (le-ltb (length buffer) (length (view r).log) log_le)

  -- the log stands first in a copy
  copied : overlaid (view r).log buffer ≡ (view r).log ++ drop (length (view r).log) buffer
  unfolding overlaid
  copied = ap (λ l. l ++ drop (length (view r).log) buffer) (take_all (length buffer) (view r).log log_le)

  pub copy_holds : length (view r).log ≤ length (overlaid (view r).log buffer)
  copy_holds = omega (arith, ap length copied ∙ length-append (view r).log (drop (length (view r).log) buffer))

  pub copy_begins : take (length (view r).log) (overlaid (view r).log buffer) ≡ (view r).log
  copy_begins = ap (take (length (view r).log)) copied ∙ take-append-le (length (view r).log) (view r).log _ (omega arith) ∙ take_all (length (view r).log) (view r).log (omega arith)
