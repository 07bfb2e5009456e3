use Rattle.std.proofs.Common.{◌≡◌, [], length, drop, vec_items}
use Rattle.lines.specs.Marks.{pieces}
use Rattle.reading.specs.Tables.{rows_after}
use Rattle.reading.proofs.parse.rows.Given as goal

abbrev pub invariant-loop-written : goal.invariant-loop-written
invariant-loop-written l =
    rows_after l.count (vec_items l.rows) (drop (length l.yielded) (pieces 44 l.text)) ≡ rows_after l.count [] (pieces 44 l.text)
