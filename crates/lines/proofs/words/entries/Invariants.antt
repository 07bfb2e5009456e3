use Rattle.std.proofs.Common.{◌≡◌, ◌+◌, ◌++◌, map, length, drop, vec_items}
use Rattle.lines.specs.Marks.{noted, entries_from, entries_of, lines_of}
use Rattle.lines.proofs.words.entries.Given as goal

abbrev pub invariant-loop-index : goal.invariant-loop-index
invariant-loop-index l =
    map noted (vec_items l.entries) ++ entries_from (length l.yielded + 1) (drop (length l.yielded) (lines_of l.text)) ≡ entries_of l.text
