-- What the line of a table says, or the first mistake in it. Assumes nothing.
use Rattle.std.specs.Prelude.{ℕ, ◌+◌, ◌*◌, true, false, List, [], ◌∷◌, ◌++◌, length, drop, Some, None, Ok, Err, Option, Result, ◌==◌, slice_index}
use Rattle.lines.specs.Marks.{before, after, pieces, trimmed, words_of}
use Rattle.reading.specs.Commands.{if_right, numbers_of}
use Rattle.reading.specs.Scopes.{count_of, scope_of}
use Rattle.reading.specs.Plain.{Said, table, Mistake, no_colon, row_length}

-- the option of position p is byte p of its row
abbrev pub row_value : List ℕ → ℕ
row_value ns = slice_index ns 0 + slice_index ns 1 * 256 + slice_index ns 2 * 65536 + slice_index ns 3 * 16777216

-- row number n has as many options as there are questions
abbrev pub row_sized : ℕ → ℕ → List ℕ → Result ℕ Mistake
row_sized count n ns = elim (count_of ns == count) [ true ↦ Ok (row_value ns) | false ↦ Err (row_length n) ]

abbrev pub row_of : ℕ → ℕ → List ℕ → Result ℕ Mistake
row_of count n bs = if_right (numbers_of (words_of bs)) (row_sized count n)

-- the rows that the pieces write, after those so far
unfoldable pub rows_after : ℕ → List ℕ → List (List ℕ) → Result (List ℕ) Mistake
rows_after count rows [] = Ok rows
rows_after count rows (p ∷ ps) = if_right (row_of count (length rows + 1) p) (λ row. rows_after count (rows ++ row ∷ []) ps)

-- none in a blank text, else those between its commas (44)
abbrev pub unless_blank : List ℕ → Result (List ℕ) Mistake → Result (List ℕ) Mistake
unless_blank [] rows = Ok []
unless_blank (b ∷ bs) rows = rows

unfoldable pub rows_of : ℕ → List ℕ → Result (List ℕ) Mistake
rows_of count bs = unless_blank (trimmed bs) (rows_after count [] (pieces 44 bs))

-- the questions stand before the first colon (58), after the verb; the rows after it
abbrev pub table_parts : List ℕ → Option (List ℕ) → Result Said Mistake
table_parts heading None = Err no_colon
table_parts heading (Some rest) =
    if_right (numbers_of (drop 1 (words_of heading))) (λ ns. if_right (rows_of (count_of ns) rest) (λ rows. Ok (table (scope_of ns) rows)))

unfoldable pub table_of : List ℕ → Result Said Mistake
table_of line = table_parts (before 58 line) (after 58 line)
