-- How a mistake is told. Assumes nothing.
use Rattle.std.specs.Prelude.{ℕ, List, ◌++◌, codes, decimal}
use Rattle.reading.specs.Plain.{Mistake, no_such_command, no_byte, no_distance, word_count, no_colon, row_length}

abbrev pub mistake_text : Mistake → List ℕ
mistake_text (no_such_command w) = codes "'" ++ (w ++ codes "' is no command")
mistake_text (no_byte w) = codes "'" ++ (w ++ codes "' is no number from 0 to 255")
mistake_text (no_distance w) = codes "'" ++ (w ++ codes "' is no number from -32768 to 32767")
mistake_text word_count = codes "there are too few words or too many"
mistake_text no_colon = codes "there is no colon"
mistake_text (row_length row) = codes "row " ++ (decimal row ++ codes " has not one option for each question")

-- a mistake, and what was expected
abbrev pub fault_text : Mistake → List ℕ → List ℕ
fault_text m expected = mistake_text m ++ (codes "; expected: " ++ expected)
