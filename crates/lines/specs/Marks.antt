-- A text, its lines, what a line says before its comment, and its words. Assumes nothing.
use Rattle.std.specs.Prelude.{ℕ, ◌+◌, true, false, List, [], ◌∷◌, ◌++◌, map, encode_utf8_all, Some, None, Option, ◌==◌}
use Rattle.std.specs.Borrow.{Bor}
use Rattle.std.specs.Str.{chars}
use Rattle.std.specs.Char.{is_whitespace}
use Rattle.lines.specs.declared.words.Entry.{Entry}

-- what stands before the first m: all, where there is none
unfoldable pub before : ℕ → List ℕ → List ℕ
before m [] = []
before m (b ∷ bs) = elim (b == m) [ true ↦ [] | false ↦ b ∷ before m bs ]

-- what stands after the first m
unfoldable pub after : ℕ → List ℕ → Option (List ℕ)
after m [] = None
after m (b ∷ bs) = elim (b == m) [ true ↦ Some bs | false ↦ after m bs ]

-- the pieces between two m, after a piece so far
unfoldable pub pieces_from : ℕ → List ℕ → List ℕ → List (List ℕ)
pieces_from m p [] = p ∷ []
pieces_from m p (b ∷ bs) = elim (b == m) [ true ↦ p ∷ pieces_from m [] bs | false ↦ pieces_from m (p ++ b ∷ []) bs ]

abbrev pub pieces : ℕ → List ℕ → List (List ℕ)
pieces m bs = pieces_from m [] bs

-- a list, unless it is empty
abbrev pub unless_empty : List ℕ → List (List ℕ)
unless_empty [] = []
unless_empty (b ∷ bs) = (b ∷ bs) ∷ []

-- the runs of characters that are not white, after a run so far
unfoldable pub chop : List ℕ → List ℕ → List (List ℕ)
chop w [] = unless_empty w
chop w (c ∷ cs) = elim (is_whitespace c) [ true ↦ unless_empty w ++ chop [] cs | false ↦ chop (w ++ c ∷ []) cs ]

-- the words of a text, apart by white space
unfoldable pub words_of : List ℕ → List (List ℕ)
words_of bs = map encode_utf8_all (chop [] (chars bs))

-- without the white characters that it begins with
unfoldable pub past_white : List ℕ → List ℕ
past_white [] = []
past_white (c ∷ cs) = elim (is_whitespace c) [ true ↦ past_white cs | false ↦ c ∷ cs ]

-- c and what follows it, of which nothing is left if it is white and the last
abbrev pub unless_last : ℕ → List ℕ → List ℕ
unless_last c [] = elim (is_whitespace c) [ true ↦ [] | false ↦ c ∷ [] ]
unless_last c (d ∷ ds) = c ∷ d ∷ ds

-- without the white characters that it ends with
unfoldable pub to_last : List ℕ → List ℕ
to_last [] = []
to_last (c ∷ cs) = unless_last c (to_last cs)

-- the text without the white characters at its two ends
unfoldable pub trimmed : List ℕ → List ℕ
trimmed bs = encode_utf8_all (to_last (past_white (chars bs)))

-- less the carriage return (13) at its end, if it has one
unfoldable pub unreturned : List ℕ → List ℕ
unreturned [] = []
unreturned (b ∷ []) = elim (b == 13) [ true ↦ [] | false ↦ b ∷ [] ]
unreturned (b ∷ c ∷ bs) = b ∷ unreturned (c ∷ bs)

-- the lines of a text, after a line so far. A newline (10) ends a line; the last may lack it
unfoldable pub lines_from : List ℕ → List ℕ → List (List ℕ)
lines_from l [] = unless_empty l
lines_from l (b ∷ bs) = elim (b == 10) [ true ↦ unreturned l ∷ lines_from [] bs | false ↦ lines_from (l ++ b ∷ []) bs ]

abbrev pub lines_of : List ℕ → List (List ℕ)
lines_of bs = lines_from [] bs

-- what a line says: not its comment, which # (35) starts, nor the blanks around the rest
abbrev pub content : List ℕ → List ℕ
content l = trimmed (before 35 l)

-- a line that says something, and its number
pub record Noted : Type 0 where
  pub number : ℕ
  pub text : List ℕ

abbrev pub note : ℕ → List ℕ → List Noted
note n [] = []
note n (b ∷ bs) = record { number = n; text = b ∷ bs } ∷ []

-- those of the lines that say something, of which the first has the number n
unfoldable pub entries_from : ℕ → List (List ℕ) → List Noted
entries_from n [] = []
entries_from n (l ∷ ls) = note n (content l) ++ entries_from (n + 1) ls

abbrev pub entries_of : List ℕ → List Noted
entries_of bs = entries_from 1 (lines_of bs)

-- what the code's values hold
abbrev pub texts : List (Bor (List ℕ)) → List (List ℕ)
texts ws = map (λ w. w.now) ws

abbrev pub noted : Entry → Noted
noted e = record { number = e.number; text = e.text.now }
