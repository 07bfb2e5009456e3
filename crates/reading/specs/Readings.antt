-- What a line says, or what is wrong with it. Assumes nothing.
use Rattle.std.specs.Prelude.{ℕ, List, [], ◌∷◌, drop, Some, None, Ok, Err, Option, Result}
use Rattle.wording.specs.declared.verb.Verb.{Verb}
use Rattle.wording.specs.declared.verb.Verb.TheVariants as verb
use Rattle.lines.specs.Marks.{words_of}
use Rattle.wording.specs.Names.{form_of, verb_names, verb_of}
use Rattle.reading.specs.Commands.{gap_of, open_of, simple_of}
use Rattle.reading.specs.Plain.{Said, Mistake, no_such_command, Heard, says, wrong}
use Rattle.reading.specs.Tables.{table_of}

-- of the words after the verb; a table is read from its whole line
abbrev pub said_by : Verb → List ℕ → List (List ℕ) → Result Said Mistake
said_by verb.Table line ws = table_of line
said_by verb.Gap line ws = gap_of ws
said_by verb.Differ line ws = simple_of verb.Differ ws
said_by verb.Open line ws = open_of ws
said_by verb.Place line ws = simple_of verb.Place ws
said_by verb.Pick line ws = simple_of verb.Pick ws
said_by verb.Settle line ws = simple_of verb.Settle ws
said_by verb.Standing line ws = simple_of verb.Standing ws
said_by verb.Overview line ws = simple_of verb.Overview ws

-- a mistake is told with the form of the verb's line
abbrev pub told_by : Verb → Result Said Mistake → Heard
told_by v (Ok s) = says s
told_by v (Err m) = wrong m (form_of v)

abbrev pub heard_named : List ℕ → Option Verb → List ℕ → List (List ℕ) → Heard
heard_named w None line ws = wrong (no_such_command w) verb_names
heard_named w (Some v) line ws = told_by v (said_by v line ws)

-- the first word, which names the verb; a blank line has the empty word
abbrev pub first_of : List (List ℕ) → List ℕ
first_of [] = []
first_of (w ∷ ws) = w

abbrev pub heard_words : List ℕ → List (List ℕ) → Heard
heard_words line ws = heard_named (first_of ws) (verb_of (first_of ws)) line (drop 1 ws)

unfoldable pub heard_of : List ℕ → Heard
heard_of line = heard_words line (words_of line)
