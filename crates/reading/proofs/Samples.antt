-- What the definitions give on samples.
use Rattle.std.proofs.Common.{◌≡◌, [], ◌∷◌, negsuc, codes, refl}
use lib.Utf8.{encode}
use Rattle.std.specs.Str.{chars}
use Rattle.wording.specs.Figures.{byte_of, distance_of, number_below, numeral, read_on}
use Rattle.lines.specs.Marks.{before, after, pieces_from, chop, words_of, past_white, to_last, trimmed}
use Rattle.wording.specs.Names.{form_of, verb_names, verb_of, verb_among}
use Rattle.wording.specs.declared.verb.Verb.TheVariants as verb
use Rattle.wording.specs.Figures.{numbers_after}
use Rattle.reading.specs.Scopes.{count_of, first_four}
use Rattle.terms.specs.declared.call.Call.TheVariants.{Pick}
use Rattle.reading.specs.Plain.{table, gap, opens, call, no_such_command, no_byte, word_count, row_length, says, wrong}
use Rattle.reading.specs.Readings.{heard_of}
use Rattle.reading.specs.Tables.{rows_after, rows_of, table_of}

pick_sample : heard_of (codes "pick 1 12") ≡ says (call (Pick 1 12))
unfolding heard_of verb_of verb_among words_of chop chars encode numbers_after byte_of number_below numeral read_on
pick_sample = refl

count_sample : heard_of (codes "pick 1") ≡ wrong word_count (form_of verb.Pick)
unfolding heard_of verb_of verb_among words_of chop chars encode numbers_after byte_of number_below numeral read_on
count_sample = refl

blank_sample : heard_of (codes " ") ≡ wrong (no_such_command []) verb_names
unfolding heard_of verb_of verb_among words_of chop chars encode
blank_sample = refl

byte_sample : heard_of (codes "open 3 300 x") ≡ wrong (no_byte (codes "300")) (form_of verb.Open)
unfolding heard_of verb_of verb_among words_of chop chars encode numbers_after byte_of number_below numeral read_on
byte_sample = refl

table_sample : heard_of (codes "table 0 1 : 0 0, 2 1") ≡ says (table (record { count = 2; questions = 0 ∷ 1 ∷ 0 ∷ 0 ∷ [] }) (0 ∷ 258 ∷ []))
unfolding heard_of table_of rows_of rows_after before after pieces_from trimmed to_last past_white verb_of verb_among words_of chop chars encode numbers_after byte_of number_below numeral read_on count_of first_four
table_sample = refl

row_sample : heard_of (codes "table 0 1 : 0 0, 2") ≡ wrong (row_length 2) (form_of verb.Table)
unfolding heard_of table_of rows_of rows_after before after pieces_from trimmed to_last past_white verb_of verb_among words_of chop chars encode numbers_after byte_of number_below numeral read_on count_of first_four
row_sample = refl

gap_sample : heard_of (codes "gap 1 2 -3") ≡ says (gap (record { count = 2; questions = 1 ∷ 2 ∷ 0 ∷ 0 ∷ [] }) (negsuc 2))
unfolding heard_of verb_of verb_among words_of chop chars encode byte_of distance_of number_below numeral read_on count_of first_four
gap_sample = refl

open_sample : heard_of (codes "open 3 4") ≡ says (opens (3 ∷ 4 ∷ []))
unfolding heard_of verb_of verb_among words_of chop chars encode numbers_after byte_of number_below numeral read_on
open_sample = refl
