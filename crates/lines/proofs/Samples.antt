-- What the definitions give on samples.
use Rattle.std.proofs.Common.{◌≡◌, [], ◌∷◌, Some, codes, refl}
use lib.Utf8.{encode}
use Rattle.std.specs.Str.{chars}
use Rattle.lines.specs.Marks.{before, after, pieces, pieces_from, chop, words_of, past_white, to_last, trimmed, unreturned, lines_from, lines_of, entries_from, entries_of}

words_sample : words_of (codes "  pick 1\t12 ") ≡ codes "pick" ∷ codes "1" ∷ codes "12" ∷ []
unfolding words_of chop chars encode
words_sample = refl

pieces_sample : pieces 44 (codes "0 0,1,") ≡ codes "0 0" ∷ codes "1" ∷ [] ∷ []
unfolding pieces_from
pieces_sample = refl

lines_sample : lines_of (codes "a\r\n\nb\rc\r") ≡ codes "a" ∷ [] ∷ codes "b\rc\r" ∷ []
unfolding lines_from unreturned
lines_sample = refl

trimmed_sample : trimmed (codes " \ta b \n") ≡ codes "a b"
unfolding trimmed to_last past_white chars encode
trimmed_sample = refl

entries_sample : entries_of (codes "# no\n\n pick 1 2 # yes\nsettle")
    ≡ record { number = 3; text = codes "pick 1 2" } ∷ record { number = 4; text = codes "settle" } ∷ []
unfolding entries_from lines_from unreturned before trimmed to_last past_white chars encode
entries_sample = refl

cut_sample : before 58 (codes "a:b:c") ≡ codes "a"
unfolding before
cut_sample = refl

rest_sample : after 58 (codes "a:b:c") ≡ Some (codes "b:c")
unfolding after
rest_sample = refl
