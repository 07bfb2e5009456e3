-- The rows of a table, one row at a time.
use Rattle.std.proofs.Common.{◌≡◌, ℕ, ◌<◌, true, List, [], ◌∷◌, length, Ok, Result, sym, refl, subst, arith, lit<}
use Rattle.std.proofs.lemmas.Iterator.{YieldsList}
use Rattle.std.proofs.lemmas.Iterator.Splits.{YieldsList-from_str_split}
use Rattle.std.specs.Str.Iter.{split_steps, split_text, split_has_more, split_pattern}
use Rattle.std.specs.Str.Pattern.{FindsChar}
use Rattle.std.specs.declared.str.Split.{Split}
use Rattle.lines.specs.Marks.{pieces, trimmed}
use Rattle.lines.proofs.Cuts.{pieces_are}
use Rattle.reading.specs.Plain.{Mistake}
use Rattle.reading.specs.Tables.{rows_after, rows_of, unless_blank}

pub yields_pieces : (bs : List ℕ) (s : Split ℕ) → split_text s ≡ bs → split_has_more s ≡ true → split_pattern s ≡ 44
    → YieldsList (split_steps FindsChar (λ a b. b ≡ a)) (λ x. x.now) s (pieces 44 bs)
yields_pieces bs s text more comma =
    subst (λ l. YieldsList (split_steps FindsChar (λ a b. b ≡ a)) (λ x. x.now) s l) (sym (pieces_are 44 bs)) (YieldsList-from_str_split 44 bs (lit< tt) text more comma)

none_if_blank : (t : List ℕ) (rows : Result (List ℕ) Mistake) → length t ≡ 0 → unless_blank t rows ≡ Ok []
none_if_blank [] rows h = refl
none_if_blank (b ∷ t) rows h = absurd (omega arith)

all_unless_blank : (t : List ℕ) (rows : Result (List ℕ) Mistake) → 0 < length t → unless_blank t rows ≡ rows
all_unless_blank [] rows h = absurd (omega arith)
all_unless_blank (b ∷ t) rows h = refl

pub no_rows : (count : ℕ) (bs : List ℕ) → length (trimmed bs) ≡ 0 → rows_of count bs ≡ Ok []
unfolding rows_of
no_rows count bs h = none_if_blank (trimmed bs) (rows_after count [] (pieces 44 bs)) h

pub some_rows : (count : ℕ) (bs : List ℕ) → 0 < length (trimmed bs) → rows_of count bs ≡ rows_after count [] (pieces 44 bs)
unfolding rows_of
some_rows count bs h = all_unless_blank (trimmed bs) (rows_after count [] (pieces 44 bs)) h
