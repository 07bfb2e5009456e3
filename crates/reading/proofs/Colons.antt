-- The line of a table, cut at its colon.
use Rattle.std.proofs.Common.{◌≡◌, ℕ, List, ◌∷◌, ◌++◌, Some, None, Err, Option, ap, ◌∙◌, Bor, arith}
use Rattle.std.proofs.lemmas.Str.Pattern.{IsSplitOnceResult, split_parts}
use Rattle.lines.specs.Marks.{before, after}
use Rattle.lines.proofs.Cuts.{Lacks, before_split, after_none, after_split}
use Rattle.reading.specs.Plain.{no_colon}
use Rattle.reading.specs.Tables.{table_of, table_parts}

-- cut at its first colon
abbrev Cut : List ℕ → List ℕ → List ℕ → Type 0
Cut line xs ys = (line ≡ xs ++ (58 ∷ ys)) × Lacks 58 xs

cut_at : (line xs ys : List ℕ) → Cut line xs ys → table_of line ≡ table_parts xs (Some ys)
unfolding table_of
cut_at line xs ys h =
    ap (λ (l : List ℕ). table_parts (before 58 l) (after 58 l)) h.0 ∙ (λ i. table_parts (before_split 58 xs ys h.1 i) (after_split 58 xs ys h.1 i))

pub cut : (line : List ℕ) (r : Option (Bor (List ℕ) × Bor (List ℕ))) (x y : Bor (List ℕ)) → IsSplitOnceResult 58 line r → r ≡ Some (x, y) → table_of line ≡ table_parts x.now (Some y.now)
cut line r x y h e = let parts = split_parts 58 line r h (omega arith) in cut_at line x.now y.now (rw e at parts)

pub uncut : (line : List ℕ) (r : Option (Bor (List ℕ) × Bor (List ℕ))) → IsSplitOnceResult 58 line r → r ≡ None → table_of line ≡ Err no_colon
unfolding table_of
uncut line r h e =
    let parts = split_parts 58 line r h (omega arith) in
    ap (table_parts (before 58 line)) (after_none 58 line (rw e at parts))
