-- The lines that say something, one line at a time.
use Rattle.std.proofs.Common.{◌≡◌, ℕ, ◌+◌, ◌<◌, List, [], ◌∷◌, ◌++◌, length, get_or, drop, sym, refl, ap, ◌∙◌, append_assoc, arith, add-one, drop-cons}
use Rattle.std.proofs.lemmas.List.FromFn.{get_or-enumerate_from, length-enumerate_from}
use Rattle.std.specs.List.{enumerate_from}
use Rattle.lines.specs.Marks.{Noted, note, content, entries_from}

note_none : (n : ℕ) (x : List ℕ) → length x ≡ 0 → note n x ≡ []
note_none n [] h = refl
note_none n (b ∷ x) h = absurd (omega arith)

note_one : (n : ℕ) (x : List ℕ) → 0 < length x → note n x ≡ record { number = n; text = x } ∷ []
note_one n [] h = absurd (omega arith)
note_one n (b ∷ x) h = refl

-- line number index of the lines ls has come after i others; those seen before it and those that are left are all
module _ (ls : List (List ℕ)) (i j index : ℕ) (line said : List ℕ) (seen all : List Noted) (next : j ≡ i + 1)
    (at : (i < length (enumerate_from 0 ls)) × ◌≡◌ {A = ℕ × List ℕ} (index, line) (get_or (enumerate_from 0 ls) i (index, line))) (is : said ≡ content line) (sofar : seen ++ entries_from (i + 1) (drop i ls) ≡ all) where
  same : ◌≡◌ {A = ℕ × List ℕ} (index, line) (0 + i, get_or ls i line)
  same = at.1 ∙ get_or-enumerate_from 0 ls i (index, line) (omega (arith, length-enumerate_from 0 ls))

  left : drop i ls ≡ line ∷ drop j ls
  left = drop-cons ls i line (omega (arith, length-enumerate_from 0 ls)) ∙ (λ k. sym (ap (λ (p : ℕ × List ℕ). p.1) same) k ∷ drop (sym (next ∙ add-one i) k) ls)

  step : seen ++ (note (i + 1) said ++ entries_from (j + 1) (drop j ls)) ≡ all
  unfolding entries_from
  step = ap (λ (l : List Noted). seen ++ l) ((λ k. note (i + 1) (is k) ++ entries_from (next k + 1) (drop j ls)) ∙ ap (entries_from (i + 1)) (sym left)) ∙ sofar

  pub blank : length said ≡ 0 → seen ++ entries_from (j + 1) (drop j ls) ≡ all
  blank h = ap (λ (l : List Noted). seen ++ (l ++ entries_from (j + 1) (drop j ls))) (sym (note_none (i + 1) said h)) ∙ step

  pub noted_one : 0 < length said → (seen ++ record { number = index + 1; text = said } ∷ []) ++ entries_from (j + 1) (drop j ls) ≡ all
  noted_one h =
      let here : index ≡ i = omega (arith, ap (λ (p : ℕ × List ℕ). p.0) same) in
      append_assoc seen _ _ ∙ ap (λ (l : List Noted). seen ++ (l ++ entries_from (j + 1) (drop j ls)))
      (ap (λ n. record { number = n + 1; text = said } ∷ []) here ∙ sym (note_one (i + 1) said h)) ∙ step
