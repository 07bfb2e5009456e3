-- The numbers that words write, one by one. Assumes nothing.
use Rattle.std.proofs.Common.{◌≡◌, ℕ, zero, suc, ◌+◌, ◌<◌, ◌≤◌, min, List, [], ◌∷◌, ◌++◌, length, get_or, set, take, drop, Some, Ok, refl, sym, ◌∙◌, ap, ap₂, add-one, arith, Bor}
use Rattle.std.proofs.lemmas.List.{get_or-map, get_or_past, length-map, length-take, take_all, drop_all}
use Rattle.std.specs.Option.{unwrap_or}
use Rattle.lines.specs.Marks.{texts}
use Rattle.wording.specs.Figures.{byte_of, numbers_after}
use Rattle.reading.specs.Scopes.{count_of, first_four, numbers_in}

-- the number at an index is that of the word there
pub number_here : (ws : List (Bor (List ℕ))) (i : ℕ) (d : Bor (List ℕ)) → i < length ws → get_or (numbers_in (texts ws)) i 0 ≡ unwrap_or (byte_of (get_or ws i d).now) 0
number_here ws i d h =
    get_or-map (λ w. unwrap_or (byte_of w) 0) (texts ws) i d.now 0 (omega (arith, length-map ws (λ w. w.now), h))
    ∙ ap (λ w. unwrap_or (byte_of w) 0) (get_or-map (λ (w : Bor (List ℕ)). w.now) ws i d d.now h)

pub number_past : (ws : List (Bor (List ℕ))) (i : ℕ) → length ws ≤ i → get_or (numbers_in (texts ws)) i 0 ≡ 0
number_past ws i h = get_or_past (numbers_in (texts ws)) i 0 (omega (arith, length-map (texts ws) (λ w. unwrap_or (byte_of w) 0), length-map ws (λ w. w.now), h))

-- where the words are spent, each wrote a number
pub all_written : (ws : List (Bor (List ℕ))) (i : ℕ) → length ws ≤ i → numbers_after (numbers_in (texts (take i ws))) (texts (drop i ws)) ≡ numbers_after [] (texts ws) → numbers_after [] (texts ws) ≡ Ok (numbers_in (texts ws))
unfolding numbers_after
all_written ws i h e = sym e ∙ ap₂ (λ us vs. numbers_after (numbers_in (texts us)) (texts vs)) (take_all i ws h) (drop_all i ws h)

-- there are as many numbers as words
pub counted : (ws : List (Bor (List ℕ))) → count_of ws ≡ count_of (numbers_in (texts ws))
unfolding count_of
counted ws = ap (λ n. min n 255) (sym (length-map (texts ws) (λ w. unwrap_or (byte_of w) 0) ∙ length-map ws (λ w. w.now)))

-- where the words are spent, the first four of all of them are noted
pub all_noted : (ws : List (Bor (List ℕ))) (i : ℕ) → length ws ≤ i → first_four (numbers_in (texts (take i ws))) ≡ first_four (numbers_in (texts ws))
all_noted ws i h = ap (λ us. first_four (numbers_in (texts us))) (take_all i ws h)

-- one number more among the first four
pub four_more : (ns : List ℕ) (n : ℕ) → set (first_four ns) (length ns) n ≡ first_four (ns ++ n ∷ [])
unfolding first_four
four_more [] n = refl
four_more (a ∷ []) n = refl
four_more (a ∷ b ∷ []) n = refl
four_more (a ∷ b ∷ c ∷ []) n = refl
four_more (a ∷ b ∷ c ∷ d ∷ ns) n = refl

-- the word at the index is the next number
next_written : (ws : List (Bor (List ℕ))) (i n : ℕ) (d : Bor (List ℕ)) → i < length ws → byte_of (get_or ws i d).now ≡ Some n →
    numbers_in (texts (take (suc i) ws)) ≡ numbers_in (texts (take i ws)) ++ n ∷ []
next_written [] i n d h e = absurd (omega arith)
next_written (w ∷ ws) zero n d h e = ap (λ o. unwrap_or o 0 ∷ []) e
next_written (w ∷ ws) (suc i) n d h e = ap (λ (ns : List ℕ). unwrap_or (byte_of w.now) 0 ∷ ns) (next_written ws i n d (omega arith) e)

pub next_number : (ws : List (Bor (List ℕ))) (i n : ℕ) (d : Bor (List ℕ)) → i < length ws → byte_of (get_or ws i d).now ≡ Some n →
    numbers_in (texts (take (i + 1) ws)) ≡ numbers_in (texts (take i ws)) ++ n ∷ []
next_number ws i n d h e = ap (λ k. numbers_in (texts (take k ws))) (add-one i) ∙ next_written ws i n d h e

-- as many numbers as words were taken
pub taken : (ws : List (Bor (List ℕ))) (i : ℕ) → i ≤ length ws → length (numbers_in (texts (take i ws))) ≡ i
taken ws i h = omega (arith, length-map (texts (take i ws)) (λ w. unwrap_or (byte_of w) 0), length-map (take i ws) (λ w. w.now), length-take i ws)

-- and the first four with it
pub noted_next : (ws : List (Bor (List ℕ))) (i n : ℕ) (d : Bor (List ℕ)) → i < length ws → byte_of (get_or ws i d).now ≡ Some n →
    set (first_four (numbers_in (texts (take i ws)))) i n ≡ first_four (numbers_in (texts (take (i + 1) ws)))
noted_next ws i n d h e =
    ap (λ k. set (first_four (numbers_in (texts (take i ws)))) k n) (sym (taken ws i (omega arith)))
    ∙ four_more (numbers_in (texts (take i ws))) n ∙ ap first_four (sym (next_number ws i n d h e))
