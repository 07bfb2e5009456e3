-- The words of a text, one word at a time.
use Rattle.std.proofs.Common.{◌≡◌, ℕ, ◌<◌, Bool, true, ◌&&◌, Some, None, List, [], ◌∷◌, ◌++◌, map, length, IsUtf8, sym, refl, ap, ◌∙◌, subst, append_assoc, append-nil, arith, length-append, Bor}
use borrow.Author.Tests.{not-false}
use lib.Utf8.{scalar, scalars, encode, encodes}
use Rattle.std.proofs.lemmas.Str.{cons_from_encodes, encode_same, encodes-chars, length-encode, len_utf8_bounds, scalars-chars, chars-encodes, chars_from_encodes}
use Rattle.std.specs.Str.{chars, NonePass, NoCharPasses, EmptyOrStartsWithPassing}
use Rattle.std.specs.Char.{is_whitespace, is_not_whitespace}
use Rattle.std.specs.Str.Iter.{split_whitespace_rest, split_whitespace_steps}
use Rattle.std.specs.declared.str.SplitWhitespace.{SplitWhitespace}
use Rattle.std.proofs.lemmas.Iterator.{YieldsList}
use Rattle.std.proofs.lemmas.Iterator.Splits.{YieldsList-from_shown_while}
use Rattle.lines.specs.Marks.{chop, words_of}

-- a text that begins with the characters cs
pub rest_of : (cs ds rest : List ℕ) → encodes ds ≡ encodes cs ++ rest → (es : List ℕ) × (ds ≡ cs ++ es) × (encodes es ≡ rest)
rest_of [] ds rest e = (ds, refl, e)
rest_of (c ∷ cs) ds rest e =
    let p = cons_from_encodes ds (encodes cs ++ rest) c (e ∙ append_assoc (encode c) (encodes cs) rest) in
    let q = rest_of cs p.0 rest p.2 in (q.0, p.1 ∙ ap (λ (l : List ℕ). c ∷ l) q.1, q.2)

chop_white : (cs ds : List ℕ) → NonePass is_not_whitespace cs → chop [] (cs ++ ds) ≡ chop [] ds
unfolding chop
chop_white [] ds h = refl
chop_white (c ∷ cs) ds h = grind (arith, not-false (is_whitespace c) h.0, chop_white cs ds h.1)

chop_dark : (w cs ds : List ℕ) → NonePass is_whitespace cs → chop w (cs ++ ds) ≡ chop (w ++ cs) ds
unfolding chop
chop_dark w [] ds h = ap (λ (l : List ℕ). chop l ds) (sym (append-nil w))
chop_dark w (c ∷ cs) ds h = grind (arith, h.0, chop_dark (w ++ c ∷ []) cs ds h.1, append_assoc w (c ∷ []) cs)

pub longer : (d : ℕ) (ds rest : List ℕ) → encodes (d ∷ ds) ≡ rest → 0 < length rest
longer d ds rest e = omega (arith, ap length e, length-append (encode d) (encodes ds), length-encode d, len_utf8_bounds d)

-- the word w ends where a white character follows, or nothing
chop_word : (w ds rest more : List ℕ) → 0 < length w → encodes ds ≡ rest → EmptyOrStartsWithPassing is_whitespace rest more → chop w ds ≡ w ∷ chop [] ds
unfolding chop
chop_word [] ds rest more some e o = absurd (omega arith)
chop_word (x ∷ w) [] rest more some e o = refl
chop_word (x ∷ w) (d ∷ ds) rest more some e o =
    let k = o (longer d ds rest e) in
    let blank : is_whitespace d ≡ true = ap is_whitespace (encode_same d k.0 (encodes ds) more (e ∙ k.2)).0 ∙ k.1 in
    grind (arith, blank)

solid_some : (cs x : List ℕ) → encodes cs ≡ x → 0 < length x → 0 < length cs
solid_some [] x e h = omega (arith, ap length e)
solid_some (c ∷ cs) x e h = omega arith

-- a step of `split_whitespace`: blanks, a word, and what follows it
abbrev Headed : List ℕ → List ℕ → List ℕ → Type 0
Headed bs w rest = (gap : List ℕ) × (bs ≡ gap ++ (w ++ rest)) × (0 < length w) × NoCharPasses is_not_whitespace gap × NoCharPasses is_whitespace w × ((more : List ℕ) × EmptyOrStartsWithPassing is_whitespace rest more)

and_right : (a b : Bool) → a && b ≡ true → b ≡ true
and_right a b h = grind arith

pub scalars_after : (cs es : List ℕ) → scalars (cs ++ es) ≡ true → scalars es ≡ true
scalars_after [] es h = h
scalars_after (c ∷ cs) es h = scalars_after cs es (and_right (scalar c) (scalars (cs ++ es)) h)

first_word : (bs w rest ds : List ℕ) → Headed bs w rest → encodes ds ≡ bs → scalars ds ≡ true
    → (cs : List ℕ) × (es : List ℕ) × (encodes cs ≡ w) × (encodes es ≡ rest) × (scalars es ≡ true) × (chop [] ds ≡ cs ∷ chop [] es)
first_word bs w rest ds h e valid =
    let gap = h.3 in
    let solid = h.4 in
    let p = rest_of gap.0 ds (w ++ rest) (e ∙ h.1 ∙ ap (λ (l : List ℕ). l ++ (w ++ rest)) (sym gap.1)) in
    let q = rest_of solid.0 p.0 rest (p.2 ∙ ap (λ (l : List ℕ). l ++ rest) (sym solid.1)) in (
      solid.0,
      q.0,
      solid.1,
      q.2,
      scalars_after solid.0 q.0 (ap scalars (sym q.1) ∙ scalars_after gap.0 p.0 (ap scalars (sym p.1) ∙ valid)),
      ap (chop []) p.1 ∙ chop_white gap.0 p.0 gap.2 ∙ ap (chop []) q.1 ∙ chop_dark [] solid.0 q.0 solid.2
          ∙ chop_word solid.0 q.0 rest h.5.0 (solid_some solid.0 w solid.1 h.2) q.2 h.5.1,
    )

-- the words that are yet to come
abbrev left : SplitWhitespace → List (List ℕ)
left s = words_of (split_whitespace_rest s)

abbrev Spelt : SplitWhitespace → Type 0
Spelt s = IsUtf8 (split_whitespace_rest s)

no_more : (s t : SplitWhitespace) → Spelt s → split_whitespace_steps s None t → length (left s) ≡ 0
unfolding words_of chop
no_more s t u h =
    ap (λ (l : List ℕ). length (map encodes (chop [] l))) (sym (chars_from_encodes h.1.0 (split_whitespace_rest s) u h.1.1) ∙ sym (append-nil h.1.0))
    ∙ ap (λ (l : List (List ℕ)). length (map encodes l)) (chop_white h.1.0 [] h.1.2)

one_more : (s : SplitWhitespace) (w : Bor (List ℕ)) (t : SplitWhitespace) → Spelt s → split_whitespace_steps s (Some w) t → Spelt t × (left s ≡ w.now ∷ left t)
unfolding words_of
one_more s w t u h =
    let f = first_word (split_whitespace_rest s) w.now (split_whitespace_rest t) (chars (split_whitespace_rest s)) h (encodes-chars (split_whitespace_rest s) u) (scalars-chars (split_whitespace_rest s) u) in
    let next : chars (split_whitespace_rest t) ≡ f.1 = ap chars (sym f.3) ∙ chars-encodes f.1 f.4 in
    ((f.1, (f.4, f.3)), ap (map encodes) f.5 ∙ (λ i. f.2 i ∷ map encodes (chop [] (sym next i))))

pub yields_words : (line : List ℕ) (s : SplitWhitespace) → IsUtf8 line → split_whitespace_rest s ≡ line → YieldsList split_whitespace_steps (λ x. x.now) s (words_of line)
yields_words line s u e = subst (λ (l : List ℕ). YieldsList split_whitespace_steps (λ x. x.now) s (words_of l)) e (YieldsList-from_shown_while split_whitespace_steps (λ x. x.now) left Spelt no_more one_more s (subst IsUtf8 (sym e) u))
