-- What `trim` gives.
use Rattle.std.proofs.Common.{◌≡◌, ℕ, ◌<◌, Bool, true, false, ◌&&◌, ◌⊎◌, List, [], ◌∷◌, ◌++◌, length, drop, IsUtf8, sym, refl, ap, ◌∙◌, inl, inr, append_assoc, append-nil, arith, length-append, take-append-drop}
use borrow.Author.Tests.{not-true, not-false}
use lib.Utf8.{scalar, scalars, encode, encodes}
use Rattle.std.proofs.iter.Find.{last_one}
use Rattle.std.proofs.lemmas.Str.Pattern.{IsTrimResult}
use Rattle.std.proofs.lemmas.Str.{encode_same, encodes-append, encodes_same, encodes-chars, scalars-chars, length-encode, len_utf8_bounds}
use Rattle.std.specs.Str.{chars, NonePass, EmptyOrStartsWithPassing, EmptyOrEndsWithPassing}
use Rattle.std.specs.Char.{is_whitespace, is_not_whitespace}
use Rattle.lines.specs.Marks.{past_white, unless_last, to_last, trimmed}
use Rattle.lines.proofs.Splits.{scalars_after, rest_of, longer}

past_blank : (cs ds : List ℕ) → NonePass is_not_whitespace cs → past_white (cs ++ ds) ≡ past_white ds
unfolding past_white
past_blank [] ds h = refl
past_blank (c ∷ cs) ds h = grind (arith, not-false (is_whitespace c) h.0, past_blank cs ds h.1)

to_last_blank : (cs : List ℕ) → NonePass is_not_whitespace cs → to_last cs ≡ []
unfolding to_last
to_last_blank [] h = refl
to_last_blank (c ∷ cs) h = grind (arith, not-false (is_whitespace c) h.0, to_last_blank cs h.1)

-- nothing is lost before a character that is not white
to_last_dark : (front vs : List ℕ) (d : ℕ) → is_whitespace d ≡ false → NonePass is_not_whitespace vs → to_last (front ++ (d ∷ vs)) ≡ front ++ (d ∷ [])
unfolding to_last
to_last_dark [] vs d e h = grind (arith, to_last_blank vs h, e)
to_last_dark (a ∷ []) vs d e h = ap (unless_last a) (to_last_dark [] vs d e h)
to_last_dark (a ∷ b ∷ front) vs d e h = ap (unless_last a) (to_last_dark (b ∷ front) vs d e h)

-- a list is empty, or has a last character
abbrev Ended : List ℕ → Type 0
Ended cs = (cs ≡ []) ⊎ ((front : List ℕ) × (z : ℕ) × (cs ≡ front ++ (z ∷ [])))

ending : (cs : List ℕ) → Ended cs
ending [] = inl refl
ending (c ∷ cs) = more (ending cs)
  where
    more : Ended cs → Ended (c ∷ cs)
    more (inl e) = inr ([], c, ap (λ (l : List ℕ). c ∷ l) e)
    more (inr h) = inr (c ∷ h.0, h.1, ap (λ (l : List ℕ). c ∷ l) h.2)

-- the characters of a text that `trim` cuts: blanks, those that it gives, and blanks
parts : (bs t : List ℕ) → IsUtf8 bs → IsUtf8 t → (h : IsTrimResult bs t) → chars bs ≡ h.3.0 ++ (chars t ++ h.4.0)
parts bs t u v h =
    let m = h.0 in
    let n = h.1 in
    let lead = h.3 in
    let tail = h.4 in
    let cut : bs ≡ encodes lead.0 ++ (t ++ encodes tail.0) =
    sym (take-append-drop m bs) ∙ (λ i. sym lead.1 i ++ (sym (take-append-drop n (drop m bs)) ∙ (λ j. sym h.2 j ++ sym tail.1 j)) i) in
    let p = rest_of lead.0 (chars bs) _ (encodes-chars bs u ∙ cut) in
    let q = rest_of (chars t) p.0 _ (p.2 ∙ ap (λ (l : List ℕ). l ++ encodes tail.0) (sym (encodes-chars t v))) in
    p.1 ∙ ap (λ (l : List ℕ). lead.0 ++ l) (q.1 ∙ ap (λ (l : List ℕ). chars t ++ l) (encodes_same q.0 tail.0 q.2))

-- each first character, and each last one, is not white
abbrev First : List ℕ → Type 0
First ts = (c : ℕ) (cs : List ℕ) → ts ≡ c ∷ cs → is_whitespace c ≡ false

abbrev Last : List ℕ → Type 0
Last ts = (front : List ℕ) (z : ℕ) → ts ≡ front ++ (z ∷ []) → is_whitespace z ≡ false

to_last_bare : (ts vs : List ℕ) → NonePass is_not_whitespace vs → Last ts → Ended ts → to_last (ts ++ vs) ≡ ts
to_last_bare ts vs h last (inl e) = ap (λ (l : List ℕ). to_last (l ++ vs)) e ∙ to_last_blank vs h ∙ sym e
to_last_bare ts vs h last (inr (front, z, e)) =
    ap to_last (ap (λ (l : List ℕ). l ++ vs) e ∙ append_assoc front (z ∷ []) vs) ∙ to_last_dark front vs z (last front z e) h ∙ sym e

bare : (ts vs : List ℕ) → NonePass is_not_whitespace vs → First ts → Last ts → to_last (past_white (ts ++ vs)) ≡ ts
unfolding past_white
bare [] vs h first last = ap to_last (ap past_white (sym (append-nil vs)) ∙ past_blank vs [] h) ∙ to_last_blank [] tt
bare (c ∷ cs) vs h first last = grind (arith, first c cs refl, to_last_bare (c ∷ cs) vs h last (ending (c ∷ cs)))

opens_first : (t rest : List ℕ) → IsUtf8 t → EmptyOrStartsWithPassing is_not_whitespace t rest → First (chars t)
opens_first t rest v o c cs e =
    let spelt : encodes (c ∷ cs) ≡ t = ap encodes (sym e) ∙ encodes-chars t v in
    let k = o (longer c cs t spelt) in
    ap is_whitespace (encode_same c k.0 (encodes cs) rest (spelt ∙ k.2)).0 ∙ not-true (is_whitespace k.0) k.1

scalar_last : (front : List ℕ) (z : ℕ) → scalars (front ++ (z ∷ [])) ≡ true → scalar z ≡ true
scalar_last front z h = left (scalar z) (scalars_after front (z ∷ []) h)
  where
    left : (b : Bool) → b && true ≡ true → b ≡ true
    left b e = grind arith

shuts_at : (t front f : List ℕ) (z c : ℕ) → IsUtf8 t → chars t ≡ front ++ (z ∷ []) → t ≡ encodes front ++ encode z → t ≡ f ++ encode c → scalar c ≡ true → is_not_whitespace c ≡ true → is_whitespace z ≡ false
shuts_at t front f z c v e spelt is known d =
    let low : scalar z ≡ true = scalar_last front z (ap scalars (sym e) ∙ scalars-chars t v) in
    ap is_whitespace (last_one (encodes front) f z c low known (sym spelt ∙ is)) ∙ not-true (is_whitespace c) d

shuts_last : (t : List ℕ) → IsUtf8 t → EmptyOrEndsWithPassing is_not_whitespace t → Last (chars t)
shuts_last t v s front z e =
    let spelt : t ≡ encodes front ++ encode z =
    sym (ap encodes (sym e) ∙ encodes-chars t v) ∙ encodes-append front (z ∷ []) ∙ ap (λ (l : List ℕ). encodes front ++ l) (append-nil (encode z)) in
    let some : 0 < length t = omega (arith, ap length spelt, length-append (encodes front) (encode z), length-encode z, len_utf8_bounds z) in
    let k = s some in
    shuts_at t front k.1 z k.0 v e spelt k.3 k.4 k.2

pub trim_is : (bs t : List ℕ) → IsUtf8 bs → IsUtf8 t → IsTrimResult bs t → t ≡ trimmed bs
unfolding trimmed
trim_is bs t u v h =
    sym (ap (λ (l : List ℕ). encodes (to_last (past_white l))) (parts bs t u v h)
    ∙ ap (λ (l : List ℕ). encodes (to_last l)) (past_blank h.3.0 (chars t ++ h.4.0) h.3.2)
    ∙ ap encodes (bare (chars t) h.4.0 h.4.2 (opens_first t h.5.0 v h.5.1) (shuts_last t v h.6))
    ∙ encodes-chars t v)
