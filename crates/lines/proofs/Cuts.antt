-- A text cut at a byte m: what stands before the first and after it, and the pieces between.
use Rattle.std.proofs.Common.{◌≡◌, ℕ, suc, ◌<◌, Bool, true, false, cond, eqb, List, [], ◌∷◌, ◌++◌, length, get_or, Some, None, sym, refl, ap, ◌∙◌, append_assoc, append-nil, arith, eq-eqb, ne_eqb}
use Rattle.std.proofs.lemmas.List.Splits.{length-slice_split}
use Rattle.std.specs.List.{onto_first, slice_split}
use Rattle.lines.specs.Marks.{before, after, pieces_from}

abbrev pub Lacks : ℕ → List ℕ → Type 0
Lacks m xs = (i : ℕ) → i < length xs → get_or xs i 0 ≡ m → ⊥

pub later : (m b : ℕ) (bs : List ℕ) → Lacks m (b ∷ bs) → Lacks m bs
later m b bs none i h e = none (suc i) (omega arith) e

-- the first byte of a text that lacks m
pub other : (m b : ℕ) (bs : List ℕ) → Lacks m (b ∷ bs) → eqb b m ≡ false
other m b bs none = ne_eqb b m (λ e. none 0 (omega arith) e)

pub before_none : (m : ℕ) (xs : List ℕ) → Lacks m xs → before m xs ≡ xs
unfolding before
before_none m [] none = refl
before_none m (b ∷ bs) none = grind (arith, other m b bs none, before_none m bs (later m b bs none))

pub before_split : (m : ℕ) (xs ys : List ℕ) → Lacks m xs → before m (xs ++ (m ∷ ys)) ≡ xs
unfolding before
before_split m [] ys none = grind (arith, eq-eqb m m refl)
before_split m (b ∷ bs) ys none = grind (arith, other m b bs none, before_split m bs ys (later m b bs none))

pub after_none : (m : ℕ) (xs : List ℕ) → Lacks m xs → after m xs ≡ None
unfolding after
after_none m [] none = refl
after_none m (b ∷ bs) none = grind (arith, other m b bs none, after_none m bs (later m b bs none))

pub after_split : (m : ℕ) (xs ys : List ℕ) → Lacks m xs → after m (xs ++ (m ∷ ys)) ≡ Some ys
unfolding after
after_split m [] ys none = grind (arith, eq-eqb m m refl)
after_split m (b ∷ bs) ys none = grind (arith, other m b bs none, after_split m bs ys (later m b bs none))

-- a step of the pieces, by its test
abbrev pub pieces_by : ℕ → List ℕ → ℕ → List ℕ → Bool → List (List ℕ)
pieces_by m p b bs t = elim t [ true ↦ p ∷ pieces_from m [] bs | false ↦ pieces_from m (p ++ b ∷ []) bs ]

pub pieces_none : (m : ℕ) (p xs : List ℕ) → Lacks m xs → pieces_from m p xs ≡ (p ++ xs) ∷ []
unfolding pieces_from
pieces_none m p [] none = ap (λ (l : List ℕ). l ∷ []) (sym (append-nil p))
pieces_none m p (b ∷ bs) none =
    ap (pieces_by m p b bs) (other m b bs none) ∙ pieces_none m (p ++ b ∷ []) bs (later m b bs none) ∙ ap (λ (l : List ℕ). l ∷ []) (append_assoc p (b ∷ []) bs)

pub pieces_split : (m : ℕ) (p xs ys : List ℕ) → Lacks m xs → pieces_from m p (xs ++ (m ∷ ys)) ≡ (p ++ xs) ∷ pieces_from m [] ys
unfolding pieces_from
pieces_split m p [] ys none = ap (pieces_by m p m ys) (eq-eqb m m refl) ∙ ap (λ (l : List ℕ). l ∷ pieces_from m [] ys) (sym (append-nil p))
pieces_split m p (b ∷ bs) ys none =
    ap (pieces_by m p b (bs ++ (m ∷ ys))) (other m b bs none) ∙ pieces_split m (p ++ b ∷ []) bs ys (later m b bs none)
    ∙ ap (λ (l : List ℕ). l ∷ pieces_from m [] ys) (append_assoc p (b ∷ []) bs)

-- a piece goes on from what it has so far
abbrev onto : List ℕ → List (List ℕ) → List (List ℕ)
onto p [] = p ∷ []
onto p (q ∷ qs) = (p ++ q) ∷ qs

onto_none : (qs : List (List ℕ)) → 0 < length qs → onto [] qs ≡ qs
onto_none [] h = absurd (omega arith)
onto_none (q ∷ qs) h = refl

onto_more : (p : List ℕ) (b : ℕ) (qs : List (List ℕ)) → onto (p ++ b ∷ []) qs ≡ onto p (onto_first b qs)
onto_more p b [] = refl
onto_more p b (q ∷ qs) = ap (λ (l : List ℕ). l ∷ qs) (append_assoc p (b ∷ []) q)

abbrev split : ℕ → List ℕ → List (List ℕ)
split m bs = slice_split (λ b. eqb b m) bs

whole : (m : ℕ) (bs : List ℕ) → onto [] (split m bs) ≡ split m bs
whole m bs = onto_none (split m bs) (omega (arith, length-slice_split (λ b. eqb b m) bs))

pieces_onto : (m : ℕ) (p bs : List ℕ) → pieces_from m p bs ≡ onto p (split m bs)
unfolding pieces_from
pieces_onto m p [] = ap (λ (l : List ℕ). l ∷ []) (sym (append-nil p))
pieces_onto m p (b ∷ bs) = step (λ q. pieces_onto m q bs) (eqb b m)
  where
    step : ((q : List ℕ) → pieces_from m q bs ≡ onto q (split m bs)) → (t : Bool) → pieces_by m p b bs t ≡ onto p (cond t ([] ∷ split m bs) (onto_first b (split m bs)))
    step rest true = λ i. sym (append-nil p) i ∷ (rest [] ∙ whole m bs) i
    step rest false = rest (p ++ b ∷ []) ∙ onto_more p b (split m bs)

pub pieces_are : (m : ℕ) (bs : List ℕ) → pieces_from m [] bs ≡ slice_split (λ b. eqb b m) bs
pieces_are m bs = pieces_onto m [] bs ∙ whole m bs

pub some_piece : (m : ℕ) (bs : List ℕ) → 0 < length (pieces_from m [] bs)
some_piece m bs = omega (arith, ap length (pieces_are m bs), length-slice_split (λ b. eqb b m) bs)
