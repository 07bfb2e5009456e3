-- What the sizes of an opened sheet are. Assumes nothing.
use Rattle.std.proofs.Common.{◌≡◌, ℕ, zero, suc, ◌-◌, ◌<◌, ◌≤◌, Bool, true, false, ◌||◌, eqb, ltb, List, [], ◌∷◌, ◌++◌, length, get_or, set, replicate, Some, None, Option, sym, refl, ap, ◌∙◌, subst, subst₂, inl, inr, le_of_suc-le-suc, not-suc-le-zero, arith}
use Rattle.std.proofs.lemmas.List.{length-append, length-replicate, get_or_append_left, get_or-append_right, get_or-replicate, get_or_past, get_or-set_same, get_or-set_other}
use Rattle.std.proofs.lemmas.Bool.{or_parts, eqb-false, ltb-false, cases_lt, cases_eq}
use Rattle.terms.specs.declared.refusal.Refusal.{Refusal}
use Rattle.record.specs.Told.{refuse}
use Rattle.record.specs.Calls.{open_fault, size_fault}
use Rattle.record.specs.Sound.{Large, Small, Past, Picked}

pub some_none : {A : Type 0} (a : A) → Some a ≡ None → ⊥
some_none {A} a e = subst (λ o. elim o as (λ _. Type 0) [ Some x ↦ Unit {0} | None ↦ ⊥ ]) e tt

-- a test that did not refuse
pub passed : (b : Bool) (e : Refusal) (next : Option Refusal) → refuse b e next ≡ None → (b ≡ false) × (next ≡ None)
passed true e next h = absurd (some_none e h)
passed false e next h = (refl, h)

-- three tests that did not refuse
pub passed_all : (a b c : Bool) (x y z : Refusal) → refuse a x (refuse b y (refuse c z None)) ≡ None → (a ≡ false) × (b ≡ false) × (c ≡ false)
passed_all a b c x y z h =
    let one = passed a x (refuse b y (refuse c z None)) h in
    let two = passed b y (refuse c z None) one.1 in
    let three = passed c z None two.1 in
    (one.0, two.0, three.0)

fine : (xs : List ℕ) (q : ℕ) → size_fault q xs ≡ None → (k : ℕ) → k < length xs → (1 ≤ get_or xs k 0) × (get_or xs k 0 ≤ 32)
unfolding size_fault
fine [] q h k i = absurd (not-suc-le-zero i)
fine (x ∷ xs) q h zero i =
    let p = or_parts (eqb x 0) (ltb 32 x) (passed _ _ _ h).0 in
    (omega (arith, eqb-false x 0 p.0), ltb-false 32 x p.1)
fine (x ∷ xs) q h (suc k) i = fine xs (suc q) (passed _ _ _ h).1 k (le_of_suc-le-suc i)

module _ (xs : List ℕ) (h : open_fault xs ≡ None) where
  tests : ((eqb (length xs) 0 || ltb 16 (length xs)) ≡ false) × (size_fault 0 xs ≡ None)
  unfolding open_fault
  tests = passed _ _ _ h

  pub count_some : 1 ≤ length xs
  count_some = omega (arith, eqb-false (length xs) 0 (or_parts (eqb (length xs) 0) (ltb 16 (length xs)) tests.0).0)

  pub count_few : length xs ≤ 16
  count_few = ltb-false 16 (length xs) (or_parts (eqb (length xs) 0) (ltb 16 (length xs)) tests.0).1

  within : (q : ℕ) → q < length xs → get_or (xs ++ replicate (16 - length xs) 0) q 0 ≡ get_or xs q 0
  within q i = get_or_append_left xs _ 0 q i

  beyond : (q : ℕ) → length xs ≤ q → get_or (xs ++ replicate (16 - length xs) 0) q 0 ≡ 0
  beyond q i = get_or-append_right xs (replicate (16 - length xs) 0) (length xs) q 0 refl i ∙ zeros (16 - length xs) (q - length xs)
    where
      zeros : (n k : ℕ) → get_or {A = ℕ} (replicate n 0) k 0 ≡ 0
      zeros n k = elim (cases_lt k n) [ inl l ↦ get_or-replicate n k 0 0 l | inr l ↦ get_or_past (replicate n 0) k 0 (omega (arith, length-replicate {A = ℕ} n 0)) ]

  pub sizes_length : length (xs ++ replicate (16 - length xs) 0) ≡ 16
  sizes_length = omega (arith, length-append xs (replicate (16 - length xs) 0), length-replicate {A = ℕ} (16 - length xs) 0, count_few)

  pub sizes_large : Large (length xs) (xs ++ replicate (16 - length xs) 0)
  sizes_large q i = omega (arith, within q i, (fine xs 0 tests.1 q i).0)

  pub sizes_small : Small (xs ++ replicate (16 - length xs) 0)
  sizes_small q = elim (cases_lt q (length xs)) [ inl i ↦ omega (arith, within q i, (fine xs 0 tests.1 q i).1) | inr i ↦ omega (arith, beyond q i) ]

  pub sizes_past : Past (length xs) (xs ++ replicate (16 - length xs) 0)
  sizes_past q i = beyond q i

-- nothing is picked
pub unpicked : (n q : ℕ) → get_or {A = Option ℕ} (replicate n None) q None ≡ None
unpicked n q = elim (cases_lt q n) [ inl l ↦ get_or-replicate n q None None l | inr l ↦ get_or_past (replicate n None) q None (omega (arith, length-replicate {A = Option ℕ} n None)) ]

-- a pick on an unpicked question is among its options, and so are the others
pub picked_more : (sizes : List ℕ) (picks : List (Option ℕ)) (q o : ℕ) → Picked sizes picks → q < length picks → o < get_or sizes q 0 → Picked sizes (set picks q (Some o))
picked_more sizes picks q o old i h k x e =
    elim (cases_eq k q) [
      | inl s ↦
          (let f : Some o ≡ Some x = sym (get_or-set_same picks q (Some o) None i) ∙ ap (λ n. get_or (set picks q (Some o)) n None) (sym s) ∙ e in
          let g : o ≡ x = cc in
          subst₂ (λ a b. a < get_or sizes b 0) g (sym s) h)
      | inr n ↦ old k x (sym (get_or-set_other picks q k (Some o) None n) ∙ e)
    ]
