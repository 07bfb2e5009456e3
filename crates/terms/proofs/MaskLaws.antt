-- What masks hold, for everything above: no proof outside these two files opens a power of two. Assumes nothing.
use Rattle.std.proofs.Common.{◌≡◌, ℕ, zero, suc, ◌+◌, ◌-◌, ◌/◌, ◌%◌, ◌^◌, ◌<◌, ◌≤◌, min, Bool, true, false, cond, not, ◌&&◌, ◌||◌, eqb, ltb, List, [], ◌∷◌, length, get_or, set, replicate, zip, sym, refl, ap, ◌∙◌, subst, ap₂, inl, inr, le_of_suc-le-suc, not-suc-le-zero, mod-eq_of_lt, pow-suc, one-add, arith, pow_pos, pow_mono}
use lib.Bits.{bit_and, bit_or, bit_xor, or_lt, xor_lt, and_le_l, and_zero_r, and_zero_l, xor_zero_r}
use lib.Dec.{leb-suc-suc}
use lib.Pow.{pow-lt, mod-pow-add}
use lib.Count.{ones, ones-le, ones_cat, ones-ones}
use Rattle.std.specs.List.{list_all}
use Rattle.std.proofs.Math.Bool.{and-true}
use Rattle.std.proofs.lemmas.Nat.{mod_below}
use Rattle.std.proofs.lemmas.Bool.{eqb-true, eq-eqb, lt-ltb, le-ltb, cond-true, cases_lt, and_parts, and_from, or_left}
use Rattle.std.proofs.lemmas.Bool.Decides.{nat_tests}
use Rattle.terms.specs.Masks.{has, with, without, less, within, declared, held, held_below, declared_each, less_each, within_each, with_rule}
use Rattle.terms.proofs.Bits.{has-and, has-or, has-xor, has-pow, has-ones, has_high, has-zero, has_rest, has_shifted, same_bits}

pub has_none : (o : ℕ) → has 0 o ≡ false
has_none = has-zero

-- a mask of 32 bits holds only options
pub has_below : (m o : ℕ) → m < 2 ^ 32 → has m o ≡ true → o < 32
has_below m o h e = elim (cases_lt o 32) [ inl l ↦ l | inr l ↦ absurd (never (has_high 32 m o h l)) ]
  where
    never : has m o ≡ false → ⊥
    never f = let z : true ≡ false = sym e ∙ f in subst (λ b. elim b as (λ _. Type 0) [ true ↦ Unit {0} | false ↦ ⊥ ]) z tt

pub has-with : (m o p : ℕ) → o < 32 → has (with m o) p ≡ (has m p || eqb o p)
unfolding with
has-with m o p h = ap (λ x. has x p) (cond-true _ _ _ (lt-ltb o 32 h)) ∙ has-or m (2 ^ o) p ∙ ap (λ b. has m p || b) (has-pow o p)

but_and : (a b : Bool) → ((a && not (a && b)) || (not a && (a && b))) ≡ (a && not b)
but_and true true = refl
but_and true false = refl
but_and false true = refl
but_and false false = refl

pub has-less : (m n o : ℕ) → has (less m n) o ≡ (has m o && not (has n o))
unfolding less
has-less m n o =
    has-xor m (bit_and m n) o ∙ ap (λ b. (has m o && not b) || (not (has m o) && b)) (has-and m n o) ∙ but_and (has m o) (has n o)

pub has-without : (m o p : ℕ) → o < 32 → has (without m o) p ≡ (has m p && not (eqb o p))
unfolding without
has-without m o p h = ap (λ x. has x p) (cond-true _ _ _ (lt-ltb o 32 h)) ∙ has-less m (2 ^ o) p ∙ ap (λ b. has m p && not b) (has-pow o p)

pub has-declared : (n o : ℕ) → has (declared n) o ≡ ltb o (min n 32)
unfolding declared
has-declared n o = has-ones (min n 32) o

-- putting an option in takes none out
pub with_keeps : (m o p : ℕ) → has m p ≡ true → has (with m o) p ≡ true
unfolding with
with_keeps m o p e = elim (cases_lt o 32) [
  | inl l ↦ has-with m o p l ∙ or_left (has m p) (eqb o p) e
  | inr l ↦ ap (λ b. has (cond b (bit_or m (2 ^ o)) m) p) (le-ltb o 32 l) ∙ e
]

pub with_lt : (m o : ℕ) → m < 2 ^ 32 → with m o < 2 ^ 32
unfolding with
with_lt m o h = elim (cases_lt o 32) [ inl l ↦ subst (λ x. x < 2 ^ 32) (sym (cond-true _ _ _ (lt-ltb o 32 l))) (or_lt 32 m (2 ^ o) h (pow-lt l)) | inr l ↦ subst (λ b. cond b (bit_or m (2 ^ o)) m < 2 ^ 32) (sym (le-ltb o 32 l)) h ]

pub less_lt : (m n : ℕ) → m < 2 ^ 32 → less m n < 2 ^ 32
unfolding less
less_lt m n h = xor_lt 32 m (bit_and m n) h (omega (arith, and_le_l m n))

pub declared_lt : (n : ℕ) → declared n < 2 ^ 32
unfolding declared
declared_lt n = let l : min n 32 ≤ 32 = omega arith in let p : 2 ^ min n 32 ≤ 2 ^ 32 = pow_mono {j = 32} l in omega (arith, pow_pos (min n 32))

-- two masks that hold the same are the same
pub same_masks : (a b : ℕ) → a < 2 ^ 32 → b < 2 ^ 32 → ((o : ℕ) → o < 32 → has a o ≡ has b o) → a ≡ b
same_masks = same_bits 32

pub within_holds : (m n : ℕ) → within m n ≡ true → (o : ℕ) → has m o ≡ true → has n o ≡ true
unfolding within
within_holds m n w o e =
    part (has m o) (has n o) e (sym (has-less m n o) ∙ ap (λ x. has x o) (eqb-true (less m n) 0 w) ∙ has-zero o)
  where
    part : (a b : Bool) → a ≡ true → (a && not b) ≡ false → b ≡ true
    part true true p q = refl
    part true false p q = sym q
    part false b p q = absurd (subst (λ b. elim b as (λ _. Type 0) [ true ↦ ⊥ | false ↦ Unit {0} ]) p tt)

below_power : (n : ℕ) → n < 2 ^ n
below_power zero = omega arith
below_power (suc n) = omega (arith, below_power n, pow-suc 2 n)

-- what holds nothing is empty
pub none_held : (m : ℕ) → ((o : ℕ) → has m o ≡ false) → m ≡ 0
none_held m f = same_bits m m 0 (below_power m) (pow_pos m) (λ o l. f o ∙ sym (has-zero o))

pub holds_within : (m n : ℕ) → ((o : ℕ) → has m o ≡ true → has n o ≡ true) → within m n ≡ true
unfolding within
holds_within m n f = eq-eqb _ _ (none_held (less m n) (λ o. has-less m n o ∙ part (has m o) (has n o) (f o)))
  where
    part : (a b : Bool) → (a ≡ true → b ≡ true) → (a && not b) ≡ false
    part true b g = ap not (g refl)
    part false b g = refl

-- how many a mask holds

below_none : (n : ℕ) → held_below n 0 ≡ 0
unfolding held_below
below_none zero = refl
below_none (suc n) = ap₂ (λ x b. x + cond b 1 0) (below_none n) (has-zero n)

pub held_none : held 0 ≡ 0
unfolding held
held_none = below_none 32

below_le : (n m : ℕ) → held_below n m ≤ n
unfolding held_below
below_le zero m = omega arith
below_le (suc n) m = at (has m n) (below_le n m)
  where
    at : (b : Bool) → held_below n m ≤ n → held_below n m + cond b 1 0 ≤ suc n
    at true i = omega arith
    at false i = omega arith

pub held_le : (m : ℕ) → held m ≤ 32
unfolding held
held_le m = below_le 32 m

below_with : (n m o : ℕ) → o < 32 → has m o ≡ false → held_below n (with m o) ≡ held_below n m + cond (ltb o n) 1 0
unfolding held_below
below_with zero m o h e = grind (arith, nat_tests)
below_with (suc n) m o h e = step (has m n) (has (with m o) n) (has-with m o n h) (below_with n m o h e) (λ same. ap (has m) (sym same) ∙ e)
  where
    step : (a b : Bool) → b ≡ (a || eqb o n) → held_below n (with m o) ≡ held_below n m + cond (ltb o n) 1 0 → (o ≡ n → a ≡ false) → held_below n (with m o) + cond b 1 0 ≡ held_below n m + cond a 1 0 + cond (ltb o (suc n)) 1 0
    step true b p q r = rw p (grind (arith, nat_tests))
    step false b p q r = rw p (grind (arith, nat_tests))

pub held_with : (m o : ℕ) → o < 32 → has m o ≡ false → held (with m o) ≡ held m + 1
unfolding held
held_with m o h e = below_with 32 m o h e ∙ ap (λ b. held_below 32 m + cond b 1 0) (lt-ltb o 32 h)

-- `mask & !other` of the code
pub less_code : (m n : ℕ) → m < 2 ^ 32 → n < 2 ^ 32 → bit_and m (4294967295 - n) ≡ less m n
less_code m n h l =
    same_masks (bit_and m (4294967295 - n)) (less m n) (omega (arith, and_le_l m (4294967295 - n))) (less_lt m n h)
    (λ o i. has-and m (4294967295 - n) o ∙ ap (λ b. has m o && b) (has_rest 32 n o l i) ∙ sym (has-less m n o))

-- `count_ones` of the code
ones_below : (k m : ℕ) → ones (m % 2 ^ k) ≡ held_below k m
unfolding held_below
ones_below zero m = let e : m % 1 ≡ 0 = omega arith in ap ones e ∙ ones_le_zero
  where
    ones_le_zero : ones 0 ≡ 0
    ones_le_zero = omega (arith, ones-le 0 0 (omega arith))
ones_below (suc k) m =
    ap ones (ap (λ j. m % 2 ^ j) (sym (one-add k)) ∙ mod-pow-add m 1 k) ∙ ones_cat k (m / 2 ^ k % 2) (m % 2 ^ k) (mod_below (m) (2 ^ k) (pow_pos k))
    ∙ low (m / 2 ^ k % 2) (omega arith) (has_shifted m k) (ones_below k m)
  where
    low : (b : ℕ) → b < 2 → has m k ≡ eqb b 1 → ones (m % 2 ^ k) ≡ held_below k m → ones b + ones (m % 2 ^ k) ≡ held_below k m + cond (has m k) 1 0
    low zero l e i = rw (e, i) (omega (arith, ones-le 0 0 (omega arith)))
    low (suc zero) l e i = rw (e, i) (omega (arith, ones-ones 1))
    low (suc (suc b)) l e i = absurd (omega arith)

pub held_code : (m : ℕ) → m < 2 ^ 32 → ones m ≡ held m
unfolding held
held_code m h = ap ones (sym (mod-eq_of_lt h)) ∙ ones_below 32 m

pub length-declared_each : (n : ℕ) (ss : List ℕ) → length (declared_each n ss) ≡ length ss
unfolding declared_each
length-declared_each n [] = refl
length-declared_each zero (s ∷ ss) = ap suc (length-declared_each zero ss)
length-declared_each (suc n) (s ∷ ss) = ap suc (length-declared_each n ss)

pub declared_none : (ss : List ℕ) → declared_each 0 ss ≡ replicate (length ss) 0
unfolding declared_each
declared_none [] = refl
declared_none (s ∷ ss) = ap (λ ms. 0 ∷ ms) (declared_none ss)

-- one question more
pub declared_more : (q : ℕ) (ss : List ℕ) → q < length ss → set (declared_each q ss) q (declared (get_or ss q 0)) ≡ declared_each (suc q) ss
unfolding declared_each
declared_more q [] h = absurd (not-suc-le-zero h)
declared_more zero (s ∷ ss) h = refl
declared_more (suc q) (s ∷ ss) h = ap (λ ms. declared s ∷ ms) (declared_more q ss (le_of_suc-le-suc h))

-- a count past the last size declares no more
pub declared_past : (ss : List ℕ) (m n : ℕ) → min (length ss) n ≤ m → m ≤ n → declared_each m ss ≡ declared_each n ss
unfolding declared_each
declared_past [] m n h l = refl
declared_past (s ∷ ss) zero zero h l = refl
declared_past (s ∷ ss) zero (suc n) h l = absurd (omega arith)
declared_past (s ∷ ss) (suc m) zero h l = absurd (omega arith)
declared_past (s ∷ ss) (suc m) (suc n) h l = ap (λ ms. declared s ∷ ms) (declared_past ss m n (omega arith) (omega arith))

-- the mask at a question: what its size declares, and nothing from n up
pub get_or-declared_each : (n : ℕ) (ss : List ℕ) (k : ℕ) → get_or (declared_each n ss) k 0 ≡ cond (ltb k n) (declared (get_or ss k 0)) 0
unfolding declared_each declared
get_or-declared_each n [] k = sym (nothing (ltb k n))
  where
    nothing : (b : Bool) → cond {A = ℕ} b 0 0 ≡ 0
    nothing true = refl
    nothing false = refl
get_or-declared_each zero (s ∷ ss) zero = refl
get_or-declared_each zero (s ∷ ss) (suc k) = get_or-declared_each zero ss k ∙ ap (λ b. cond b (declared (get_or ss k 0)) 0) (le-ltb k 0 (omega arith) ∙ sym (le-ltb (suc k) 0 (omega arith)))
get_or-declared_each (suc n) (s ∷ ss) zero = ap (λ b. cond b (declared s) 0) (sym (lt-ltb 0 (suc n) (omega arith)))
get_or-declared_each (suc n) (s ∷ ss) (suc k) = get_or-declared_each n ss k ∙ ap (λ b. cond b (declared (get_or ss k 0)) 0) (sym (leb-suc-suc (suc k) n))

-- lists of masks

pub less_none : (m : ℕ) → less m 0 ≡ m
unfolding less
less_none m = ap (bit_xor m) (and_zero_r m) ∙ xor_zero_r m

pub length-less_each : (ms ns : List ℕ) → length (less_each ms ns) ≡ length ms
unfolding less_each
length-less_each [] ns = refl
length-less_each (m ∷ ms) [] = ap suc (length-less_each ms [])
length-less_each (m ∷ ms) (n ∷ ns) = ap suc (length-less_each ms ns)

pub get_or-less_each : (ms ns : List ℕ) (k : ℕ) → get_or (less_each ms ns) k 0 ≡ less (get_or ms k 0) (get_or ns k 0)
unfolding less_each less
get_or-less_each [] ns k = sym (ap (bit_xor 0) (and_zero_l (get_or ns k 0)))
get_or-less_each (m ∷ ms) [] zero = sym (less_none m)
get_or-less_each (m ∷ ms) [] (suc k) = get_or-less_each ms [] k
get_or-less_each (m ∷ ms) (n ∷ ns) zero = refl
get_or-less_each (m ∷ ms) (n ∷ ns) (suc k) = get_or-less_each ms ns k

all_four : (a b c d : Bool) → (a && (b && (c && d))) ≡ true → (a ≡ true) × (b ≡ true) × (c ≡ true) × (d ≡ true)
all_four a b c d e =
    let l = and_parts a (b && (c && d)) e in
    let m = and_parts b (c && d) l.1 in
    let n = and_parts c d m.1 in
    (l.0, m.0, n.0, n.1)

module _ (ms ns : List ℕ) where
  one : ℕ → Bool
  one j = within (get_or ms j 0) (get_or ns j 0)

  pub within_each_holds : within_each ms ns ≡ true → (j x : ℕ) → j < 4 → has (get_or ms j 0) x ≡ true → has (get_or ns j 0) x ≡ true
  unfolding within_each one
  within_each_holds w zero x h e = within_holds _ _ (all_four (one 0) (one 1) (one 2) (one 3) w).0 x e
  within_each_holds w (suc zero) x h e = within_holds _ _ (all_four (one 0) (one 1) (one 2) (one 3) w).1 x e
  within_each_holds w (suc (suc zero)) x h e = within_holds _ _ (all_four (one 0) (one 1) (one 2) (one 3) w).2 x e
  within_each_holds w (suc (suc (suc zero))) x h e = within_holds _ _ (all_four (one 0) (one 1) (one 2) (one 3) w).3 x e
  within_each_holds w (suc (suc (suc (suc j)))) x h e = absurd (omega arith)

  pub holds_within_each : ((j x : ℕ) → j < 4 → has (get_or ms j 0) x ≡ true → has (get_or ns j 0) x ≡ true) → within_each ms ns ≡ true
  unfolding within_each one
  holds_within_each f =
      let w : (j : ℕ) → j < 4 → one j ≡ true = λ j h. holds_within _ _ (λ x. f j x h) in
      and_from (one 0) (one 1 && (one 2 && one 3)) (w 0 (omega arith)) (and_from (one 1) (one 2 && one 3) (w 1 (omega arith)) (and_from (one 2) (one 3) (w 2 (omega arith)) (w 3 (omega arith))))

pub has-with_rule : (rs r p : ℕ) → r < 64 → has (with_rule rs r) p ≡ (has rs p || eqb r p)
unfolding with_rule
has-with_rule rs r p h = ap (λ x. has x p) (cond-true _ _ _ (lt-ltb r 64 h)) ∙ has-or rs (2 ^ r) p ∙ ap (λ b. has rs p || b) (has-pow r p)

-- the same, pair by pair
pub within_each_zip : (ms ns : List ℕ) → length ms ≡ 4 → length ns ≡ 4 → list_all (λ p. within p.0 p.1) (zip ms ns) ≡ within_each ms ns
unfolding within_each
within_each_zip (a ∷ b ∷ c ∷ d ∷ []) (e ∷ f ∷ g ∷ h ∷ []) l m =
    ap (λ t. within a e && (within b f && (within c g && t))) (and-true (within d h))
within_each_zip _ _ l m = absurd (omega arith)

-- a set of 64 bits holds only rules
pub has_past_rules : (rs r : ℕ) → rs < 2 ^ 64 → 64 ≤ r → has rs r ≡ false
has_past_rules rs r = has_high 64 rs r
