-- `has` of the numbers that masks are made of, for every width. Assumes nothing.
use Rattle.std.proofs.Common.{◌≡◌, ℕ, zero, suc, ◌-◌, ◌/◌, ◌%◌, ◌^◌, ◌<◌, ◌≤◌, false, not, ◌&&◌, ◌||◌, eqb, ltb, ◌⊎◌, sym, refl, ap, ◌∙◌, inl, inr, le_of_suc-le-suc, not-suc-le-zero, pow-suc, div-one, one-add, arith, pow_pos, shr-shr}
use lib.Bits.{bit_and, bit_or, bit_xor, and_mod, or_mod, xor_mod, and_shr, or_shr, xor_shr}
use lib.Dec.{leb-suc-suc, eqb-suc-suc, eqb-zero-suc, eqb-suc-zero}
use Rattle.std.proofs.lemmas.Bool.Decides.{nat_tests}
use Rattle.std.proofs.lemmas.Bool.{eqb-true, eqb-false, cases_Bool}
use Rattle.terms.specs.Masks.{has}

-- as the code reads it: shifted down, the lowest bit
pub has_shifted : (m o : ℕ) → has m o ≡ eqb (m / 2 ^ o % 2) 1
unfolding has
has_shifted m zero = ap (λ x. eqb (x % 2) 1) (sym (div-one m))
has_shifted m (suc o) = has_shifted (m / 2) o ∙ ap (λ x. eqb (x % 2) 1) (shr-shr m 1 o ∙ ap (λ k. m / 2 ^ k) (one-add o))

bit : (n : ℕ) → (n % 2 ≡ 0) ⊎ (n % 2 ≡ 1)
bit n = elim (cases_Bool (eqb (n % 2) 0)) [ inl e ↦ inl (eqb-true _ _ e) | inr e ↦ inr (omega (arith, eqb-false (n % 2) 0 e)) ]

and_low : (x y : ℕ) → (x ≡ 0) ⊎ (x ≡ 1) → (y ≡ 0) ⊎ (y ≡ 1) → eqb (bit_and x y) 1 ≡ (eqb x 1 && eqb y 1)
and_low x y (inl e) (inl f) = rw e
and_low x y (inl e) (inr f) = rw e
and_low x y (inr e) (inl f) = rw (e, f)
and_low x y (inr e) (inr f) = rw (e, f)

or_low : (x y : ℕ) → (x ≡ 0) ⊎ (x ≡ 1) → (y ≡ 0) ⊎ (y ≡ 1) → eqb (bit_or x y) 1 ≡ (eqb x 1 || eqb y 1)
or_low x y (inl e) (inl f) = rw (e, f)
or_low x y (inl e) (inr f) = rw (e, f)
or_low x y (inr e) (inl f) = rw (e, f)
or_low x y (inr e) (inr f) = rw (e, f)

pub has-and : (a b o : ℕ) → has (bit_and a b) o ≡ (has a o && has b o)
unfolding has
has-and a b zero = ap (λ x. eqb x 1) (and_mod a b 1) ∙ and_low (a % 2) (b % 2) (bit a) (bit b)
has-and a b (suc o) = ap (λ x. has x o) (and_shr a b 1) ∙ has-and (a / 2) (b / 2) o

pub has-or : (a b o : ℕ) → has (bit_or a b) o ≡ (has a o || has b o)
unfolding has
has-or a b zero = ap (λ x. eqb x 1) (or_mod a b 1) ∙ or_low (a % 2) (b % 2) (bit a) (bit b)
has-or a b (suc o) = ap (λ x. has x o) (or_shr a b 1) ∙ has-or (a / 2) (b / 2) o

xor_low : (x y : ℕ) → (x ≡ 0) ⊎ (x ≡ 1) → (y ≡ 0) ⊎ (y ≡ 1) → eqb (bit_xor x y) 1 ≡ ((eqb x 1 && not (eqb y 1)) || (not (eqb x 1) && eqb y 1))
xor_low x y (inl e) (inl f) = rw (e, f)
xor_low x y (inl e) (inr f) = rw (e, f)
xor_low x y (inr e) (inl f) = rw (e, f)
xor_low x y (inr e) (inr f) = rw (e, f)

pub has-xor : (a b o : ℕ) → has (bit_xor a b) o ≡ ((has a o && not (has b o)) || (not (has a o) && has b o))
unfolding has
has-xor a b zero = ap (λ x. eqb x 1) (xor_mod a b 1) ∙ xor_low (a % 2) (b % 2) (bit a) (bit b)
has-xor a b (suc o) = ap (λ x. has x o) (xor_shr a b 1) ∙ has-xor (a / 2) (b / 2) o

pub has-zero : (o : ℕ) → has 0 o ≡ false
unfolding has
has-zero zero = refl
has-zero (suc o) = has-zero o

-- a power of two holds one option
pub has-pow : (o p : ℕ) → has (2 ^ o) p ≡ eqb o p
unfolding has
has-pow zero zero = refl
has-pow zero (suc p) = has-zero p ∙ sym (eqb-zero-suc p)
has-pow (suc o) zero =
    let e : 2 ^ suc o % 2 ≡ 0 = omega (arith, pow-suc 2 o) in
    rw e (sym (eqb-suc-zero o))
has-pow (suc o) (suc p) =
    let e : 2 ^ suc o / 2 ≡ 2 ^ o = omega (arith, pow-suc 2 o) in
    ap (λ x. has x p) e ∙ has-pow o p ∙ sym (eqb-suc-suc o p)

-- the ones below 2 ^ n hold the options below n
pub has-ones : (n o : ℕ) → has (2 ^ n - 1) o ≡ ltb o n
unfolding has
has-ones zero o = has-zero o ∙ grind (arith, nat_tests)
has-ones (suc n) zero =
    let e : (2 ^ suc n - 1) % 2 ≡ 1 = omega (arith, pow-suc 2 n, pow_pos n) in
    rw e (grind (arith, nat_tests))
has-ones (suc n) (suc o) =
    let e : (2 ^ suc n - 1) / 2 ≡ 2 ^ n - 1 = omega (arith, pow-suc 2 n, pow_pos n) in
    ap (λ x. has x o) e ∙ has-ones n o ∙ sym (leb-suc-suc (suc o) n)

-- a number below 2 ^ k holds nothing from k up
pub has_high : (k m o : ℕ) → m < 2 ^ k → k ≤ o → has m o ≡ false
unfolding has
has_high zero m o h l = let e : m ≡ 0 = omega arith in rw e (has-zero o)
has_high (suc k) m zero h l = absurd (not-suc-le-zero l)
has_high (suc k) m (suc o) h l = has_high k (m / 2) o (omega (arith, pow-suc 2 k)) (le_of_suc-le-suc l)

-- taken from all ones, what was not held
pub has_rest : (k m o : ℕ) → m < 2 ^ k → o < k → has (2 ^ k - 1 - m) o ≡ not (has m o)
unfolding has
has_rest zero m o h l = absurd (not-suc-le-zero l)
has_rest (suc k) m zero h l = low (bit m)
  where
    low : (m % 2 ≡ 0) ⊎ (m % 2 ≡ 1) → eqb ((2 ^ suc k - 1 - m) % 2) 1 ≡ not (eqb (m % 2) 1)
    low (inl e) = let f : (2 ^ suc k - 1 - m) % 2 ≡ 1 = omega (arith, pow-suc 2 k) in rw (e, f)
    low (inr e) = let f : (2 ^ suc k - 1 - m) % 2 ≡ 0 = omega (arith, pow-suc 2 k) in rw (e, f)
has_rest (suc k) m (suc o) h l =
    let e : (2 ^ suc k - 1 - m) / 2 ≡ 2 ^ k - 1 - m / 2 = omega (arith, pow-suc 2 k) in
    ap (λ x. has x o) e ∙ has_rest k (m / 2) o (omega (arith, pow-suc 2 k)) (le_of_suc-le-suc l)

-- two numbers below 2 ^ k with the same options are equal
pub same_bits : (k a b : ℕ) → a < 2 ^ k → b < 2 ^ k → ((o : ℕ) → o < k → has a o ≡ has b o) → a ≡ b
unfolding has
same_bits zero a b h l e = omega arith
same_bits (suc k) a b h l e =
    let low : a % 2 ≡ b % 2 = grind (arith, nat_tests, bit a, bit b, e 0 (omega arith)) in
    let high : a / 2 ≡ b / 2 = same_bits k (a / 2) (b / 2) (omega (arith, pow-suc 2 k)) (omega (arith, pow-suc 2 k)) (λ o i. e (suc o) (omega arith)) in
    omega arith
