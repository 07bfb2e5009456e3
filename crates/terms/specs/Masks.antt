-- A mask is a set of options: its bit o says whether it holds option o. Assumes nothing.
use Rattle.std.specs.Prelude.{ℕ, zero, suc, ◌+◌, ◌-◌, ◌/◌, ◌%◌, ◌^◌, min, Bool, cond, ◌&&◌, List, [], ◌∷◌, ◌==◌, bit_and, bit_or, bit_xor, nat_lt, slice_index}

-- bit o of m, counted from the lowest
unfoldable pub has : ℕ → ℕ → Bool
has m zero = m % 2 == 1
has m (suc o) = has (m / 2) o

-- the mask with option o put in; a number that is no option changes nothing
unfoldable pub with : ℕ → ℕ → ℕ
with m o = cond (nat_lt o 32) (bit_or m (2 ^ o)) m

-- what m holds and n does not
unfoldable pub less : ℕ → ℕ → ℕ
less m n = bit_xor m (bit_and m n)

-- the mask with option o taken out
unfoldable pub without : ℕ → ℕ → ℕ
without m o = cond (nat_lt o 32) (less m (2 ^ o)) m

-- everything in m is in n
unfoldable pub within : ℕ → ℕ → Bool
within m n = less m n == 0

-- the options below a size
unfoldable pub declared : ℕ → ℕ
declared size = 2 ^ min size 32 - 1

-- how many of the options below n are in m
unfoldable pub held_below : ℕ → ℕ → ℕ
held_below zero m = 0
held_below (suc n) m = held_below n m + cond (has m n) 1 0

-- how many options a mask holds
unfoldable pub held : ℕ → ℕ
held m = held_below 32 m

-- the declared masks of the first n sizes, and nothing for the others
unfoldable pub declared_each : ℕ → List ℕ → List ℕ
declared_each n [] = []
declared_each zero (s ∷ ss) = 0 ∷ declared_each zero ss
declared_each (suc n) (s ∷ ss) = declared s ∷ declared_each n ss

-- masks less others, one by one
unfoldable pub less_each : List ℕ → List ℕ → List ℕ
less_each [] ns = []
less_each (m ∷ ms) [] = m ∷ less_each ms []
less_each (m ∷ ms) (n ∷ ns) = less m n ∷ less_each ms ns

-- four masks within four others
unfoldable pub within_each : List ℕ → List ℕ → Bool
within_each ms ns =
    within (slice_index ms 0) (slice_index ns 0) && (within (slice_index ms 1) (slice_index ns 1) && (within (slice_index ms 2) (slice_index ns 2) && within (slice_index ms 3) (slice_index ns 3)))

-- a set of rules with rule r put in: bit r of 64 is rule r
unfoldable pub with_rule : ℕ → ℕ → ℕ
with_rule rs r = cond (nat_lt r 64) (bit_or rs (2 ^ r)) rs
