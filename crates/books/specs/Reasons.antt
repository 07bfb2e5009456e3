-- What a reason is: options that do not stand, and without which an option still lacks support. Assumes nothing.
use Rattle.std.specs.Prelude.{◌≡◌, ℕ, ◌≤◌, Bool, true, false, not, ◌&&◌, List, [], ◌∷◌, length, nat_lt, slice_index, slice_index_or}
use Rattle.terms.specs.Masks.{has, less_each, within_each}
use Rattle.books.specs.Plain.{Plain, positions}

abbrev pub no_reason : List ℕ
no_reason = 0 ∷ 0 ∷ 0 ∷ 0 ∷ []

-- a reason is owed: the rule has that position, o is an option, the standing masks lie within the declared ones,
-- and under them o lacks support
unfoldable pub owed : Plain → ℕ → ℕ → ℕ → List ℕ → List ℕ → Bool
owed b r p o declared standing =
    nat_lt r b.rules && (nat_lt p (positions b r) && (nat_lt o 32 && (within_each standing declared && not (b.supports r p o standing))))

-- the four masks of a reason that is owed
pub record Explains (b : Plain) (r p o : ℕ) (declared standing reason : List ℕ) : Type 0 where
  pub four : length reason ≡ 4
  pub crossed : (j x : ℕ) → has (slice_index reason j) x ≡ true → (has (slice_index declared j) x ≡ true) × (has (slice_index standing j) x ≡ false)
  pub elsewhere : slice_index_or reason p 0 ≡ 0
  pub past : (j : ℕ) → positions b r ≤ j → slice_index reason j ≡ 0
  pub lacks : b.supports r p o (less_each declared reason) ≡ false

-- the law of reasons
pub record Reasonable (b : Plain) (reason : ℕ → ℕ → ℕ → List ℕ → List ℕ → List ℕ) : Type 0 where
  pub explains : (r p o : ℕ) (declared standing : List ℕ) → owed b r p o declared standing ≡ true → Explains b r p o declared standing (reason r p o declared standing)
  pub otherwise : (r p o : ℕ) (declared standing : List ℕ) → owed b r p o declared standing ≡ false → reason r p o declared standing ≡ no_reason
