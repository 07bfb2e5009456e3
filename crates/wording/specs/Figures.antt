-- Numbers as they are written in a sitting. Assumes nothing.
use Rattle.std.specs.Prelude.{◌≡◌, ◌≢◌, ℕ, ◌+◌, ◌-◌, ◌*◌, Bool, cond, ◌&&◌, List, [], ◌∷◌, ◌++◌, length, ℤ, pos, neg_ℤ, Some, None, Ok, Err, Option, Result, ◌==◌, nat_lt, slice_index}
use Rattle.std.specs.Option.{option_map}
use Rattle.std.specs.Result.{result_ok}
use Rattle.std.specs.Str.{all_ascii_digits}

-- the number that decimal digits write, after the number so far
unfoldable pub read_on : ℕ → List ℕ → ℕ
read_on n [] = n
read_on n (c ∷ cs) = read_on (10 * n + (c - 48)) cs

-- some decimal digits, and nothing else, that write a number below the limit
unfoldable pub numeral : ℕ → List ℕ → Bool
numeral limit bs = all_ascii_digits bs && (nat_lt 0 (length bs) && nat_lt (read_on 0 bs) limit)

unfoldable pub number_below : ℕ → List ℕ → Option ℕ
number_below limit bs = cond (numeral limit bs) (Some (read_on 0 bs)) None

-- at most 255
unfoldable pub byte_of : List ℕ → Option ℕ
byte_of bs = number_below 256 bs

-- from -32768 to 32767, with a minus (45) in front or without
unfoldable pub distance_of : List ℕ → Option ℤ
distance_of [] = None
distance_of (b ∷ bs) = cond (b == 45) (option_map (λ n. neg_ℤ (pos n)) (number_below 32769 bs)) (option_map pos (number_below 32768 (b ∷ bs)))

-- the number in a text is what is read of it, but none where a plus (43) stands in front
pub record ReadsAs {X E : Type 0} (number_in : List ℕ → Option X) (gives : List ℕ → Result X E → Type 0) : Type 0 where
  pub plussed : (bs : List ℕ) → slice_index bs 0 ≡ 43 → number_in bs ≡ None
  pub plain : (bs : List ℕ) (r : Result X E) → slice_index bs 0 ≢ 43 → gives bs r → result_ok r ≡ number_in bs

-- the numbers of the words, after those so far, or the first word that writes none
unfoldable pub numbers_after : List ℕ → List (List ℕ) → Result (List ℕ) (List ℕ)
numbers_after ns [] = Ok ns
numbers_after ns (w ∷ ws) = elim (byte_of w) [ None ↦ Err w | Some n ↦ numbers_after (ns ++ n ∷ []) ws ]

-- what a result of the code holds, by what its value and its error hold
abbrev pub both : {X Y E F : Type 0} → (X → Y) → (E → F) → Result X E → Result Y F
both f g (Ok x) = Ok (f x)
both f g (Err e) = Err (g e)
