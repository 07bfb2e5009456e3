-- That `parse` reads the numbers of Figures, for the law of `Number`. Assumes nothing.
use Rattle.std.proofs.Common.{◌≡◌, ℕ, ◌<◌, Bool, true, false, eqb, List, [], ◌∷◌, length, get_or, drop, ℤ, pos, neg_ℤ, Some, None, Ok, Err, Option, Result, refl, ap, ◌∙◌, arith, w16, rules, eq-eqb, ne_eqb, eqb-true}
use borrow.Author.Tests.{eqb-false}
use Rattle.std.specs.Result.{OkIff, result_ok}
use Rattle.std.specs.Option.{option_map}
use Rattle.std.specs.Str.Parse.{ParsesSigned, ParsesUnsigned, ExplainsSignedError, ExplainsUnsignedError, HasSignedDigitsIfOk, HasUnsignedDigitsIfOk}
use Rattle.std.specs.declared.num.ParseIntError.{ParseIntError}
use Rattle.std.specs.Str.{all_ascii_digits}
use Rattle.std.proofs.lemmas.Str.Parse.{IsNumeralModel, numerals_by_fold, tells_all_ascii_digits, not_in_digits, parse_plain, parse_signed_minus, parse_signed_plain}
use Rattle.wording.specs.Figures.{read_on, ReadsAs, numeral, number_below, byte_of, distance_of}

own : IsNumeralModel (λ ds. all_ascii_digits ds ≡ true) (read_on 0)
unfolding read_on
own = numerals_by_fold _ tells_all_ascii_digits read_on (search rules)

abbrev Reads : ℕ → List ℕ → Type 0
Reads limit bs = (all_ascii_digits bs ≡ true) × (0 < length bs) × (read_on 0 bs < limit)

numeral_true : (limit : ℕ) (bs : List ℕ) → Reads limit bs → numeral limit bs ≡ true
unfolding numeral
numeral_true limit bs h = grind arith

numeral_false : (limit : ℕ) (bs : List ℕ) → (Reads limit bs → ⊥) → numeral limit bs ≡ false
unfolding numeral
numeral_false limit bs h = grind arith

-- an answer that follows the text is the number in it
converted_number : {X E : Type 0} (f : ℕ → X) (limit : ℕ) (bs : List ℕ) (r : Result X E)
    → OkIff r (Reads limit bs) (f (read_on 0 bs)) → result_ok r ≡ option_map f (number_below limit bs)
unfolding number_below
converted_number f limit bs (Ok x) h = rw (numeral_true limit bs h.0) (ap Some h.1)
converted_number f limit bs (Err e) h = rw (numeral_false limit bs h)

mapped_same : {X : Type 0} (o : Option X) → option_map (λ x. x) o ≡ o
mapped_same None = refl
mapped_same (Some x) = refl

-- a plus is no digit
plus_none : (limit : ℕ) (bs : List ℕ) → get_or bs 0 0 ≡ 43 → number_below limit bs ≡ None
unfolding number_below
plus_none limit bs e = rw (numeral_false limit bs (λ h. not_in_digits own bs 43 h.0 (omega arith) 0 h.1 e))

converted_same : {X E : Type 0} {P Q : Type 0} (r : Result X E) (v : X) → (P → Q) → (Q → P) → OkIff r P v → OkIff r Q v
converted_same (Ok x) v to from h = (to h.0, h.1)
converted_same (Err e) v to from h = λ q. h (from q)

distance_plus : (bs : List ℕ) → get_or bs 0 0 ≡ 43 → distance_of bs ≡ None
unfolding distance_of
distance_plus [] e = refl
distance_plus (b ∷ bs) e = rw (ne_eqb b 45 (omega arith), plus_none 32768 (b ∷ bs) e)

minus : {E : Type 0} (bs : List ℕ) (r : Result ℤ E) → get_or bs 0 0 ≡ 45
    → OkIff r (Reads 32769 (drop 1 bs)) (neg_ℤ (pos (read_on 0 (drop 1 bs)))) → result_ok r ≡ distance_of bs
unfolding distance_of
minus [] r e h = absurd (omega arith)
minus (b ∷ bs) r e h = rw (eq-eqb b 45 e) (converted_number (λ n. neg_ℤ (pos n)) 32769 bs r h)

plain : {E : Type 0} (bs : List ℕ) (r : Result ℤ E) → (get_or bs 0 0 ≡ 45 → ⊥)
    → OkIff r (Reads 32768 bs) (pos (read_on 0 bs)) → result_ok r ≡ distance_of bs
unfolding distance_of number_below numeral
plain [] r e h = converted_number pos 32768 [] r h
plain (b ∷ bs) r e h = rw (ne_eqb b 45 e) (converted_number pos 32768 (b ∷ bs) r h)

by_sign : {E : Type 0} (bs : List ℕ) (r : Result ℤ E) → ParsesSigned w16 10 bs r → (get_or bs 0 0 ≡ 43 → ⊥)
    → (t : Bool) → eqb (get_or bs 0 0) 45 ≡ t → result_ok r ≡ distance_of bs
by_sign bs r h p true e =
    minus bs r (eqb-true _ 45 e) (converted_same r _ (λ q. (q.0, q.1, omega (arith, q.2))) (λ q. (q.0, q.1, omega (arith, q.2))) (parse_signed_minus own w16 bs r h (eqb-true _ 45 e)))
by_sign bs r h p false e =
    plain bs r (eqb-false _ 45 e) (converted_same r _ (λ q. (q.0, q.1, omega (arith, q.2))) (λ q. (q.0, q.1, omega (arith, q.2))) (parse_signed_plain own w16 bs r h p (eqb-false _ 45 e)))

distance_plain : {E : Type 0} (bs : List ℕ) (r : Result ℤ E) → ParsesSigned w16 10 bs r → (get_or bs 0 0 ≡ 43 → ⊥) → result_ok r ≡ distance_of bs
distance_plain bs r h p = by_sign bs r h p (eqb (get_or bs 0 0) 45) refl

abbrev pub distance_gives : List ℕ → Result ℤ ParseIntError → Type 0
distance_gives bs r = ParsesSigned w16 10 bs r × ExplainsSignedError 10 bs r × HasSignedDigitsIfOk bs r

pub distance_reads : ReadsAs distance_of distance_gives
distance_reads = record { plussed = distance_plus; plain = λ bs r p h. distance_plain bs r h.0 p }

byte_plain : {E : Type 0} (bs : List ℕ) (r : Result ℕ E) → ParsesUnsigned 8 10 bs r → (get_or bs 0 0 ≡ 43 → ⊥) → result_ok r ≡ byte_of bs
unfolding byte_of
byte_plain bs r h p = converted_number (λ n. n) 256 bs r (parse_plain own 8 bs r h p) ∙ mapped_same _

byte_plus : (bs : List ℕ) → get_or bs 0 0 ≡ 43 → byte_of bs ≡ None
unfolding byte_of
byte_plus bs e = plus_none 256 bs e

abbrev pub byte_gives : List ℕ → Result ℕ ParseIntError → Type 0
byte_gives bs r = ParsesUnsigned 8 10 bs r × ExplainsUnsignedError 10 bs r × HasUnsignedDigitsIfOk bs r

pub byte_reads : ReadsAs byte_of byte_gives
byte_reads = record { plussed = byte_plus; plain = λ bs r p h. byte_plain bs r h.0 p }
