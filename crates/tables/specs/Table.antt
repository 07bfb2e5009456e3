-- Rules that list what they allow. Assumes nothing.
use Rattle.std.specs.Prelude.{ℕ, zero, suc, ◌+◌, ◌/◌, ◌%◌, Bool, true, false, not, ◌&&◌, List, [], ◌∷◌, length, take, drop, is_some, Some, None, Option, ◌==◌, nat_eq, nat_le, nat_lt, slice_index, slice_index_or, slice_set}
use Rattle.terms.specs.Masks.{has, with}
use Rattle.terms.specs.declared.refusal.Refusal.{Refusal}
use Rattle.terms.specs.declared.refusal.Refusal.TheVariants.{BadRows}
use Rattle.tables.specs.declared.table.TableRule.{TableRule}
use Rattle.books.specs.Plain.{Plain, no_scope}
use Rattle.books.specs.Questions.{rules_fault, first_of, lowest}
use Rattle.books.specs.Reasons.{owed, no_reason}

-- the option of a row at a position: a byte, the lowest first
unfoldable pub option_at : ℕ → ℕ → ℕ
option_at row zero = row % 256
option_at row (suc p) = option_at (row / 256) p

-- the options of a row at its first n positions
unfoldable pub options_of : ℕ → ℕ → List ℕ
options_of zero row = []
options_of (suc n) row = row % 256 ∷ options_of n (row / 256)

unfoldable pub same_options : List ℕ → List ℕ → Bool
same_options [] [] = true
same_options [] (y ∷ ys) = false
same_options (x ∷ xs) [] = false
same_options (x ∷ xs) (y ∷ ys) = x == y && same_options xs ys

-- some row passes the test
unfoldable pub some_row : (ℕ → Bool) → List ℕ → Bool
some_row test [] = false
some_row test (row ∷ rows) = elim (test row) [ true ↦ true | false ↦ some_row test rows ]

-- every row passes the test
unfoldable pub all_rows : (ℕ → Bool) → List ℕ → Bool
all_rows test [] = true
all_rows test (row ∷ rows) = elim (test row) [ true ↦ all_rows test rows | false ↦ false ]

-- the rows of a rule
abbrev pub run : List ℕ → TableRule → List ℕ
run rows t = take t.count (drop t.first rows)

-- x may stand at position j: at p it is o, elsewhere it is in the mask
abbrev pub fits_at : ℕ → ℕ → List ℕ → ℕ → ℕ → Bool
fits_at p o masks j x = elim (j == p) [ true ↦ nat_eq x o | false ↦ has (slice_index masks j) x ]

-- the lowest of the first n positions at which the row does not fit
unfoldable pub unfit : ℕ → ℕ → ℕ → List ℕ → ℕ → Option ℕ
unfit zero p o masks row = None
unfit (suc n) p o masks row =
    elim (unfit n p o masks row) [
      | Some j ↦ Some j
      | None ↦ elim (fits_at p o masks n (option_at row n)) [ true ↦ None | false ↦ Some n ]
    ]

-- the row fits at every position
abbrev pub row_supports : ℕ → ℕ → ℕ → List ℕ → ℕ → Bool
row_supports n p o masks row = not (is_some (unfit n p o masks row))

-- x may be written at position k of a rule over n questions: an option, and 0 past the last
abbrev pub sound_at : ℕ → ℕ → ℕ → Bool
sound_at n k x = elim (nat_lt k n) [ true ↦ nat_lt x 32 | false ↦ nat_eq x 0 ]

-- the first k positions hold what they may
unfoldable pub sound_upto : ℕ → ℕ → ℕ → Bool
sound_upto zero n row = true
sound_upto (suc k) n row =
    elim (sound_upto k n row) [
      | true ↦ sound_at n k (option_at row k)
      | false ↦ false
    ]

abbrev pub sound_row : ℕ → ℕ → Bool
sound_row n row = sound_upto 4 n row

-- the rows of a rule are there, and each is sound
unfoldable pub sound_run : List ℕ → TableRule → Bool
sound_run rows t = nat_le (t.first + t.count) (length rows) && all_rows (sound_row t.scope.count) (run rows t)

-- the lowest rule, the first being number r, whose rows are not sound
unfoldable pub bad_rows : List ℕ → ℕ → List TableRule → Option Refusal
bad_rows rows = lowest (sound_run rows) BadRows

-- the first fault of what is handed in
unfoldable pub table_fault : List ℕ → List TableRule → Option Refusal
table_fault rows rules = first_of (rules_fault (λ t. t.scope) 1 4 rules) (bad_rows rows 0 rules)

-- a rule that is not there: no questions and no rows
abbrev pub no_table : TableRule
no_table = record { scope = no_scope; first = 0; count = 0 }

abbrev pub table_at : List TableRule → ℕ → TableRule
table_at rules r = slice_index_or rules r no_table

unfoldable pub table_model : List ℕ → List TableRule → Plain
table_model rows rules =
    record {
      rules = length rules;
      scope = λ r. (table_at rules r).scope;
      allows = λ r t. some_row (λ row. same_options (options_of (table_at rules r).scope.count row) t) (run rows (table_at rules r));
      supports = λ r p o masks.
          nat_lt p (table_at rules r).scope.count
          && (nat_lt o 32 && some_row (row_supports (table_at rules r).scope.count p o masks) (run rows (table_at rules r)));
    }

-- what a row adds to the reason: where it fits the declared masks, its option at the lowest position that does not stand
unfoldable pub note_row : ℕ → ℕ → ℕ → List ℕ → List ℕ → List ℕ → ℕ → List ℕ
note_row n p o declared standing reason row =
    elim (unfit n p o declared row) [
      | Some j ↦ reason
      | None ↦
          elim (unfit n p o standing row) [
            | Some j ↦ slice_set reason j (with (slice_index reason j) (option_at row j))
            | None ↦ reason
          ]
    ]

unfoldable pub note_rows : ℕ → ℕ → ℕ → List ℕ → List ℕ → List ℕ → List ℕ → List ℕ
note_rows n p o declared standing reason [] = reason
note_rows n p o declared standing reason (row ∷ rows) = note_rows n p o declared standing (note_row n p o declared standing reason row) rows

unfoldable pub table_reasons : List ℕ → List TableRule → ℕ → ℕ → ℕ → List ℕ → List ℕ → List ℕ
table_reasons rows rules r p o declared standing =
    elim (owed (table_model rows rules) r p o declared standing) [
      | true ↦ note_rows (table_at rules r).scope.count p o declared standing no_reason (run rows (table_at rules r))
      | false ↦ no_reason
    ]
