-- The definitions computed on a small table. Assumes nothing.
use Rattle.std.proofs.Common.{◌≡◌, ℕ, List, [], ◌∷◌, Some, None, refl}
use Rattle.terms.specs.Masks.{has, with, less, within, within_each}
use Rattle.terms.specs.declared.scope.Scope.{Scope}
use Rattle.terms.specs.declared.refusal.Refusal.TheVariants.{BadQuestions, BadRows}
use Rattle.books.specs.Questions.{fresh, fits, misfit, first_fault, too_many, rules_fault}
use Rattle.books.specs.Reasons.{owed, no_reason}
use Rattle.tables.specs.declared.table.TableRule.{TableRule}
use Rattle.tables.specs.Table.{option_at, some_row, all_rows, unfit, sound_upto, sound_run, bad_rows, note_row, note_rows, table_fault, table_model, table_reasons}

abbrev over : ℕ → ℕ → Scope
over a b = record { count = 2; questions = a ∷ b ∷ 0 ∷ 0 ∷ [] }

-- (0, 0), (0, 1), (1, 1), (2, 2)
abbrev rows : List ℕ
rows = 0 ∷ 256 ∷ 257 ∷ 514 ∷ []

abbrev tables : List TableRule
tables = record { scope = over 0 1; first = 0; count = 4 } ∷ []

-- a book without fault, and the first fault of others

table_taken : table_fault rows tables ≡ None
unfolding table_fault rules_fault too_many misfit fits fresh has with bad_rows first_fault sound_run all_rows sound_upto option_at
table_taken = refl

past_the_list : table_fault rows (record { scope = over 0 1; first = 1; count = 4 } ∷ []) ≡ Some (BadRows 0)
unfolding table_fault rules_fault too_many misfit fits fresh has with bad_rows first_fault sound_run all_rows sound_upto option_at
past_the_list = refl

no_option : table_fault (32 ∷ []) (record { scope = over 0 1; first = 0; count = 1 } ∷ []) ≡ Some (BadRows 0)
unfolding table_fault rules_fault too_many misfit fits fresh has with bad_rows first_fault sound_run all_rows sound_upto option_at
no_option = refl

-- questions come before rows, over all rules
questions_first : table_fault (32 ∷ []) (record { scope = over 0 1; first = 0; count = 1 } ∷ record { scope = over 3 3; first = 0; count = 0 } ∷ []) ≡ Some (BadQuestions 1)
unfolding table_fault rules_fault too_many misfit fits fresh has with bad_rows first_fault sound_run all_rows sound_upto option_at
questions_first = refl

-- reasons

table_reason : table_reasons rows tables 0 0 2 (7 ∷ 7 ∷ 0 ∷ 0 ∷ []) (7 ∷ 3 ∷ 0 ∷ 0 ∷ []) ≡ 0 ∷ 4 ∷ 0 ∷ 0 ∷ []
unfolding table_reasons table_model owed within_each within less some_row unfit option_at has with note_rows note_row
table_reason = refl

table_supported : table_reasons rows tables 0 0 1 (7 ∷ 7 ∷ 0 ∷ 0 ∷ []) (7 ∷ 3 ∷ 0 ∷ 0 ∷ []) ≡ no_reason
unfolding table_reasons table_model owed within_each within less some_row unfit option_at has with note_rows note_row
table_supported = refl
