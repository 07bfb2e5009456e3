-- The cases that were counted by hand. Assumes nothing.
use Rattle.std.specs.Prelude.{◌≡◌, ℕ, List, [], ◌∷◌, map, pos}
use Rattle.terms.specs.declared.scope.Scope.{Scope}
use Rattle.tables.specs.declared.table.TableRule.{TableRule}
use Rattle.gaps.specs.declared.gap.GapRule.{GapRule}
use Rattle.books.specs.Plain.{Plain}
use Rattle.books.specs.Reasons.{no_reason}
use Rattle.tables.specs.Table.{table_model, table_reasons}
use Rattle.gaps.specs.Gap.{gap_model, gap_reasons}
use Rattle.differs.specs.Differ.{differ_model, differ_reasons}
use Rattle.books.specs.Pair.{pair_model, pair_reasons}
use Rattle.sheet.specs.Settle.{Reasons}
use Rattle.cases.specs.Steps.{Step, Step.place, Step.settle, Case, outcome}

abbrev two : ℕ → ℕ → Scope
two a b = record { count = 2; questions = a ∷ b ∷ 0 ∷ 0 ∷ [] }

-- The sample: three questions of size 3. Rule 0 is a table over 0, 1 with the rows (0,0), (0,1), (1,1), (2,2);
-- rule 1 a gap from 1 to 2 with distance 1; rule 2 a differ over 0, 2.

unfoldable pub sample_rows : List ℕ
sample_rows = 0 ∷ 0x0100 ∷ 0x0101 ∷ 0x0202 ∷ []

unfoldable pub sample_tables : List TableRule
sample_tables = record { scope = two 0 1; first = 0; count = 4 } ∷ []

unfoldable pub sample_gaps : List GapRule
sample_gaps = record { scope = two 1 2; distance = pos 1 } ∷ []

unfoldable pub sample_differs : List Scope
sample_differs = two 0 2 ∷ []

unfoldable pub sample_book : Plain
sample_book = pair_model (pair_model (table_model sample_rows sample_tables) (gap_model sample_gaps)) (differ_model sample_differs)

unfoldable pub sample_reasons : Reasons
sample_reasons = pair_reasons 2 (pair_reasons 1 (table_reasons sample_rows sample_tables) (gap_reasons sample_gaps)) (differ_reasons sample_differs)

abbrev all_placed : List Step
all_placed = place 0 ∷ place 1 ∷ place 2 ∷ settle ∷ []

-- all placed and settled: 3, 3, 6, with the heads (1,2), (2,0), (0,2), of which only the last has a reason
unfoldable pub settled_sample : Case
settled_sample = record {
  book = sample_book;
  why = sample_reasons;
  sizes = 3 ∷ 3 ∷ 3 ∷ [];
  steps = all_placed;
  expected = record {
    standing = 3 ∷ 3 ∷ 6 ∷ [];
    heads = (1, 2) ∷ (2, 0) ∷ (0, 2) ∷ [];
    reasons = no_reason ∷ no_reason ∷ (0 ∷ 4 ∷ 0 ∷ 0 ∷ []) ∷ [];
  };
}

unfoldable pub cases : List Case
cases = settled_sample ∷ []

abbrev pub CasesStand : Type 0
CasesStand = map outcome cases ≡ map (λ c. c.expected) cases
