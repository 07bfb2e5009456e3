-- A log that follows from the picks and the placed rules. Assumes nothing.
use Rattle.std.specs.Prelude.{◌≡◌, ℕ, ◌<◌, true, false, List, length, get_or, take, Some, None, ◌≢◌, slice_index, slice_index_or}
use Rattle.terms.specs.Masks.{has, less_each}
use Rattle.terms.specs.Scopes.{questions_of, question_at}
use Rattle.terms.specs.declared.line.Line.{Line}
use Rattle.books.specs.Plain.{Plain, positions}
use Rattle.record.specs.State.{State, no_line, unscoped, headed}
use Rattle.record.specs.Calls.{all_below}
use Rattle.sheet.specs.Settle.{declared_masks}

-- a placed rule is one of the book's, noted with its questions, all of them on the sheet
pub record Noted (b : Plain) (s : State) (r : ℕ) : Type 0 where
  pub known : r < b.rules
  pub scope : get_or s.scopes r unscoped ≡ b.scope r
  pub on_sheet : all_below s.count (questions_of (b.scope r)) ≡ true

-- a line that follows, given the lines before it
pub data ValidLine (b : Plain) (s : State) (earlier : List Line) (l : Line) : Type 0 where
  -- its question is picked, as another option
  by_pick : (x : ℕ) → l.kind ≡ 1 → slice_index_or s.picks l.question None ≡ Some x → (l.option ≢ x) → ValidLine b s earlier l
  -- its rule is placed and has its question, its reason holds only options crossed by earlier lines,
  -- and under the declared options less the reason its option has no support
  by_rule : (p : ℕ) → l.kind ≡ 2 → has s.placed l.rule ≡ true → p < positions b l.rule → question_at (b.scope l.rule) p ≡ l.question →
      ((j x : ℕ) → has (slice_index l.reason j) x ≡ true → (j < positions b l.rule) × (headed earlier (question_at (b.scope l.rule) j) x ≡ true)) →
      b.supports l.rule p l.option (less_each (declared_masks s (b.scope l.rule)) l.reason) ≡ false → ValidLine b s earlier l

pub record Valid (b : Plain) (s : State) : Type 0 where
  pub noted : (r : ℕ) → has s.placed r ≡ true → Noted b s r
  pub lines : (k : ℕ) → k < length s.log → ValidLine b s (take k s.log) (slice_index_or s.log k no_line)
