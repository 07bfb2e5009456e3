-- Calls made one after the other on a new sheet, by the definitions that the sheet's contracts cite. Assumes nothing.
use Rattle.std.specs.Prelude.{ℕ, List, [], ◌∷◌, map, take}
use Rattle.books.specs.Plain.{Plain}
use Rattle.record.specs.State.{State}
use Rattle.record.specs.Told.{unless}
use Rattle.record.specs.Calls.{opened, noted_rule, pick_fault, noted_pick, standing_each}
use Rattle.sheet.specs.Calls.{rule_fault}
use Rattle.sheet.specs.Settle.{Reasons, settled}

pub data Step : Type 0 where
  place : ℕ → Step
  pick : ℕ → ℕ → Step
  settle : Step

unfoldable pub made : Plain → Reasons → Step → State → State
made b why (place r) s = unless (rule_fault b s r) s (noted_rule s r (b.scope r))
made b why (pick q o) s = unless (pick_fault s q o) s (noted_pick s q o)
made b why settle s = settled b why s

unfoldable pub all_made : Plain → Reasons → List Step → State → State
all_made b why [] s = s
all_made b why (x ∷ xs) s = all_made b why xs (made b why x s)

-- what a sheet shows: the standing masks, the heads of its log, and their reasons
pub record Shown : Type 0 where
  pub standing : List ℕ
  pub heads : List (ℕ × ℕ)
  pub reasons : List (List ℕ)

unfoldable pub shown : State → Shown
shown s = record {
  standing = take s.count (standing_each s);
  heads = map (λ l. (l.question, l.option)) s.log;
  reasons = map (λ l. l.reason) s.log;
}

-- a book, the sizes of a sheet, calls, and what they should come to
pub record Case : Type 0 where
  pub book : Plain
  pub why : Reasons
  pub sizes : List ℕ
  pub steps : List Step
  pub expected : Shown

unfoldable pub outcome : Case → Shown
outcome c = shown (all_made c.book c.why c.steps (opened c.sizes))
