-- The telling of a log, one line more at a time. Assumes nothing.
use Rattle.std.proofs.Common.{◌≡◌, ℕ, ◌+◌, ◌<◌, ◌≤◌, List, ◌++◌, length, get_or, drop, codes, decimal, ap}
use Rattle.std.proofs.lemmas.List.{drop_more, drop_all}
use Rattle.terms.specs.declared.line.Line.{Line}
use Rattle.books.specs.Plain.{Plain}
use Rattle.showing.specs.Texts.{logged_text}
use Rattle.sitting.specs.Tales.{Tale, lined}
use Rattle.sitting.specs.Closings.{log_told}

module _ (b : Plain) (log : List Line) where
  pub log_more : (i : ℕ) (d : Line) (t : Tale) → i < length log →
      log_told b i (drop i log) t ≡ log_told b (i + 1) (drop (i + 1) log) (lined (codes "log " ++ (decimal i ++ (codes ": " ++ logged_text (get_or log i d) (b.scope (get_or log i d).rule)))) t)
  unfolding log_told
  log_more i d t h = ap (λ ls. log_told b i ls t) (drop_more log i d h)

  pub log_all : (i : ℕ) (t : Tale) → length log ≤ i → log_told b i (drop i log) t ≡ t
  unfolding log_told
  log_all i t h = ap (λ ls. log_told b i ls t) (drop_all i log h)
