-- What is told at the end of a sitting. Assumes nothing.
use Rattle.std.specs.Prelude.{ℕ, ◌+◌, List, [], ◌∷◌, ◌++◌, codes, decimal}
use Rattle.terms.specs.declared.line.Line.{Line}
use Rattle.books.specs.Plain.{Plain}
use Rattle.record.specs.State.{State}
use Rattle.calls.specs.Answers.{overview_of}
use Rattle.calls.specs.Texts.{answer_text}
use Rattle.showing.specs.Texts.{logged_text}
use Rattle.sitting.specs.Tales.{Tale, lined, answered}

-- the lines of a log, of which the first has the number n
unfoldable pub log_told : Plain → ℕ → List Line → Tale → Tale
log_told b n [] t = t
log_told b n (l ∷ ls) t = log_told b (n + 1) ls (lined (codes "log " ++ (decimal n ++ (codes ": " ++ logged_text l (b.scope l.rule)))) t)

-- what stands, and the log
unfoldable pub closing_told : Plain → State → Tale → Tale
closing_told b s t = log_told b 0 s.log (answered (codes "closing overview") (answer_text (overview_of s)) t)
