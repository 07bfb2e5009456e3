-- How an answer is written. Assumes nothing.
use Rattle.std.specs.Prelude.{ℕ, List, ◌++◌, Ok, Err, codes, decimal, Result}
use Rattle.terms.specs.Denials.{denied_text}
use Rattle.terms.specs.declared.refusal.Refusal.{Refusal}
use Rattle.calls.specs.declared.answer.Answer.{Answer}
use Rattle.calls.specs.declared.answer.Answer.TheVariants.{Done, Lines, Standing, Overview}
use Rattle.showing.specs.Texts.{options_text, overview_text}

abbrev pub answer_text : Answer → List ℕ
answer_text Done = codes "done"
answer_text (Lines count) = decimal count ++ codes " lines"
answer_text (Standing mask) = options_text mask
answer_text (Overview o) = overview_text o.count o.masks

-- an answer, or a refusal
abbrev pub told_text : Result Answer Refusal → List ℕ
told_text (Ok answer) = answer_text answer
told_text (Err refusal) = denied_text refusal
