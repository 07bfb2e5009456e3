-- What a call answers, and what it leaves. Assumes nothing.
use Rattle.std.specs.Prelude.{length, Some, None, Ok, Err, Option, Result, slice_index}
use Rattle.terms.specs.declared.refusal.Refusal.{Refusal}
use Rattle.terms.specs.declared.call.Call.{Call}
use Rattle.terms.specs.declared.call.Call.TheVariants as call
use Rattle.books.specs.Plain.{Plain}
use Rattle.record.specs.State.{State}
use Rattle.record.specs.Told.{unless}
use Rattle.record.specs.Calls.{noted_rule, pick_fault, noted_pick, standing_each}
use Rattle.sheet.specs.Calls.{rule_fault, question_fault}
use Rattle.sheet.specs.Settle.{Reasons, settled}
use Rattle.calls.specs.declared.answer.Answer.{Answer}
use Rattle.calls.specs.declared.answer.Answer.TheVariants.{Done, Lines, Standing, Overview}

abbrev pub overview_of : State → Answer
overview_of s = Overview (record { count = s.count; masks = standing_each s })

-- the refusal, or the answer where there is none
abbrev pub unless_denied : Option Refusal → Answer → Result Answer Refusal
unless_denied None a = Ok a
unless_denied (Some e) a = Err e

abbrev pub answer_of : Plain → Reasons → Call → State → Result Answer Refusal
answer_of b why (call.Place r) s = unless_denied (rule_fault b s r) Done
answer_of b why (call.Pick q o) s = unless_denied (pick_fault s q o) Done
answer_of b why call.Settle s = Ok (Lines (length (settled b why s).log))
answer_of b why (call.Standing q) s = unless_denied (question_fault s q) (Standing (slice_index (standing_each s) q))
answer_of b why call.Overview s = Ok (overview_of s)

-- a denied call and a reader leave what was there
abbrev pub after_call : Plain → Reasons → Call → State → State
after_call b why (call.Place r) s = unless (rule_fault b s r) s (noted_rule s r (b.scope r))
after_call b why (call.Pick q o) s = unless (pick_fault s q o) s (noted_pick s q o)
after_call b why call.Settle s = settled b why s
after_call b why (call.Standing q) s = s
after_call b why call.Overview s = s
