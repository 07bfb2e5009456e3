use Rattle.std.proofs.Common.{ℕ, ◌<◌, get_or, Some, ◌∙◌, inl, inr, arith}
use Rattle.std.proofs.lemmas.List.{length-set, get_or_past}
use Rattle.std.proofs.lemmas.Bool.{cases_lt}
use Rattle.record.specs.declared.docket.Docket.{Docket}
use Rattle.record.proofs.OpenLaws.{picked_more}
use Rattle.record.proofs.docket.Docket.with_pick.Goals as goal

-- a question that has options is one of the sixteen
within : (d : Docket) (q o : ℕ) → o < get_or d.sizes q 0 → q < 16
within d q o h =
    elim (cases_lt q 16) [
      | inl l ↦ l
      | inr l ↦ absurd (omega (arith, get_or_past d.sizes q 0 (omega (arith, d.sixteen))))
    ]

pub bounds-self-question : goal.bounds-self-question
bounds-self-question c = within c.args.self c.args.question c.args.option c.requires

pub invariant_of-self : goal.invariant_of-self
invariant_of-self c =
    let d = c.args.self in
    let h = within d c.args.question c.args.option c.requires in
    record {
      sixteen = d.sixteen;
      slots = length-set d.picks c.args.question (Some c.args.option) ∙ d.slots;
      bits = d.bits;
      some = d.some;
      few = d.few;
      large = d.large;
      small = d.small;
      past = d.past;
      picked = picked_more d.sizes d.picks c.args.question c.args.option d.picked (omega (arith, d.slots, h)) c.requires;
    }
