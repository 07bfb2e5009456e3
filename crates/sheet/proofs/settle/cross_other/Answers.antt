use Rattle.std.proofs.Common.{◌≡◌, true, cond, get_or, [], ◌∷◌, sym, ap, ◌∙◌, ap₂}
use Rattle.terms.specs.Masks.{has}
use Rattle.terms.specs.declared.line.Line.{Line}
use Rattle.record.specs.View.{view}
use Rattle.record.specs.Calls.{standing_each, pushed, admissible}
use Rattle.record.proofs.RecordLaws.{sound_of}
use Rattle.sheet.specs.Settle.{pick_line}
use Rattle.sheet.proofs.Lines.{pick_admissible}
use Rattle.sheet.proofs.Steps.{other_fallen, other_picked, other_crossed}
use Rattle.sheet.proofs.settle.cross_other.Goals as goal
use Rattle.sheet.proofs.settle.cross_other.Goals.{then-not-has-via-then-not-has, then-not-has-via-else-not-has+then-option-picked}

pub returns-then-not-has : goal.returns-then-not-has
returns-then-not-has c =
    let s = view c.args.state.now in
    let q = c.args.question in
    let o = c.args.option in
    elim c.then-not-has.branch [
      | then-not-has-via-then-not-has w ↦
          other_fallen q c.args.picked o s
          (ap (λ ms. has (get_or ms q 0) o) (sym c.standing.ensures) ∙ ap (λ m. has m o) (sym c.mask_of-standing.ensures) ∙ sym c.has.ensures ∙ w.if-not-has.true)
      | then-not-has-via-else-not-has+then-option-picked w ↦ other_picked q c.args.picked o s w.if-option-picked.true
    ]

pub returns : goal.returns
returns c =
    let s = view c.args.state.now in
    let q = c.args.question in
    let o = c.args.option in
    let e : has (get_or (standing_each s) q 0) o ≡ true =
    ap (λ ms. has (get_or ms q 0) o) (sym c.standing.ensures) ∙ ap (λ m. has m o) (sym c.mask_of-standing.ensures) ∙ sym c.if-not-has.ensures in
    let line : ◌≡◌ {A = Line} (record { kind = c.into.result; rule = 0; question = q; option = o; reason = 0 ∷ 0 ∷ 0 ∷ 0 ∷ [] }) (pick_line q o) =
    λ i. record { kind = c.into.ensures i; rule = 0; question = q; option = o; reason = 0 ∷ 0 ∷ 0 ∷ 0 ∷ [] } in
    c.cross.ensures.after
    ∙ ap₂ (λ t l. cond t (pushed s l) s) (c.cross.ensures.answer ∙ ap (admissible s) line ∙ pick_admissible s (sound_of c.args.state.now) q o e) line
    ∙ other_crossed q c.args.picked o s e c.if-option-picked.false
