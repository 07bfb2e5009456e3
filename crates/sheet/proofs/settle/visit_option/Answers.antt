use Rattle.std.proofs.Common.{◌≡◌, ◌<◌, true, false, cond, length, get_or, sym, ap, ◌∙◌, subst, ap₂, arith, rules}
use Rattle.std.proofs.lemmas.List.{get_or-take}
use Rattle.terms.specs.Masks.{has}
use Rattle.terms.specs.Scopes.{mask_at, masks_at, question_at, positions_of}
use Rattle.terms.specs.declared.line.Line.{Line}
use Rattle.terms.proofs.ScopeLaws.{positions_is, positions_le}
use Rattle.record.specs.View.{view}
use Rattle.record.specs.Calls.{standing_each, pushed, admissible}
use Rattle.record.proofs.RecordLaws.{sound_of}
use Rattle.sheet.specs.Settle.{rule_line, noted_scope, standing_masks, declared_masks}
use Rattle.sheet.proofs.Lines.{rule_admissible, visited_position}
use Rattle.sheet.proofs.Steps.{visit_fallen, visit_supported, visit_crossed}
use Rattle.sheet.proofs.settle.visit_option.Goals as goal

pub returns-then-not-has : goal.returns-then-not-has
returns-then-not-has g c =
    let s = view c.args.state.now in
    visit_fallen _ _ c.args.seat.rule c.args.seat.position c.args.seat.option s
    (ap₂ (λ ms t. has (mask_at ms t c.args.seat.position) c.args.seat.option) (sym c.standing-all.ensures) (sym c.scope-questions.ensures)
    ∙ ap (λ m. has m c.args.seat.option) (sym c.mask_at-here.ensures) ∙ sym c.if-not-has.ensures)

pub returns-then-supports : goal.returns-then-supports
returns-then-supports g c =
    let s = view c.args.state.now in
    let b = g.B.Book.model c.args.book.now in
    visit_supported b _ c.args.seat.rule c.args.seat.position c.args.seat.option s
    (ap₂ (λ ms t. b.supports c.args.seat.rule c.args.seat.position c.args.seat.option (masks_at ms t)) (sym c.standing-all.ensures) (sym c.scope-questions.ensures)
    ∙ ap (b.supports c.args.seat.rule c.args.seat.position c.args.seat.option) (sym c.masks_at-standing.ensures) ∙ sym c.if-supports.ensures)

pub bounds-questions-seat : goal.bounds-questions-seat
bounds-questions-seat g c =
    let s = view c.args.state.now in
    let four : length c.scope-questions.result.questions ≡ 4 = search rules in
    let e : has (mask_at (standing_each s) (noted_scope s c.args.seat.rule) c.args.seat.position) c.args.seat.option ≡ true =
    ap₂ (λ ms t. has (mask_at ms t c.args.seat.position) c.args.seat.option) (sym c.standing-all.ensures) (sym c.scope-questions.ensures)
    ∙ ap (λ m. has m c.args.seat.option) (sym c.mask_at-here.ensures) ∙ sym c.if-not-has.ensures in
    let h : c.args.seat.position < positions_of c.scope-questions.result =
    subst (λ t. c.args.seat.position < positions_of t) (sym c.scope-questions.ensures)
    (visited_position _ _ c.reasonable.ensures s (sound_of c.args.state.now) c.args.seat.rule c.args.seat.position c.args.seat.option c.requires e) in
    omega (arith, positions_is c.scope-questions.result four)

pub returns : goal.returns
returns g c =
    let s = view c.args.state.now in
    let b = g.B.Book.model c.args.book.now in
    let why = g.B.ReasoningBook.reasons c.args.book.now in
    let r = c.args.seat.rule in
    let p = c.args.seat.position in
    let o = c.args.seat.option in
    let e : has (mask_at (standing_each s) (noted_scope s r) p) o ≡ true =
    ap₂ (λ ms t. has (mask_at ms t p) o) (sym c.standing-all.ensures) (sym c.scope-questions.ensures)
    ∙ ap (λ m. has m o) (sym c.mask_at-here.ensures) ∙ sym c.if-not-has.ensures in
    let stands : c.masks_at-standing.result ≡ standing_masks s (noted_scope s r) = c.masks_at-standing.ensures ∙ ap₂ masks_at c.standing-all.ensures c.scope-questions.ensures in
    let lacks : b.supports r p o (standing_masks s (noted_scope s r)) ≡ false = ap (b.supports r p o) (sym stands) ∙ sym c.if-supports.ensures in
    let h : p < positions_of (noted_scope s r) = visited_position b why c.reasonable.ensures s (sound_of c.args.state.now) r p o c.requires e in
    let question : get_or c.scope-questions.result.questions p 0 ≡ question_at (noted_scope s r) p =
    ap (λ t. get_or t.questions p 0) c.scope-questions.ensures ∙ sym (get_or-take (noted_scope s r).count (noted_scope s r).questions p 0 (omega (arith, positions_le (noted_scope s r)))) in
    let reason : c.reason-reason.result ≡ why r p o (declared_masks s (noted_scope s r)) (standing_masks s (noted_scope s r)) =
    c.reason-reason.ensures ∙ ap₂ (why r p o) (c.masks_at-declared.ensures ∙ ap₂ masks_at c.declared.ensures c.scope-questions.ensures) stands in
    let line : ◌≡◌ {A = Line} (record { kind = c.into.result; rule = r; question = get_or c.scope-questions.result.questions p 0; option = o; reason = c.reason-reason.result }) (rule_line why s r p o) =
    λ i. record { kind = c.into.ensures i; rule = r; question = question i; option = o; reason = reason i } in
    c.cross.ensures.after
    ∙ ap₂ (λ t l. cond t (pushed s l) s) (c.cross.ensures.answer ∙ ap (admissible s) line ∙ rule_admissible b why c.reasonable.ensures s (sound_of c.args.state.now) r p o c.requires e) line
    ∙ visit_crossed b why r p o s e lacks
