use Rattle.std.proofs.Common.{◌+◌, map, get_or, drop, sym, ap, ◌∙◌}
use Rattle.lines.specs.Marks.{noted}
use Rattle.reading.specs.Readings.{heard_of}
use Rattle.sitting.specs.Scenes.{obeyed, all_obeyed, going_on, played}
use Rattle.sitting.proofs.SceneLaws.{no_entry, obeyed_more, obeyed_all}
use Rattle.sitting.proofs.calling.obey_all.Goals as goal

pub loop-entry-preserved : goal.loop-entry-preserved
loop-entry-preserved g c =
    let i = c.loop-entry.entry-index in
    let entries = c.args.entries.now in
    let same = ap (λ p. p.book) c.loop-entry.invariant in
    let b = g.B.Book.model c.args.sheet.now.book in
    let why = g.B.ReasoningBook.reasons c.args.sheet.now.book in
    let entry = get_or entries i no_entry in
    let now = played c.loop-entry.sheet c.loop-entry.told in
    ap (going_on (all_obeyed b why (map noted (drop (i + 1) entries))))
    (c.in_ok-obey_line.ensures.scene ∙ (λ k. going_on (obeyed (g.B.Book.model (same k)) (g.B.ReasoningBook.reasons (same k)) (noted entry) (heard_of entry.text.now)) now))
    ∙ ap (λ scene. record { book = c.loop-entry.sheet.book; scene = scene }) (sym (obeyed_more b why entries i now.scene c.loop-entry-test.true))
    ∙ c.loop-entry.invariant

pub returns-clause-scene : goal.returns-clause-scene
returns-clause-scene g c =
    ap (λ scene. record { book = c.loop-entry.sheet.book; scene = scene }) (sym (obeyed_all _ _ _ _ _ c.loop-entry-test.false)) ∙ c.loop-entry.invariant
