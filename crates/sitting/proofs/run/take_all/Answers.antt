use Rattle.std.proofs.Common.{map, codes, sym, ◌∙◌}
use Rattle.std.proofs.lemmas.Result.{IfOk-weaker}
use Rattle.lines.specs.Marks.{noted}
use Rattle.sitting.specs.Tales.{tale}
use Rattle.sitting.specs.Sittings.{Turn, rules_of, lines_told}
use Rattle.sitting.proofs.TaleLaws.{tale_lined}
use Rattle.sitting.proofs.LineLaws.{told_done, told_more, told_all}
use Rattle.sitting.proofs.run.take_all.Goals as goal

pub loop-index-init : goal.loop-index-init
loop-index-init c =
    let none = c.new-ledger.ensures in
    λ k. lines_told (record { rows = none.rows k; tables = none.tables k; gaps = none.gaps k; differs = none.differs k }) (map noted c.args.entries.now) (tale c.args.told.now)

pub returns-then-branch : goal.returns-then-branch
returns-then-branch c =
    let u : Turn = record { done = c.in_ok-take.field-0; rules = rules_of c.take.new.ledger; tale = tale c.take.new.told } in
    sym (told_done (rules_of c.loop-index.ledger) c.args.entries.now c.loop-index.index (tale c.loop-index.told) c.loop-index-test.true u c.in_ok-take.ensures c.if-branch.true) ∙ c.loop-index.invariant

pub loop-index-preserved : goal.loop-index-preserved
loop-index-preserved c =
    let u : Turn = record { done = c.in_ok-take.field-0; rules = rules_of c.take.new.ledger; tale = tale c.take.new.told } in
    sym (told_more (rules_of c.loop-index.ledger) c.args.entries.now c.loop-index.index (tale c.loop-index.told) c.loop-index-test.true u c.in_ok-take.ensures c.if-branch.false) ∙ c.loop-index.invariant

pub returns : goal.returns
returns c =
    IfOk-weaker c.line.result _ _
    (λ x e.
    tale_lined c.loop-index.told c.line.new.self (codes "no sheet was opened") e c.line.ensures.sound
    ∙ sym (told_all (rules_of c.loop-index.ledger) c.args.entries.now c.loop-index.index (tale c.loop-index.told) c.loop-index-test.false)
    ∙ c.loop-index.invariant)
    c.line.ensures.text
