use Rattle.std.proofs.Common.{map, ◌∙◌}
use Rattle.std.proofs.lemmas.Result.{IfOk-weaker}
use Rattle.tables.specs.Table.{table_model, table_reasons}
use Rattle.gaps.specs.Gap.{gap_model, gap_reasons}
use Rattle.differs.specs.Differ.{differ_model, differ_reasons}
use Rattle.lines.specs.Marks.{noted}
use Rattle.sitting.specs.Tales.{tale}
use Rattle.sitting.specs.Sittings.{rules_of, on_three}
use Rattle.sitting.proofs.OpeningLaws.{rules_granted, rules_refused}
use Rattle.sitting.proofs.opening.open.Goals as goal

pub returns-in-Err : goal.returns-in-Err
returns-in-Err c =
    IfOk-weaker c.refuse.result _ _
    (λ done e. e ∙ rules_refused _ c.args.opening.sizes.now (map noted c.args.opening.calls.now) _ (rules_of c.args.ledger.now) c.in-Err.refusal c.in-Err.ensures.answer)
    c.refuse.ensures

pub returns-in-Ok : goal.returns-in-Ok
unfolding gap_model gap_reasons differ_model differ_reasons
returns-in-Ok c =
    let n = noted c.args.opening.line in
    let sizes = c.args.opening.sizes.now in
    let calls = map noted c.args.opening.calls.now in
    let t = tale c.args.told.now in
    let rows = c.in-Ok.ensures.rows in
    let tables = c.in-Ok.ensures.tables in
    let gaps = c.in-Ok.ensures.gaps in
    let differs = c.in-Ok.ensures.differs in
    IfOk-weaker c.open_on_three.result _ _
    (λ done e.
    e
    ∙ (λ i. on_three (table_model (rows i) (tables i)) (table_reasons (rows i) (tables i)) (gap_model (gaps i)) (gap_reasons (gaps i)) (differ_model (differs i)) (differ_reasons (differs i)) n sizes calls t)
    ∙ rules_granted n sizes calls t (rules_of c.args.ledger.now) c.in-Ok.ensures.answer)
    c.open_on_three.ensures
