use Rattle.std.proofs.Common.{◌+◌, get_or, drop, sym, ap, ◌∙◌}
use Rattle.std.proofs.lemmas.List.{at_drop_more, at_drop_all}
use Rattle.tables.specs.Table.{note_rows}
use Rattle.tables.proofs.RowLaws.{notes_end, notes_more}
use Rattle.tables.proofs.rows.Ask.reason.Goals as goal

pub loop-row-preserved : goal.loop-row-preserved
loop-row-preserved c =
    let xs = c.args.part.now in
    let i = c.loop-row.row-index in
    let notes = note_rows c.args.self.count c.args.self.position c.args.self.option c.args.outlook.declared c.args.outlook.standing in
    ap (λ r. notes r (drop (i + 1) xs)) c.note_row.ensures
    ∙ sym
    (sym c.loop-row.invariant
    ∙ at_drop_more (notes c.loop-row.reason) xs i 0 c.loop-row-test.true
    ∙ notes_more c.args.self.count c.args.self.position c.args.self.option c.args.outlook.declared c.args.outlook.standing c.loop-row.reason (get_or xs i 0) (drop (i + 1) xs))

pub returns : goal.returns
returns c =
    let notes = note_rows c.args.self.count c.args.self.position c.args.self.option c.args.outlook.declared c.args.outlook.standing in
    sym
    (sym c.loop-row.invariant
    ∙ at_drop_all (notes c.loop-row.reason) c.args.part.now c.loop-row.row-index c.loop-row-test.false
    ∙ notes_end c.args.self.count c.args.self.position c.args.self.option c.args.outlook.declared c.args.outlook.standing c.loop-row.reason)
