use Rattle.std.proofs.Common.{◌≡◌, drop}
use Rattle.books.specs.Reasons.{no_reason}
use Rattle.tables.specs.Table.{note_rows}
use Rattle.tables.proofs.rows.Ask.reason.Given as goal

abbrev pub invariant-loop-row : goal.invariant-loop-row
invariant-loop-row l =
    note_rows l.self.count l.self.position l.self.option l.outlook.declared l.outlook.standing l.reason (drop l.row-index l.part)
    ≡ note_rows l.self.count l.self.position l.self.option l.outlook.declared l.outlook.standing no_reason l.part
