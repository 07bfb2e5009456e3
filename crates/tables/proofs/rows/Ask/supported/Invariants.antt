use Rattle.std.proofs.Common.{◌≡◌, get_or, drop, None}
use Rattle.tables.specs.Table.{unfit, some_row, row_supports}
use Rattle.tables.proofs.rows.Ask.supported.Given as goal

abbrev pub invariant-row : goal.invariant-row
invariant-row l =
    some_row (row_supports l.self.count l.self.position l.self.option l.masks) (drop l.row-index l.part)
    ≡ some_row (row_supports l.self.count l.self.position l.self.option l.masks) l.part

abbrev pub invariant-loop-place : goal.invariant-loop-place
invariant-loop-place l = unfit l.place l.self.position l.self.option l.masks (get_or l.part l.row-index 0) ≡ None
