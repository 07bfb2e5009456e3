use Rattle.std.proofs.Common.{sym, arith}
use Rattle.tables.proofs.RowLaws.{misfit_at}
use Rattle.tables.proofs.rows.Ask.note_row.Goals as goal

pub bounds-reason-from : goal.bounds-reason-from
bounds-reason-from c =
    omega (arith, (misfit_at _ _ _ _ _ _ (sym c.in-Some.ensures)).0)

pub option_at-requires : goal.option_at-requires
option_at-requires c =
    omega (arith, (misfit_at _ _ _ _ _ _ (sym c.in-Some.ensures)).0)
