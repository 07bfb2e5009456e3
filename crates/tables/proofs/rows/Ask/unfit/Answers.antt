use Rattle.std.proofs.Common.{not, refl, sym, ◌∙◌, arith, rules, tests}
use Rattle.std.proofs.lemmas.Iterator.{YieldsList-from_range}
use Rattle.std.proofs.lemmas.Iterator.Search.{find_from_yields_List}
use Rattle.std.proofs.lemmas.Iterator.Adapters.{option_map_id}
use Rattle.tables.specs.Table.{option_at, fits_at}
use Rattle.tables.proofs.RowLaws.{unfit_in}
use Rattle.tables.proofs.rows.Ask.unfit.Goals as goal

pub returns : goal.returns
returns c =
    let s = c.args.self in
    sym (option_map_id c.find.result)
    ∙ find_from_yields_List (λ j. not (fits_at s.position s.option c.args.masks j (option_at c.args.row j))) _ _ _ c.find.ensures.ran (YieldsList-from_range 0 s.count s.count refl (omega arith)) (λ x b q k. search (rules, tests))
    ∙ unfit_in s.count s.position s.option c.args.masks c.args.row
