use Rattle.std.proofs.Common.{◌∙◌, rules, tests}
use Rattle.std.proofs.lemmas.Iterator.{YieldsList-from_slice}
use Rattle.std.proofs.lemmas.Iterator.Search.{all_from_yields_List}
use Rattle.tables.specs.Table.{sound_row}
use Rattle.tables.proofs.RowLaws.{all_in}
use Rattle.tables.proofs.rows.sound_rows.Goals as goal

pub returns : goal.returns
returns c =
    all_from_yields_List (sound_row c.args.count) _ _ _ c.all.ensures.ran (YieldsList-from_slice c.args.part.now cc) (λ x b q k. search (rules, tests))
    ∙ all_in (sound_row c.args.count) c.args.part.now
