use Rattle.std.proofs.Common.{refl, ◌∙◌, rules, tests}
use Rattle.std.proofs.lemmas.Iterator.{YieldsList-from_range}
use Rattle.std.proofs.lemmas.Iterator.Search.{all_from_yields_List}
use Rattle.tables.specs.Table.{option_at, sound_at}
use Rattle.tables.proofs.RowLaws.{sound_in}
use Rattle.tables.proofs.rows.sound_row.Goals as goal

pub returns : goal.returns
returns c =
    all_from_yields_List (λ k. sound_at c.args.count k (option_at c.args.row k)) _ _ _ c.all.ensures.ran (YieldsList-from_range 0 4 4 refl refl) (λ x b q k. search (rules, tests))
    ∙ sound_in c.args.count c.args.row
