use Rattle.std.proofs.Common.{◌*◌, ◌/◌, ◌^◌, sym, ◌∙◌}
use Rattle.std.proofs.lemmas.Nat.{and_mask}
use Rattle.tables.proofs.RowLaws.{option_shifted}
use Rattle.tables.proofs.rows.option_at.Goals as goal

pub returns : goal.returns
returns c = and_mask (c.args.row / 2 ^ (8 * c.args.place)) 8 ∙ sym (option_shifted c.args.row c.args.place)
