use Rattle.std.proofs.Common.{refl}
use Rattle.terms.specs.Masks.{has, with, less, within, declared, declared_each, less_each, within_each, with_rule}
use Rattle.terms.specs.Scopes.{mask_at, masks_at}
use Rattle.books.specs.Reasons.{owed}
use Rattle.tables.specs.Table.{table_model, table_reasons, option_at, some_row, unfit, note_row, note_rows}
use Rattle.gaps.specs.Gap.{gap_model, gap_reasons}
use Rattle.differs.specs.Differ.{differ_model, differ_reasons}
use Rattle.books.specs.Pair.{numbered, pair_model, pair_reasons}
use Rattle.books.specs.Twos.{two_model, two_reasons, some_below, kept_below}
use Rattle.record.specs.Calls.{opened, all_below, noted_rule, pick_fault, noted_pick, pushed, standing_each}
use Rattle.sheet.specs.Calls.{rule_fault}
use Rattle.sheet.specs.Settle.{upto, cross_other, pick_question, pick_lines, visit_option, visit_position, visit_rule, round, rounds, settled}
use Rattle.cases.specs.Steps.{made, all_made, shown, outcome}
use Rattle.cases.specs.Cases.{cases, settled_sample, sample_book, sample_reasons, sample_rows, sample_tables, sample_gaps, sample_differs}
use Rattle.cases.proofs.cases_stand.Goals as goal

-- the whole list computes
pub returns : goal.returns
unfolding cases settled_sample sample_book sample_reasons sample_rows sample_tables sample_gaps sample_differs outcome shown made all_made settled rounds round visit_rule visit_position visit_option pick_lines pick_question cross_other upto standing_each pushed opened all_below noted_rule pick_fault noted_pick rule_fault less_each declared_each declared less has with masks_at mask_at with_rule within within_each numbered pair_model pair_reasons differ_model differ_reasons gap_model gap_reasons table_model table_reasons two_model two_reasons some_below kept_below owed option_at some_row unfit note_row note_rows
returns c = refl
