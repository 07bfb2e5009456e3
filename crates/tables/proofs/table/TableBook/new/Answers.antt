use Rattle.std.proofs.Common.{◌≡◌, ◌≤◌, not, length, is_some, Some, None, sym, ap, ap₂, ◌∙◌, arith, rules, tests}
use Rattle.std.specs.Option.{option_map}
use Rattle.std.proofs.lemmas.Iterator.{YieldsList-from_slice}
use Rattle.std.proofs.lemmas.Iterator.Search.{position_from_yields_List}
use Rattle.std.proofs.lemmas.Grind.{common_steps}
use Rattle.terms.specs.declared.refusal.Refusal.TheVariants.{BadRows}
use Rattle.books.specs.Questions.{rules_fault, first_of, lowest}
use Rattle.books.proofs.QuestionLaws.{faultless, lowest_found}
use Rattle.tables.specs.Table.{sound_run, bad_rows, table_fault}
use Rattle.tables.proofs.table.TableBook.new.Goals as goal

pub overflow_cast-result : goal.overflow_cast-result
overflow_cast-result c =
    let e : rules_fault (λ t. t.scope) 1 4 c.args.rules.now ≡ None = ap₂ (λ a b. rules_fault (λ t. t.scope) a b c.args.rules.now) (sym c.new.ensures.start) (sym c.new.ensures.end) ∙ sym c.in_ok-rules_fault.ensures in
    let few : length c.args.rules.now ≤ 64 = (faultless (λ t. t.scope) 1 4 c.args.rules.now (ap is_some e)).0 in
    search rules

pub returns-in_err-rules_fault-clause-answer : goal.returns-in_err-rules_fault-clause-answer
unfolding table_fault
returns-in_err-rules_fault-clause-answer c =
    let e : rules_fault (λ t. t.scope) 1 4 c.args.rules.now ≡ Some c.in_err-rules_fault.field-0.0 =
    ap₂ (λ a b. rules_fault (λ t. t.scope) a b c.args.rules.now) (sym c.new.ensures.start) (sym c.new.ensures.end) ∙ sym c.in_err-rules_fault.ensures in
    grind (arith, common_steps)

pub returns-in-Some-clause-answer : goal.returns-in-Some-clause-answer
unfolding table_fault bad_rows
returns-in-Some-clause-answer c =
    let e : rules_fault (λ t. t.scope) 1 4 c.args.rules.now ≡ None = ap₂ (λ a b. rules_fault (λ t. t.scope) a b c.args.rules.now) (sym c.new.ensures.start) (sym c.new.ensures.end) ∙ sym c.in_ok-rules_fault.ensures in
    let found = position_from_yields_List (λ t. not (sound_run c.args.rows.now t)) _ _ _ c.position.ensures.ran (YieldsList-from_slice c.args.rules.now cc) (λ x b q k. search (rules, tests)) in
    ap (option_map BadRows) (sym c.in-Some.is)
    ∙ lowest_found (sound_run c.args.rows.now) BadRows c.args.rules.now _ found
    ∙ ap (λ f. first_of f (lowest (sound_run c.args.rows.now) BadRows 0 c.args.rules.now)) (sym e)

pub invariant_of-result : goal.invariant_of-result
unfolding table_fault bad_rows
invariant_of-result c =
    let e : rules_fault (λ t. t.scope) 1 4 c.args.rules.now ≡ None = ap₂ (λ a b. rules_fault (λ t. t.scope) a b c.args.rules.now) (sym c.new.ensures.start) (sym c.new.ensures.end) ∙ sym c.in_ok-rules_fault.ensures in
    let found = position_from_yields_List (λ t. not (sound_run c.args.rows.now t)) _ _ _ c.position.ensures.ran (YieldsList-from_slice c.args.rules.now cc) (λ x b q k. search (rules, tests)) in
    record {
      sound = ap (λ f. is_some (first_of f (lowest (sound_run c.args.rows.now) BadRows 0 c.args.rules.now))) e
          ∙ ap is_some (sym (ap (option_map BadRows) (sym c.in-None.is) ∙ lowest_found (sound_run c.args.rows.now) BadRows c.args.rules.now _ found));
    }
