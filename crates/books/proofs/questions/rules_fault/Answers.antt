use Rattle.std.proofs.Common.{Bool, not, length, sym, ap, ◌∙◌, rules, tests}
use Rattle.std.specs.Option.{option_map}
use Rattle.std.specs.Range.{range_inclusive_start, range_inclusive_end}
use Rattle.std.proofs.lemmas.Iterator.{YieldsList-from_slice}
use Rattle.std.proofs.lemmas.Iterator.Search.{position_from_yields_List}
use Rattle.terms.specs.declared.refusal.Refusal.TheVariants.{BadQuestions}
use Rattle.books.specs.Questions.{fits, misfit, rules_fault}
use Rattle.books.proofs.QuestionLaws.{over, not_over, lowest_found}
use Rattle.books.proofs.questions.rules_fault.Goals as goal

pub returns-then-rules-gt64 : goal.returns-then-rules-gt64
unfolding rules_fault
returns-then-rules-gt64 g c = sym (over (length c.args.rules.now) _ c.if-rules-gt64.true)

pub returns-in-Some : goal.returns-in-Some
unfolding rules_fault misfit
returns-in-Some g c =
    let test : _ → Bool = λ x. fits (range_inclusive_start c.args.counts) (range_inclusive_end c.args.counts) (g.R.Ties.ties x) in
    let found = position_from_yields_List (λ x. not (test x)) _ _ _ c.position.ensures.ran (YieldsList-from_slice c.args.rules.now cc) (λ x b q k. search (rules, tests)) in
    ap (option_map BadQuestions) (sym c.in-Some.is) ∙ lowest_found test BadQuestions c.args.rules.now _ found ∙ sym (not_over (length c.args.rules.now) _ c.if-rules-gt64.false)

pub returns-in-None : goal.returns-in-None
unfolding rules_fault misfit
returns-in-None g c =
    let test : _ → Bool = λ x. fits (range_inclusive_start c.args.counts) (range_inclusive_end c.args.counts) (g.R.Ties.ties x) in
    let found = position_from_yields_List (λ x. not (test x)) _ _ _ c.position.ensures.ran (YieldsList-from_slice c.args.rules.now cc) (λ x b q k. search (rules, tests)) in
    ap (option_map BadQuestions) (sym c.in-None.is) ∙ lowest_found test BadQuestions c.args.rules.now _ found ∙ sym (not_over (length c.args.rules.now) _ c.if-rules-gt64.false)
