use Rattle.std.proofs.Common.{◌≡◌, ◌+◌, ◌≤◌, ◌∷◌, length, drop, is_some, Some, None, sym, ap, ap₂, ◌∙◌, add-one, arith}
use Rattle.std.proofs.lemmas.List.{at_drop_more, at_drop_all}
use Rattle.std.proofs.lemmas.Grind.{common_steps}
use Rattle.books.specs.Questions.{rules_fault, first_of, first_fault}
use Rattle.books.proofs.QuestionLaws.{faultless, fault_here, fault_later, fault_none}
use Rattle.books.proofs.two_book.TwoBook.new.Goals as goal

pub overflow_cast-number : goal.overflow_cast-number
overflow_cast-number g c =
    let e : rules_fault g.R.Ties.ties 2 2 c.args.rules.now ≡ None = ap₂ (λ a b. rules_fault g.R.Ties.ties a b c.args.rules.now) (sym c.new.ensures.start) (sym c.new.ensures.end) ∙ sym c.in_ok-rules_fault.ensures in
    let few : length c.args.rules.now ≤ 64 = (faultless g.R.Ties.ties 2 2 c.args.rules.now (ap is_some e)).0 in
    omega arith

pub returns-in_err-check-clause-answer : goal.returns-in_err-check-clause-answer
returns-in_err-check-clause-answer g c =
    let F = first_fault g.R.TwoRule.fault in
    let xs = c.args.rules.now in
    let i = c.loop-number.number in
    let x = c.index-rules-number.result in
    let e : rules_fault g.R.Ties.ties 2 2 xs ≡ None = ap₂ (λ a b. rules_fault g.R.Ties.ties a b xs) (sym c.new.ensures.start) (sym c.new.ensures.end) ∙ sym c.in_ok-rules_fault.ensures in
    let f : F 0 xs ≡ Some c.in_err-check.field-0.0 =
    sym c.loop-number.invariant
    ∙ at_drop_more (F i) xs i x c.loop-number-test.true
    ∙ ap (λ y. F i (y ∷ drop (i + 1) xs)) (sym c.index-rules-number.is)
    ∙ fault_here g.R.TwoRule.fault i x (drop (i + 1) xs) c.in_err-check.field-0.0 (sym c.in_err-check.ensures) in
    grind (arith, common_steps)

pub loop-number-preserved : goal.loop-number-preserved
loop-number-preserved g c =
    let F = first_fault g.R.TwoRule.fault in
    let xs = c.args.rules.now in
    let i = c.loop-number.number in
    let x = c.index-rules-number.result in
    ap (λ k. F k (drop (i + 1) xs)) (add-one i)
    ∙ sym
    (sym c.loop-number.invariant
    ∙ at_drop_more (F i) xs i x c.loop-number-test.true
    ∙ ap (λ y. F i (y ∷ drop (i + 1) xs)) (sym c.index-rules-number.is)
    ∙ fault_later g.R.TwoRule.fault i x (drop (i + 1) xs) (sym c.in_ok-check.ensures))

pub invariant_of-result : goal.invariant_of-result
invariant_of-result g c =
    let F = first_fault g.R.TwoRule.fault in
    let xs = c.args.rules.now in
    let i = c.loop-number.number in
    let e : rules_fault g.R.Ties.ties 2 2 xs ≡ None = ap₂ (λ a b. rules_fault g.R.Ties.ties a b xs) (sym c.new.ensures.start) (sym c.new.ensures.end) ∙ sym c.in_ok-rules_fault.ensures in
    let f : F 0 xs ≡ None = sym c.loop-number.invariant ∙ at_drop_all (F i) xs i c.loop-number-test.false ∙ fault_none g.R.TwoRule.fault i in
    record { sound = ap (λ o. is_some (first_of o (F 0 xs))) e ∙ ap is_some f }
