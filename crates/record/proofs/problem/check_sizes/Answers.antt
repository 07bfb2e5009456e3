use Rattle.std.proofs.Common.{◌≡◌, ℕ, suc, ◌≤◌, Bool, true, false, cond, ◌||◌, eqb, ltb, List, length, Some, Option, sym, refl, ap, ◌∙◌, rules, tests}
use Rattle.std.specs.List.{position}
use Rattle.std.specs.Option.{option_map}
use Rattle.std.proofs.lemmas.Bool.{or_left, or_right, or_from, lt-ltb, le-ltb}
use Rattle.std.proofs.lemmas.Iterator.{YieldsList-from_slice}
use Rattle.std.proofs.lemmas.Iterator.Search.{position_from_yields_List}
use Rattle.terms.specs.declared.refusal.Refusal.{Refusal}
use Rattle.terms.specs.declared.refusal.Refusal.TheVariants.{QuestionCount, SizeOutOfRange}
use Rattle.terms.proofs.Lowest.{lowest_of}
use Rattle.record.specs.Told.{refuse}
use Rattle.record.specs.Calls.{open_fault, size_fault}
use Rattle.record.proofs.problem.check_sizes.Goals as goal
use Rattle.record.proofs.problem.check_sizes.Goals.{then-is_empty-via-then-is_empty, then-is_empty-via-else-is_empty+then-sizes-gt16}

bad : ℕ → Bool
bad n = eqb n 0 || ltb 32 n

refuse_is : (b : Bool) (e : Refusal) (rest : Option Refusal) → refuse b e rest ≡ cond b (Some e) rest
refuse_is true e rest = refl
refuse_is false e rest = refl

-- how many there are is in order, so the first size that is not decides
counted : (xs : List ℕ) → eqb (length xs) 0 ≡ false → length xs ≤ 16 → open_fault xs ≡ option_map SizeOutOfRange (position bad xs)
unfolding open_fault size_fault bad
counted xs some few =
    ap (λ b. refuse b QuestionCount (size_fault 0 xs)) (or_from _ _ some (le-ltb 16 (length xs) few))
    ∙ lowest_of bad SizeOutOfRange size_fault (λ q. refl) (λ q x ns. refuse_is (bad x) (SizeOutOfRange q) (size_fault (suc q) ns)) xs

pub returns-then-is_empty : goal.returns-then-is_empty
unfolding open_fault
returns-then-is_empty c =
    let xs = c.args.sizes.now in
    elim c.then-is_empty.branch [
      | then-is_empty-via-then-is_empty w ↦ ap (λ b. refuse b QuestionCount (size_fault 0 xs)) (sym (or_left _ _ (sym c.is_empty.ensures ∙ w.if-is_empty.true)))
      | then-is_empty-via-else-is_empty+then-sizes-gt16 w ↦ ap (λ b. refuse b QuestionCount (size_fault 0 xs)) (sym (or_right (eqb (length xs) 0) _ (lt-ltb _ _ w.if-sizes-gt16.true)))
    ]

pub returns-in-Some : goal.returns-in-Some
unfolding bad
returns-in-Some c =
    ap (option_map SizeOutOfRange) (sym c.in-Some.is ∙ position_from_yields_List bad c.position.new.self _ _ c.position.ensures.ran (YieldsList-from_slice c.args.sizes.now c.iter.ensures.rest) (λ x b q k. search (rules, tests)))
    ∙ sym (counted c.args.sizes.now (sym c.is_empty.ensures ∙ c.if-is_empty.false) c.if-sizes-gt16.false)

pub returns-in-None : goal.returns-in-None
unfolding bad
returns-in-None c =
    ap (option_map SizeOutOfRange) (sym c.in-None.is ∙ position_from_yields_List bad c.position.new.self _ _ c.position.ensures.ran (YieldsList-from_slice c.args.sizes.now c.iter.ensures.rest) (λ x b q k. search (rules, tests)))
    ∙ sym (counted c.args.sizes.now (sym c.is_empty.ensures ∙ c.if-is_empty.false) c.if-sizes-gt16.false)
