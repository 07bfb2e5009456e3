use Rattle.std.proofs.Common.{◌≡◌, ℕ, ◌&&◌, ltb, List, [], ◌∷◌, refl, ap, ◌∙◌, rules, tests}
use Rattle.std.specs.List.{list_all}
use Rattle.std.proofs.lemmas.Iterator.{YieldsList-from_slice}
use Rattle.std.proofs.lemmas.Iterator.Search.{all_from_yields_List}
use Rattle.terms.specs.Scopes.{questions_of}
use Rattle.record.specs.Calls.{all_below}
use Rattle.record.proofs.problem.on_sheet.Goals as goal

all_are : (n : ℕ) (qs : List ℕ) → list_all (λ q. ltb q n) qs ≡ all_below n qs
unfolding all_below
all_are n [] = refl
all_are n (q ∷ qs) = ap (λ b. ltb q n && b) (all_are n qs)

pub returns : goal.returns
returns c =
    all_from_yields_List (λ q. ltb q c.args.count) c.all.new.self _ _ c.all.ensures.ran
    (YieldsList-from_slice (questions_of c.args.scope) (c.iter.ensures.rest ∙ c.tied.ensures)) (λ x b q k. search (rules, tests))
    ∙ all_are c.args.count (questions_of c.args.scope)
