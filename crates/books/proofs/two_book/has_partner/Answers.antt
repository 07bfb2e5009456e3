use Rattle.std.proofs.Common.{◌&&◌, refl, ◌∙◌, rules, tests}
use Rattle.std.proofs.lemmas.Iterator.{YieldsList-from_range}
use Rattle.std.proofs.lemmas.Iterator.Search.{any_from_yields_List}
use Rattle.terms.specs.Masks.{has}
use Rattle.books.specs.Twos.{beside}
use Rattle.books.proofs.TwoLaws.{some_in}
use Rattle.books.proofs.two_book.has_partner.Goals as goal

pub returns : goal.returns
returns g c =
    any_from_yields_List (λ x. has c.args.mask x && beside (g.R.TwoRule.pairs c.args.rule.now) c.args.seat.position c.args.seat.option x) _ _ _ c.any.ensures.ran (YieldsList-from_range 0 32 32 refl refl) (λ x b q k. search (rules, tests))
    ∙ some_in (beside (g.R.TwoRule.pairs c.args.rule.now) c.args.seat.position c.args.seat.option) c.args.mask
