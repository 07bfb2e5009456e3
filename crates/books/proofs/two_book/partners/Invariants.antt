use Rattle.std.proofs.Common.{◌≡◌}
use Rattle.books.specs.Twos.{beside, kept_below}
use Rattle.books.proofs.two_book.partners.Given as goal

abbrev pub invariant-loop-x : goal.invariant-loop-x
invariant-loop-x g l = l.partners ≡ kept_below (beside (g.R.TwoRule.pairs l.rule) l.seat.position l.seat.option) l.x l.mask
