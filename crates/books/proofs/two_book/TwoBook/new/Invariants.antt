use Rattle.std.proofs.Common.{◌≡◌, drop}
use Rattle.books.specs.Questions.{first_fault}
use Rattle.books.proofs.two_book.TwoBook.new.Given as goal

abbrev pub invariant-loop-number : goal.invariant-loop-number
invariant-loop-number g l = first_fault g.R.TwoRule.fault l.number (drop l.number l.rules) ≡ first_fault g.R.TwoRule.fault 0 l.rules
