-- The numbers of the kinds of lines. Assumes nothing.
use Rattle.std.specs.Prelude.{ℕ}
use Rattle.terms.specs.declared.line.Kind.{Kind}
use Rattle.terms.specs.declared.line.Kind.TheVariants.{Pick, Rule, Try, Shut}

abbrev pub number_of : Kind → ℕ
number_of Pick = 1
number_of Rule = 2
number_of Try = 3
number_of Shut = 4
