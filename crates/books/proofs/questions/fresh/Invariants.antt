use Rattle.std.proofs.Common.{◌≡◌, drop}
use Rattle.books.specs.Questions.{fresh}
use Rattle.books.proofs.questions.fresh.Given as goal

abbrev pub invariant-loop-q : goal.invariant-loop-q
invariant-loop-q l = fresh l.seen (drop l.q-index l.questions) ≡ fresh 0 l.questions
