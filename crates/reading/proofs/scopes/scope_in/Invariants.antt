use Rattle.std.proofs.Common.{◌≡◌, [], drop, take}
use Rattle.lines.specs.Marks.{texts}
use Rattle.wording.specs.Figures.{numbers_after}
use Rattle.reading.specs.Scopes.{first_four, numbers_in}
use Rattle.reading.proofs.scopes.scope_in.Given as goal

abbrev pub invariant-loop-place : goal.invariant-loop-place
invariant-loop-place l =
    (numbers_after (numbers_in (texts (take l.place l.words))) (texts (drop l.place l.words)) ≡ numbers_after [] (texts l.words))
    × (l.questions ≡ first_four (numbers_in (texts (take l.place l.words))))
