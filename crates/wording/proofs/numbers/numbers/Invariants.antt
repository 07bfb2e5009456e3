use Rattle.std.proofs.Common.{◌≡◌, [], drop, vec_items}
use Rattle.lines.specs.Marks.{texts}
use Rattle.wording.specs.Figures.{numbers_after}
use Rattle.wording.proofs.numbers.numbers.Given as goal

abbrev pub invariant-loop-word : goal.invariant-loop-word
invariant-loop-word l =
    numbers_after (vec_items l.numbers) (texts (drop l.word-index l.words)) ≡ numbers_after [] (texts l.words)
