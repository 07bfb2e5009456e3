use Rattle.std.proofs.Common.{◌≡◌, map, drop}
use Rattle.lines.specs.Marks.{noted}
use Rattle.sitting.specs.Scenes.{all_obeyed, going_on, played}
use Rattle.sitting.proofs.calling.obey_all.Given as goal

-- what is still to be called comes to the whole, on the same book
abbrev pub invariant-loop-entry : goal.invariant-loop-entry
invariant-loop-entry g l =
    let b = g.B.Book.model l.initial.sheet.book in
    let why = g.B.ReasoningBook.reasons l.initial.sheet.book in
    going_on (all_obeyed b why (map noted (drop l.entry-index l.entries))) (played l.sheet l.told)
    ≡ going_on (all_obeyed b why (map noted l.entries)) (played l.initial.sheet l.initial.told)
