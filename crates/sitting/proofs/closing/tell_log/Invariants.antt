use Rattle.std.proofs.Common.{◌≡◌, drop}
use Rattle.sitting.specs.Closings.{log_told}
use Rattle.sitting.specs.Tales.{tale}
use Rattle.sitting.proofs.closing.tell_log.Given as goal

-- what is still to be told comes to the whole
abbrev pub invariant-loop-number : goal.invariant-loop-number
invariant-loop-number g l =
    log_told (g.B.Book.model l.book) l.number-counter (drop l.number-counter l.log) (tale l.told)
    ≡ log_told (g.B.Book.model l.book) 0 l.log (tale l.initial.told)
