use Rattle.std.proofs.Common.{◌≡◌, map, drop}
use Rattle.lines.specs.Marks.{noted}
use Rattle.sitting.specs.Tales.{tale}
use Rattle.sitting.specs.Sittings.{rules_of, no_rules, lines_told}
use Rattle.sitting.proofs.run.take_all.Given as goal

-- what is still to be taken comes to the whole
abbrev pub invariant-loop-index : goal.invariant-loop-index
invariant-loop-index l = lines_told (rules_of l.ledger) (map noted (drop l.index l.entries)) (tale l.told) ≡ lines_told no_rules (map noted l.entries) (tale l.initial.told)
