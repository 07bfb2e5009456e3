use Rattle.std.specs.Fmt.{IsPlainFormatter, HasWritten}
use Rattle.showing.specs.Texts.{named_below}
use Rattle.showing.proofs.logged.NamedDisplay.fmt.Given as goal

abbrev pub invariant-loop-option : goal.invariant-loop-option
invariant-loop-option g l = IsPlainFormatter l.initial.f → HasWritten g.W.Write.write_str_gives l.initial.f (named_below l.option-counter l.self.question l.self.mask) l.f
