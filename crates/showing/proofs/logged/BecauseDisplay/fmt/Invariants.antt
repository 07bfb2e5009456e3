use Rattle.std.proofs.Common.{length}
use Rattle.std.specs.Fmt.{IsPlainFormatter, HasWritten}
use Rattle.showing.specs.Texts.{reason_below}
use Rattle.showing.proofs.logged.BecauseDisplay.fmt.Given as goal

abbrev pub invariant-loop-question : goal.invariant-loop-question
invariant-loop-question g l =
    IsPlainFormatter l.initial.f → HasWritten g.W.Write.write_str_gives l.initial.f (reason_below (length l.yielded) l.self.questions l.self.reason) l.f
