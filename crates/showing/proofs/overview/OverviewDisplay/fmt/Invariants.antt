use Rattle.std.specs.Fmt.{IsPlainFormatter, HasWritten}
use Rattle.showing.specs.Texts.{further}
use Rattle.showing.proofs.overview.OverviewDisplay.fmt.Given as goal

abbrev pub invariant-loop-mask : goal.invariant-loop-mask
invariant-loop-mask g l =
    IsPlainFormatter l.initial.f → HasWritten g.W.Write.write_str_gives l.initial.f (further l.mask-index l.self.masks) l.f
