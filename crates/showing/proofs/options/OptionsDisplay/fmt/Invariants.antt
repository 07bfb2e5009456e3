use denote.Text.{Utf8}
use denote.Shadow.{shadow}
use Rattle.std.proofs.Common.{◌≡◌, codes}
use Rattle.std.specs.Fmt.{IsPlainFormatter, HasWritten}
use Rattle.showing.specs.Texts.{gap, options_below}
use Rattle.showing.proofs.options.OptionsDisplay.fmt.Given as goal

abbrev pub invariant-loop-option : goal.invariant-loop-option
invariant-loop-option g l =
    shadow (Utf8 l.gap)
    × (l.gap ≡ gap (codes " ") (options_below l.option-counter l.self.0))
    × (IsPlainFormatter l.initial.f → HasWritten g.W.Write.write_str_gives l.initial.f (options_below l.option-counter l.self.0) l.f)
