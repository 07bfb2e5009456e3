use Rattle.std.proofs.Common.{ap, ◌∙◌}
use Rattle.lines.specs.Marks.{trimmed}
use Rattle.lines.proofs.Trims.{trim_is}
use Rattle.lines.proofs.words.stripped.Goals as goal

pub returns : goal.returns
returns c =
    trim_is c.uncommented.result.now c.trim.result.now c.uncommented.utf8 c.trim.utf8 c.trim.ensures.value ∙ ap trimmed c.uncommented.ensures
