use Rattle.std.proofs.Common.{sym, ap, ◌∙◌, arith}
use Rattle.std.proofs.lemmas.Str.Pattern.{split_parts}
use Rattle.std.proofs.lemmas.Option.{MatchOption-at_some, MatchOption-at_none}
use Rattle.lines.specs.Marks.{before}
use Rattle.lines.proofs.Cuts.{before_none, before_split}
use Rattle.lines.proofs.words.uncommented.Goals as goal

pub returns-in-Some : goal.returns-in-Some
returns-in-Some c =
    let h = MatchOption-at_some _ _ _ c.in-Some.is (split_parts 35 c.args.line.now _ c.split_once.ensures.cases (omega arith)) in
    sym (ap (before 35) h.0 ∙ before_split 35 _ _ h.1)

pub returns-in-None : goal.returns-in-None
returns-in-None c =
    sym (before_none 35 _ (MatchOption-at_none _ _ c.in-None.is (split_parts 35 c.args.line.now _ c.split_once.ensures.cases (omega arith))))
