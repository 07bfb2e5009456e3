use Rattle.std.proofs.lemmas.Iterator.Consumers.{map_from_collect}
use Rattle.lines.proofs.Splits.{yields_words}
use Rattle.lines.proofs.words.words.Goals as goal

pub returns : goal.returns
returns c =
    map_from_collect c.collect.result c.collect.ensures.ran (yields_words c.args.line.now c.split_whitespace.result c.utf8.line c.split_whitespace.ensures.rest)
