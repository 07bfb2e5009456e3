-- What the definitions give on samples.
use Rattle.std.proofs.Common.{◌≡◌, Some, None, codes, refl}
use Rattle.wording.specs.declared.verb.Verb.TheVariants.{Pick}
use Rattle.wording.specs.Names.{verb_of, verb_among}

verb_sample : verb_of (codes "pick") ≡ Some Pick
unfolding verb_of verb_among
verb_sample = refl

no_verb_sample : verb_of (codes "picks") ≡ None
unfolding verb_of verb_among
no_verb_sample = refl
