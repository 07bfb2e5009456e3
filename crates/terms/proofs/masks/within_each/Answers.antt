use Rattle.std.proofs.Common.{◌∙◌, rules, tests}
use Rattle.std.proofs.lemmas.Iterator.{YieldsList-from_slice, YieldsList-from_zip}
use Rattle.std.proofs.lemmas.Iterator.Consumers.{YieldsList-at}
use Rattle.std.proofs.lemmas.Iterator.Search.{all_from_yields_List}
use Rattle.terms.specs.Masks.{within, within_each}
use Rattle.terms.proofs.MaskLaws.{within_each_zip}
use Rattle.terms.proofs.masks.within_each.Goals as goal

pub returns : goal.returns
unfolding within_each
returns c =
    all_from_yields_List (λ p. within p.0 p.1) c.all.new.self _ _ c.all.ensures.ran
    (YieldsList-from_zip (YieldsList-at c.zip.ensures.first (YieldsList-from_slice _ c.iter.ensures.rest)) (YieldsList-at c.zip.ensures.second (YieldsList-from_slice _ c.iter-2.ensures.rest)))
    (λ x b q k. search (rules, tests))
    ∙ within_each_zip _ _ (search rules) (search rules)
