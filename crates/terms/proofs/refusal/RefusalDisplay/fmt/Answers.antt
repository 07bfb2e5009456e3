use Rattle.std.proofs.Output.{has_written_of_eq}
use Rattle.terms.specs.Denials.{refused_text, denied_text}
use Rattle.terms.proofs.refusal.RefusalDisplay.fmt.Goals as goal

pub returns-clause-writes : goal.returns-clause-writes
unfolding denied_text
returns-clause-writes g c = λ plain ok.
    has_written_of_eq g.W.Write.write_str_gives _ _ _ _ (λ i. refused_text (c.number-number.ensures i) (c.place-place.ensures i) (c.text-text.ensures i)) (c.write.ensures.writes plain ok)
