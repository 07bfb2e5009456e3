use Rattle.std.proofs.Common.{List, sym, ap, ap₂, ◌∙◌, Ok}
use Rattle.wording.specs.Figures.{both}
use Rattle.reading.specs.Plain.{no_byte}
use Rattle.reading.specs.Scopes.{scope_of}
use Rattle.reading.proofs.Words.{all_written, all_noted, counted}
use Rattle.reading.proofs.scopes.scope_in.Goals as goal

pub returns : goal.returns
returns c =
    let ws = c.args.words.now in
    ap₂ (λ n (qs : List _). Ok (record { count = n; questions = qs }))
    (c.count_of.ensures ∙ counted ws)
    (c.loop-place.invariant.1 ∙ all_noted ws c.loop-place.place c.loop-place-test.false)
    ∙ ap (λ r. both scope_of (λ m. m) (both (λ ns. ns) no_byte r)) (sym (all_written ws c.loop-place.place c.loop-place-test.false c.loop-place.invariant.0))
