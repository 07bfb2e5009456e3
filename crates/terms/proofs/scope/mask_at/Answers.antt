use Rattle.std.proofs.Common.{◌≡◌, ◌<◌, ltb, length, get_or, sym, ap, ◌∙◌, subst, arith}
use Rattle.std.proofs.lemmas.Bool.{cond-false}
use Rattle.terms.specs.Scopes.{mask_at, positions_of}
use Rattle.terms.proofs.ScopeLaws.{mask_here}
use Rattle.terms.proofs.scope.mask_at.Goals as goal

pub returns-in-Some : goal.returns-in-Some
returns-in-Some c =
    let l : c.args.position < length c.tied.result.now = c.in-Some.ensures.lookup.3.0 in
    let here : c.in-Some.question.now ≡ get_or c.tied.result.now c.args.position 0 = c.in-Some.ensures.lookup.4 (omega arith) 0 in
    let past : c.args.position < positions_of c.args.scope = subst (λ qs. c.args.position < length qs) c.tied.ensures l in
    c.mask_of.ensures
    ∙ ap (λ q. get_or c.args.masks q 0) (here ∙ ap (λ qs. get_or qs c.args.position 0) c.tied.ensures)
    ∙ sym (mask_here c.args.masks c.args.scope c.args.position past)

pub returns-in-None : goal.returns-in-None
unfolding mask_at
returns-in-None c =
    sym (cond-false _ _ _ (ap (λ qs. ltb c.args.position (length qs)) (sym c.tied.ensures) ∙ sym c.in-None.ensures.lookup.0))
