use Rattle.std.proofs.Common.{◌≡◌, length, sym, ap, ◌∙◌, arith, rules}
use Rattle.terms.specs.Masks.{has}
use Rattle.terms.specs.Scopes.{positions_of}
use Rattle.terms.proofs.ScopeLaws.{positions_is}
use Rattle.record.specs.View.{view}
use Rattle.sheet.specs.Settle.{upto, visit_position}
use Rattle.sheet.proofs.Steps.{rule_placed}
use Rattle.sheet.proofs.Later.{upto_later}
use Rattle.sheet.proofs.Fixed.{visit_position_later}
use Rattle.sheet.proofs.settle.visit_rule.Goals as goal

pub visit_position-requires : goal.visit_position-requires
visit_position-requires g c =
    let b = g.B.Book.model c.args.book.now in
    let why = g.B.ReasoningBook.reasons c.args.book.now in
    let f = visit_position b why c.args.rule in
    ap (λ t. has t.placed c.args.rule) c.loop-position.invariant
    ∙ ap (λ n. has n c.args.rule) (upto_later f (visit_position_later b why c.args.rule) c.loop-position.position (view c.args.state.now)).placed ∙ sym c.if-not-is_placed.ensures

pub returns : goal.returns
returns g c =
    let b = g.B.Book.model c.args.book.now in
    let why = g.B.ReasoningBook.reasons c.args.book.now in
    let f = visit_position b why c.args.rule in
    let four : length c.scope.result.questions ≡ 4 = search rules in
    let is = positions_is c.scope.result four in
    let e : c.loop-position.position ≡ positions_of c.scope.result = omega (arith, is, c.min-positions.ensures, c.loop-position.auto.position-end) in
    c.loop-position.invariant ∙ ap (λ n. upto f n (view c.args.state.now)) (e ∙ ap positions_of c.scope.ensures)
    ∙ rule_placed b why (view c.args.state.now) c.args.rule (sym c.if-not-is_placed.ensures)
