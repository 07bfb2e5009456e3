use Rattle.std.proofs.Common.{ap, ◌∙◌}
use Rattle.terms.specs.Masks.{has}
use Rattle.record.specs.View.{view}
use Rattle.sheet.specs.Settle.{visit_option}
use Rattle.sheet.proofs.Later.{upto_later}
use Rattle.sheet.proofs.Fixed.{visit_option_later}
use Rattle.sheet.proofs.settle.visit_position.Goals as goal

pub visit_option-requires : goal.visit_option-requires
visit_option-requires g c =
    let b = g.B.Book.model c.args.book.now in
    let why = g.B.ReasoningBook.reasons c.args.book.now in
    let f = visit_option b why c.args.rule c.args.position in
    ap (λ t. has t.placed c.args.rule) c.loop-option.invariant
    ∙ ap (λ n. has n c.args.rule) (upto_later f (visit_option_later b why c.args.rule c.args.position) c.loop-option.option (view c.args.state.now)).placed ∙ c.requires
