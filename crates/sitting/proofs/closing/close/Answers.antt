use Rattle.std.proofs.Common.{codes, ap, ◌∙◌}
use Rattle.std.proofs.lemmas.Result.{IfOk-weaker}
use Rattle.calls.specs.Texts.{answer_text}
use Rattle.sitting.specs.Tales.{tale, answered}
use Rattle.sitting.specs.Closings.{log_told, closing_told}
use Rattle.sitting.proofs.TaleLaws.{tale_answered}
use Rattle.sitting.proofs.closing.close.Goals as goal

pub returns : goal.returns
unfolding closing_told
returns g c =
    let told = tale_answered c.args.told.now c.answer.new.self (codes "closing overview") (answer_text c.overview.result) c.in_ok-answer.ensures.text c.answer.ensures.sound in
    let opened = told ∙ ap (λ a. answered (codes "closing overview") (answer_text a) (tale c.args.told.now)) c.overview.ensures in
    IfOk-weaker c.tell_log.result _ _ (λ x e. e ∙ (λ i. log_told (g.B.Book.model c.args.book.now) 0 (c.log.ensures.lines i) (opened i))) c.tell_log.ensures
