use Rattle.std.proofs.Common.{◌∙◌}
use Rattle.std.proofs.lemmas.Result.{IfOk-weaker}
use Rattle.sitting.proofs.OpeningLaws.{two_refused}
use Rattle.sitting.proofs.opening.open_on_two.Goals as goal

pub returns-in-Err : goal.returns-in-Err
returns-in-Err g c =
    IfOk-weaker c.refuse.result _ _ (λ done e. e ∙ two_refused _ _ _ _ _ _ _ _ c.in-Err.refusal c.in-Err.ensures.answer) c.refuse.ensures
