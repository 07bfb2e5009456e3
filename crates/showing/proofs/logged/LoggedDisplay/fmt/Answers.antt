use Rattle.std.proofs.Common.{sym, ◌∙◌}
use Rattle.std.proofs.Output.{has_written_of_eq}
use Rattle.showing.proofs.TextLaws.{logged_pick, logged_rule}
use Rattle.showing.proofs.logged.LoggedDisplay.fmt.Goals as goal

pub returns-then-self-from-clause-writes : goal.returns-then-self-from-clause-writes
returns-then-self-from-clause-writes g c = λ plain ok.
    has_written_of_eq g.W.Write.write_str_gives _ _ _ _ (sym (logged_pick c.args.self.now.line c.args.self.now.scope (c.if-self-from.true ∙ c.from.ensures))) (c.write.ensures.writes plain ok)

pub returns-clause-writes : goal.returns-clause-writes
returns-clause-writes g c = λ plain ok.
    has_written_of_eq g.W.Write.write_str_gives _ _ _ _ (sym (logged_rule c.args.self.now.line c.args.self.now.scope (λ e. c.if-self-from.false (e ∙ sym c.from.ensures)))) (c.write-2.ensures.writes plain ok)
