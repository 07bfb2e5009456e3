use Rattle.std.proofs.Common.{set, sym, ◌∙◌, subst}
use Rattle.std.proofs.lemmas.List.{length-set}
use Rattle.record.specs.Sound.{Backed}
use Rattle.record.proofs.SoundLaws.{place_backed}
use Rattle.record.proofs.state.Record.place.Goals as goal

pub invariant_of-self-2 : goal.invariant_of-self-2
invariant_of-self-2 c =
    let r = c.args.self.now in
    let log = r.log.items in record {
      rules = length-set r.scopes c.args.rule c.args.scope ∙ r.rules;
      questions = r.questions;
      heads = r.heads;
      declared = r.declared;
      once = r.once;
      backed = subst (λ p. Backed p (set r.scopes c.args.rule c.args.scope) log) (sym c.with_rule-self.ensures) (place_backed r.docket.placed r.scopes log c.args.rule c.args.scope c.if-rule-ge64.false (sym c.if-has_rule.ensures) r.backed);
      counted = r.counted;
    }
