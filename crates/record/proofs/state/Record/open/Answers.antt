use Rattle.std.proofs.Common.{length, replicate, sym, refl, ap, ◌∙◌, subst, not-suc-le-zero}
use Rattle.std.proofs.lemmas.Bool.{both_ways}
use Rattle.record.specs.Calls.{opened}
use Rattle.record.specs.Sound.{Heads, Declared, Once, Backed}
use Rattle.record.specs.State.{headed, unscoped}
use Rattle.record.specs.View.{view}
use Rattle.record.proofs.Heads.{none_crossed, total_none, unreasoned}
use Rattle.record.proofs.SoundLaws.{implying}
use Rattle.record.proofs.state.Record.open.Goals as goal

pub invariant_of-result : goal.invariant_of-result
unfolding headed
invariant_of-result c =
    let e = sym c.new.ensures in record {
      rules = refl;
      questions = refl;
      heads = subst (Heads (replicate 16 0)) e (λ q o. none_crossed 16 q o);
      declared = subst (Declared _) e (λ k h. absurd (not-suc-le-zero h));
      once = subst Once e (λ k h. absurd (not-suc-le-zero h));
      backed = subst (Backed _ _) e (λ k j x. implying _ _ (λ e. absurd (both_ways _ (unreasoned j x) e)));
      counted = total_none 16 ∙ ap length e;
    }
