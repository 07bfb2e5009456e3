-- What holds of a record holds of its plain values. Assumes nothing.
use Rattle.std.proofs.Common.{◌≡◌, ℕ, ◌<◌, ◌≤◌, true, List, [], ◌∷◌, ◌++◌, length, get_or, set, sym, ap, ◌∙◌, subst₂, arith}
use Rattle.std.proofs.lemmas.List.{length-set}
use Rattle.terms.specs.Masks.{with}
use Rattle.terms.specs.declared.line.Line.{Line}
use Rattle.record.specs.State.{total}
use Rattle.record.specs.Sound.{Sound, Heads, Declared, Once, Backed}
use Rattle.record.specs.Calls.{admissible, pushed}
use Rattle.record.specs.View.{view}
use Rattle.record.specs.declared.state.Record.{Record}
use Rattle.record.proofs.Heads.{total_le}
use Rattle.record.proofs.SoundLaws.{push_heads, push_declared, push_once, push_backed, push_counted, push_room}

-- what is owed of the fields where a line was written: of the crossed masks and the log
pub record Owed (r : Record) (cs : List ℕ) (log : List Line) : Type 0 where
  pub rules : length r.scopes ≡ 64
  pub questions : length cs ≡ 16
  pub heads : Heads cs log
  pub declared : Declared r.docket.sizes log
  pub once : Once log
  pub backed : Backed r.docket.placed r.scopes log
  pub counted : total cs ≡ length log

module _ (r : Record) where
  pub lines_le : length r.log.items ≤ 512
  lines_le = omega (arith, r.counted, total_le r.crossed, r.questions)

  pub sound_of : Sound (view r)
  unfolding view
  sound_of = record {
    some = r.docket.some;
    few = r.docket.few;
    sixteen = r.questions;
    large = r.docket.large;
    small = r.docket.small;
    past = r.docket.past;
    picked = r.docket.picked;
    heads = r.heads;
    declared = r.declared;
    once = r.once;
    backed = r.backed;
    counted = r.counted;
  }

  module _ (l : Line) (four : length l.reason ≡ 4) (ok : admissible (view r) l ≡ true) where
    pub fits : length r.log.items < 512
    unfolding view
    fits = push_room (view r) sound_of l ok

    pub kept : (m : ℕ) (log : List Line) → m ≡ with (get_or r.crossed l.question 0) l.option → log ≡ r.log.items ++ l ∷ [] →
        Owed r (set r.crossed l.question m) log
    unfolding view pushed
    kept m log e w =
        subst₂ (λ cs t. Owed r cs t)
        (ap (set r.crossed l.question) (sym e)) (sym w) record {
          rules = r.rules;
          questions = length-set r.crossed l.question (with (get_or r.crossed l.question 0) l.option) ∙ r.questions;
          heads = push_heads (view r) sound_of l ok;
          declared = push_declared (view r) sound_of l ok;
          once = push_once (view r) sound_of l ok;
          backed = push_backed (view r) sound_of l ok four;
          counted = push_counted (view r) sound_of l ok;
        }
