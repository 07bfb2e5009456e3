-- Settling keeps what holds of a sheet, and a valid log valid. Assumes nothing.
use Rattle.std.proofs.Common.{◌≡◌, ℕ, zero, suc, Bool, true, false, not, ◌&&◌, eqb, length, get_or, Some, None, Option, refl}
use Rattle.std.proofs.lemmas.Bool.{and_parts, not-true, eqb-false}
use Rattle.terms.specs.Masks.{has}
use Rattle.terms.specs.Scopes.{positions_of, mask_at}
use Rattle.books.specs.Plain.{Plain}
use Rattle.books.specs.Reasons.{Reasonable}
use Rattle.record.specs.State.{State}
use Rattle.record.specs.Sound.{Sound}
use Rattle.record.specs.Calls.{pushed, standing_each}
use Rattle.record.proofs.SoundLaws.{push_sound}
use Rattle.sheet.specs.Settle.{Reasons, upto, pick_line, rule_line, noted_scope, standing_masks, cross_other, pick_question, pick_lines, visit_option, visit_position, visit_rule, round, rounds, settled}
use Rattle.sheet.specs.Valid.{Valid, ValidLine.by_pick}
use Rattle.sheet.proofs.Later.{upto_keeps}
use Rattle.sheet.proofs.Lines.{push_valid, pick_admissible, rule_admissible, rule_follows, reason_four}

pub by_test : (P : State → Type 0) (t : Bool) (a b : State) → (t ≡ true → P a) → (t ≡ false → P b) → P (elim t [ true ↦ a | false ↦ b ])
by_test P true a b f g = f refl
by_test P false a b f g = g refl

-- a fact that pick lines and rule lines keep
module _ (Q : State → Type 0)
    (picks : (s : State) (q x o : ℕ) → Sound s → Q s → get_or s.picks q None ≡ Some x → has (get_or (standing_each s) q 0) o ≡ true → (o ≡ x → ⊥) → Q (pushed s (pick_line q o))) where
  pub cross_other_keeps : (q x o : ℕ) (s : State) → Sound s → Q s → get_or s.picks q None ≡ Some x → Sound (cross_other q x o s) × Q (cross_other q x o s) × (get_or (cross_other q x o s).picks q None ≡ Some x)
  unfolding cross_other pushed
  cross_other_keeps q x o s sound v p = by_test (λ t. Sound t × Q t × (get_or t.picks q None ≡ Some x)) (has (get_or (standing_each s) q 0) o && not (eqb o x)) (pushed s (pick_line q o)) s
      (λ e. let f = and_parts (has (get_or (standing_each s) q 0) o) (not (eqb o x)) e in
      (push_sound s sound (pick_line q o) (pick_admissible s sound q o f.0) refl, picks s q x o sound v p f.0 (eqb-false o x (not-true _ f.1)), p))
      (λ e. (sound, v, p))

  pub pick_question_keeps : (q : ℕ) (s : State) → Sound s × Q s → Sound (pick_question q s) × Q (pick_question q s)
  unfolding pick_question
  pick_question_keeps q s (sound, v) = go (get_or s.picks q None) refl
    where
      go : (p : Option ℕ) → get_or s.picks q None ≡ p → Sound (elim p [ None ↦ s | Some x ↦ upto (cross_other q x) 32 s ]) × Q (elim p [ None ↦ s | Some x ↦ upto (cross_other q x) 32 s ])
      go None e = (sound, v)
      go (Some x) e =
          let k = upto_keeps (λ t. Sound t × Q t × (get_or t.picks q None ≡ Some x)) (cross_other q x) 32 (λ o h t c. cross_other_keeps q x o t c.0 c.1 c.2) s (sound, v, e) in
          (k.0, k.1)

  pub pick_lines_keep : (s : State) → Sound s → Q s → Sound (pick_lines s) × Q (pick_lines s)
  unfolding pick_lines
  pick_lines_keep s sound v = upto_keeps (λ t. Sound t × Q t) pick_question 16 (λ q h t c. pick_question_keeps q t c) s (sound, v)

module _ (b : Plain) (why : Reasons) (reasonable : Reasonable b why) (Q : State → Type 0)
    (rules : (s : State) (r p o : ℕ) → Sound s → Q s → has s.placed r ≡ true → has (mask_at (standing_each s) (noted_scope s r) p) o ≡ true → b.supports r p o (standing_masks s (noted_scope s r)) ≡ false → Q (pushed s (rule_line why s r p o))) where
  abbrev Kept : ℕ → State → Type 0
  Kept r t = Sound t × Q t × (has t.placed r ≡ true)

  pub visit_option_keeps : (r p o : ℕ) (s : State) → Kept r s → Kept r (visit_option b why r p o s)
  unfolding visit_option pushed
  visit_option_keeps r p o s (sound, v, placed) = by_test (Kept r) (has (mask_at (standing_each s) (noted_scope s r) p) o && not (b.supports r p o (standing_masks s (noted_scope s r)))) (pushed s (rule_line why s r p o)) s
      (λ e. let f = and_parts (has (mask_at (standing_each s) (noted_scope s r) p) o) (not (b.supports r p o (standing_masks s (noted_scope s r)))) e in (
        push_sound s sound (rule_line why s r p o) (rule_admissible b why reasonable s sound r p o placed f.0) (reason_four b why reasonable s sound r p o),
        rules s r p o sound v placed f.0 (not-true _ f.1),
        placed,
      ))
      (λ e. (sound, v, placed))

  pub visit_position_keeps : (r p : ℕ) (s : State) → Kept r s → Kept r (visit_position b why r p s)
  unfolding visit_position
  visit_position_keeps r p s k = upto_keeps (Kept r) (visit_option b why r p) 32 (λ o h t c. visit_option_keeps r p o t c) s k

  pub visit_rule_keeps : (r : ℕ) (s : State) → Sound s × Q s → Sound (visit_rule b why r s) × Q (visit_rule b why r s)
  unfolding visit_rule
  visit_rule_keeps r s (sound, v) = by_test (λ t. Sound t × Q t) (has s.placed r) (upto (visit_position b why r) (positions_of (noted_scope s r)) s) s
      (λ e. let k = upto_keeps (Kept r) (visit_position b why r) (positions_of (noted_scope s r)) (λ p h t c. visit_position_keeps r p t c) s (sound, v, e) in (k.0, k.1))
      (λ e. (sound, v))

  pub round_keeps : (s : State) → Sound s × Q s → Sound (round b why s) × Q (round b why s)
  unfolding round
  round_keeps s k = upto_keeps (λ t. Sound t × Q t) (visit_rule b why) 64 (λ r h t c. visit_rule_keeps r t c) s k

  pub rounds_keep : (n : ℕ) (s : State) → Sound s × Q s → Sound (rounds b why n s) × Q (rounds b why n s)
  unfolding rounds
  rounds_keep zero s k = k
  rounds_keep (suc n) s k = by_test (λ t. Sound t × Q t) (eqb (length (round b why s).log) (length s.log)) (round b why s) (rounds b why n (round b why s)) (λ e. round_keeps s k) (λ e. rounds_keep n (round b why s) (round_keeps s k))

-- the invariant alone, and with validity

pub pick_lines_sound : (s : State) → Sound s → Sound (pick_lines s)
pick_lines_sound s sound = (pick_lines_keep (λ t. Unit {0}) (λ s q x o i v p e n. tt) s sound tt).0

pub round_sound : (b : Plain) (why : Reasons) → Reasonable b why → (s : State) → Sound s → Sound (round b why s)
round_sound b why reasonable s sound = (round_keeps b why reasonable (λ t. Unit {0}) (λ s r p o i v e f g. tt) s (sound, tt)).0

pub settled_sound : (b : Plain) (why : Reasons) → Reasonable b why → (s : State) → Sound s → Sound (settled b why s)
unfolding settled
settled_sound b why reasonable s sound = (rounds_keep b why reasonable (λ t. Unit {0}) (λ s r p o i v e f g. tt) 513 (pick_lines s) (pick_lines_sound s sound, tt)).0

pub settled_valid : (b : Plain) (why : Reasons) → Reasonable b why → (s : State) → Sound s → Valid b s → Valid b (settled b why s)
unfolding settled
settled_valid b why reasonable s sound v =
    let start = pick_lines_keep (Valid b) (λ t q x o i w p e n. push_valid b t (pick_line q o) w (by_pick x refl p n)) s sound v in
    (rounds_keep b why reasonable (Valid b) (λ t r p o i w placed e lacks. push_valid b t (rule_line why t r p o) w (rule_follows b why reasonable t i r p o placed e (w.noted r placed) lacks)) 513 (pick_lines s) start).1
