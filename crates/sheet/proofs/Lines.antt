-- The lines that settling writes may come next, and follow. Assumes nothing.
use Rattle.std.proofs.Common.{◌≡◌, ℕ, ◌<◌, Bool, true, false, not, List, length, get_or, None, sym, refl, ap, ◌∙◌, subst, ap₂, inl, inr, arith}
use Rattle.std.proofs.lemmas.List.{get_or_past}
use Rattle.std.proofs.lemmas.Bool.{both_ways, and_from, lt-ltb, cases_lt, cases_Bool, cond-true}
use Rattle.terms.specs.Masks.{has, less_each, declared_each}
use Rattle.terms.specs.Scopes.{positions_of, question_at, mask_at, masks_at}
use Rattle.terms.specs.declared.line.Line.{Line}
use Rattle.terms.specs.declared.scope.Scope.{Scope}
use Rattle.terms.proofs.MaskLaws.{has_none, holds_within_each}
use Rattle.terms.proofs.ScopeLaws.{masks_below, mask_here, mask_past}
use Rattle.books.specs.Plain.{Plain, positions}
use Rattle.books.specs.Reasons.{owed, Reasonable, no_reason}
use Rattle.record.specs.State.{State, headed}
use Rattle.record.specs.Sound.{Sound}
use Rattle.record.specs.Calls.{admissible, crossed_at, pushed, standing_each}
use Rattle.record.proofs.Heads.{each_push, unreasoned}
use Rattle.sheet.specs.Settle.{Reasons, pick_line, rule_line, noted_scope, declared_masks, standing_masks}
use Rattle.sheet.specs.Valid.{Noted, Valid, ValidLine, ValidLine.by_pick, ValidLine.by_rule}
use Rattle.sheet.proofs.Standing.{stands_declared, stands_uncrossed, rule_standing, rule_fallen}

-- validity is of the problem, not of what is crossed
pub line_same : (b : Plain) (s t : State) (earlier : List Line) (l : Line) → t.count ≡ s.count → t.sizes ≡ s.sizes → t.picks ≡ s.picks → t.placed ≡ s.placed → ValidLine b s earlier l → ValidLine b t earlier l
line_same b s t earlier l c z p r (by_pick x kind picked other) = by_pick x kind (ap (λ ps. get_or ps l.question None) p ∙ picked) other
line_same b s t earlier l c z p r (by_rule at kind placed here asked reason lacks) =
    by_rule at kind (ap (λ rs. has rs l.rule) r ∙ placed) here asked reason
    (ap₂ (λ n ss. b.supports l.rule at l.option (less_each (masks_at (declared_each n ss) (b.scope l.rule)) l.reason)) c z ∙ lacks)

-- a line that follows may be written
pub push_valid : (b : Plain) (s : State) (l : Line) → Valid b s → ValidLine b s s.log l → Valid b (pushed s l)
unfolding pushed
push_valid b s l v new = record {
  noted = λ r e. record { known = (v.noted r e).known; scope = (v.noted r e).scope; on_sheet = (v.noted r e).on_sheet };
  lines = each_push s.log l (λ k x t. ValidLine b (pushed s l) t x) (λ k h. line_same b s (pushed s l) _ _ refl refl refl refl (v.lines k h)) (line_same b s (pushed s l) _ _ refl refl refl refl new);
}

-- pick lines

pub pick_admissible : (s : State) → Sound s → (q o : ℕ) → has (get_or (standing_each s) q 0) o ≡ true → admissible s (pick_line q o) ≡ true
unfolding admissible
pick_admissible s sound q o e =
    and_from _ _ (lt-ltb o (get_or s.sizes q 0) (stands_declared s sound q o e))
    (and_from _ _ (ap not (stands_uncrossed s sound q o e))
    (holds_within_each no_reason (crossed_at s 0) (λ j x h f. absurd (both_ways _ (unreasoned j x) f))))

-- rule lines

module _ (b : Plain) (why : Reasons) (reasonable : Reasonable b why) (s : State) (sound : Sound s) (r p o : ℕ) where
  scope : Scope
  scope = noted_scope s r

  reason : List ℕ
  reason = why r p o (declared_masks s scope) (standing_masks s scope)

  asked : Bool
  asked = owed b r p o (declared_masks s scope) (standing_masks s scope)

  pub reason_four : length (rule_line why s r p o).reason ≡ 4
  unfolding scope reason asked
  reason_four = elim (cases_Bool asked) [
    | inl e ↦ (reasonable.explains r p o (declared_masks s scope) (standing_masks s scope) e).four
    | inr e ↦ ap length (reasonable.otherwise r p o (declared_masks s scope) (standing_masks s scope) e)
  ]

  -- the reason holds only crossed options, at positions of the rule as it was noted
  pub reason_crossed : (j x : ℕ) → j < 4 → has (get_or (rule_line why s r p o).reason j 0) x ≡ true → (j < positions_of (noted_scope s r)) × (has (get_or s.crossed (question_at (noted_scope s r) j) 0) x ≡ true)
  unfolding scope reason asked
  reason_crossed j x four f = elim (cases_Bool asked) [
    | inl e ↦ (let c = (reasonable.explains r p o (declared_masks s scope) (standing_masks s scope) e).crossed j x f in rule_fallen s sound scope j x four c.0 c.1)
    | inr e ↦ absurd (both_ways _ (ap (λ m. has (get_or m j 0) x) (reasonable.otherwise r p o (declared_masks s scope) (standing_masks s scope) e) ∙ unreasoned j x) f)
  ]

  module _ (placed : has s.placed r ≡ true) (standing : has (mask_at (standing_each s) (noted_scope s r) p) o ≡ true) where
    pub visited_position : p < positions_of (noted_scope s r)
    visited_position = elim (cases_lt p (positions_of (noted_scope s r))) [
      | inl h ↦ h
      | inr h ↦ absurd (both_ways _ (ap (λ m. has m o) (mask_past (standing_each s) (noted_scope s r) p h) ∙ has_none o) standing)
    ]

    pub visited_stands : has (get_or (standing_each s) (question_at (noted_scope s r) p) 0) o ≡ true
    visited_stands = ap (λ m. has m o) (sym (mask_here (standing_each s) (noted_scope s r) p visited_position)) ∙ standing

    pub rule_admissible : admissible s (rule_line why s r p o) ≡ true
    unfolding admissible crossed_at
    rule_admissible =
        let q = question_at (noted_scope s r) p in
        and_from _ _ (lt-ltb o (get_or s.sizes q 0) (stands_declared s sound q o visited_stands))
        (and_from _ _ (ap not (stands_uncrossed s sound q o visited_stands))
        (holds_within_each (rule_line why s r p o).reason (crossed_at s r) (λ j x four f. let g = reason_crossed j x four f in
        ap (λ ms. has (get_or ms j 0) x) (cond-true (has s.placed r) _ _ placed)
        ∙ ap (λ m. has m x) (masks_below s.crossed (noted_scope s r) j four ∙ mask_here s.crossed (noted_scope s r) j g.0) ∙ g.1)))

    -- where the rule is noted as the book has it and the option lacks support, the line follows
    pub rule_follows : Noted b s r → b.supports r p o (standing_masks s (noted_scope s r)) ≡ false → ValidLine b s s.log (rule_line why s r p o)
    unfolding owed
    rule_follows noted lacks =
        let is = noted.scope in
        let here : p < positions b r = subst (λ c. p < positions_of c) is visited_position in
        let q = question_at (noted_scope s r) p in
        let small : o < 32 = omega (arith, stands_declared s sound q o visited_stands, sound.small q) in
        let e : owed b r p o (declared_masks s (noted_scope s r)) (standing_masks s (noted_scope s r)) ≡ true =
        and_from _ _ (lt-ltb r b.rules noted.known) (and_from _ _ (lt-ltb p (positions b r) here) (and_from _ _ (lt-ltb o 32 small)
        (and_from _ _ (holds_within_each (standing_masks s (noted_scope s r)) (declared_masks s (noted_scope s r)) (λ j x four f. rule_standing s sound (noted_scope s r) j x four f)) (ap not lacks)))) in
        let x = reasonable.explains r p o (declared_masks s (noted_scope s r)) (standing_masks s (noted_scope s r)) e in
        by_rule p refl placed here (ap (λ c. question_at c p) (sym is))
        (λ j y f. elim (cases_lt j 4) [
          | inl four ↦ (let g = reason_crossed j y four f in (
            subst (λ c. j < positions_of c) is g.0,
            ap (λ c. headed s.log (question_at c j) y) (sym is) ∙ sym (sound.heads (question_at (noted_scope s r) j) y) ∙ g.1,
          ))
          | inr more ↦ absurd (both_ways _ (ap (λ m. has m y) (get_or_past (rule_line why s r p o).reason j 0 (omega (arith, reason_four))) ∙ has_none y) f)
        ])
        (ap (λ c. b.supports r p o (less_each (declared_masks s c) (rule_line why s r p o).reason)) (sym is) ∙ x.lacks)
