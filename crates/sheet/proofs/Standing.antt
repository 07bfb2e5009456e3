-- What stands: declared and not crossed. Assumes nothing.
use Rattle.std.proofs.Common.{◌≡◌, ℕ, ◌<◌, min, true, false, cond, not, ◌&&◌, ltb, get_or, sym, ap, ◌∙◌, inl, inr, arith}
use Rattle.std.proofs.lemmas.Bool.{both_ways, not-true, and_parts, and_from, ltb-true, lt-ltb, le-ltb, cases_lt, cases_Bool}
use Rattle.terms.specs.Masks.{has, declared_each, declared}
use Rattle.terms.specs.Scopes.{positions_of, question_at}
use Rattle.terms.specs.declared.scope.Scope.{Scope}
use Rattle.terms.proofs.MaskLaws.{has_none, has-less, has-declared, get_or-declared_each, get_or-less_each}
use Rattle.terms.proofs.ScopeLaws.{mask_here, mask_past, masks_below}
use Rattle.record.specs.State.{State}
use Rattle.record.specs.Sound.{Sound}
use Rattle.record.specs.Calls.{standing_each}
use Rattle.sheet.specs.Settle.{declared_masks, standing_masks}

module _ (s : State) (sound : Sound s) where
  -- a question's declared options are those below its size
  pub declared_has : (q o : ℕ) → has (get_or (declared_each s.count s.sizes) q 0) o ≡ ltb o (get_or s.sizes q 0)
  declared_has q o =
      ap (λ m. has m o) (get_or-declared_each s.count s.sizes q)
      ∙ elim (cases_lt q s.count) [
        | inl h ↦ (let e : min (get_or s.sizes q 0) 32 ≡ get_or s.sizes q 0 = omega (arith, sound.small q) in
            ap (λ b. has (cond b (declared (get_or s.sizes q 0)) 0) o) (lt-ltb q s.count h) ∙ has-declared (get_or s.sizes q 0) o ∙ ap (ltb o) e)
        | inr h ↦ ap (λ b. has (cond b (declared (get_or s.sizes q 0)) 0) o) (le-ltb q s.count h) ∙ has_none o ∙ sym (le-ltb o (get_or s.sizes q 0) (omega (arith, sound.past q h)))
      ]

  pub standing_has : (q o : ℕ) → has (get_or (standing_each s) q 0) o ≡ (ltb o (get_or s.sizes q 0) && not (has (get_or s.crossed q 0) o))
  unfolding standing_each
  standing_has q o =
      ap (λ m. has m o) (get_or-less_each (declared_each s.count s.sizes) s.crossed q)
      ∙ has-less (get_or (declared_each s.count s.sizes) q 0) (get_or s.crossed q 0) o
      ∙ ap (λ b. b && not (has (get_or s.crossed q 0) o)) (declared_has q o)

  pub stands_declared : (q o : ℕ) → has (get_or (standing_each s) q 0) o ≡ true → o < get_or s.sizes q 0
  stands_declared q o e = ltb-true _ _ (and_parts (ltb o (get_or s.sizes q 0)) (not (has (get_or s.crossed q 0) o)) (sym (standing_has q o) ∙ e)).0

  pub stands_uncrossed : (q o : ℕ) → has (get_or (standing_each s) q 0) o ≡ true → has (get_or s.crossed q 0) o ≡ false
  stands_uncrossed q o e = not-true _ (and_parts (ltb o (get_or s.sizes q 0)) (not (has (get_or s.crossed q 0) o)) (sym (standing_has q o) ∙ e)).1

  pub stands : (q o : ℕ) → o < get_or s.sizes q 0 → has (get_or s.crossed q 0) o ≡ false → has (get_or (standing_each s) q 0) o ≡ true
  stands q o h e = standing_has q o ∙ and_from _ _ (lt-ltb o (get_or s.sizes q 0) h) (ap not e)

  -- a declared option that does not stand is crossed
  pub fallen : (q o : ℕ) → has (get_or (declared_each s.count s.sizes) q 0) o ≡ true → has (get_or (standing_each s) q 0) o ≡ false → has (get_or s.crossed q 0) o ≡ true
  fallen q o d e = elim (cases_Bool (has (get_or s.crossed q 0) o)) [
    | inl f ↦ f
    | inr f ↦ absurd (both_ways _ e (stands q o (ltb-true _ _ (sym (declared_has q o) ∙ d)) f))
  ]

  -- the masks of a rule's questions, by position
  module _ (scope : Scope) (j x : ℕ) (four : j < 4) where
    pub rule_standing : has (get_or (standing_masks s scope) j 0) x ≡ true → has (get_or (declared_masks s scope) j 0) x ≡ true
    rule_standing e = elim (cases_lt j (positions_of scope)) [
      | inl h ↦
          (let q = question_at scope j in
          let here : has (get_or (standing_each s) q 0) x ≡ true = ap (λ m. has m x) (sym (masks_below (standing_each s) scope j four ∙ mask_here (standing_each s) scope j h)) ∙ e in
          ap (λ m. has m x) (masks_below (declared_each s.count s.sizes) scope j four ∙ mask_here (declared_each s.count s.sizes) scope j h)
          ∙ declared_has q x ∙ lt-ltb _ _ (stands_declared q x here))
      | inr h ↦ absurd (both_ways _ (ap (λ m. has m x) (masks_below (standing_each s) scope j four ∙ mask_past (standing_each s) scope j h) ∙ has_none x) e)
    ]

    -- declared and not standing: a position of the rule, and crossed there
    pub rule_fallen : has (get_or (declared_masks s scope) j 0) x ≡ true → has (get_or (standing_masks s scope) j 0) x ≡ false → (j < positions_of scope) × (has (get_or s.crossed (question_at scope j) 0) x ≡ true)
    rule_fallen d e = elim (cases_lt j (positions_of scope)) [
      | inl h ↦
          (let q = question_at scope j in (
            h,
            fallen q x (ap (λ m. has m x) (sym (masks_below (declared_each s.count s.sizes) scope j four ∙ mask_here (declared_each s.count s.sizes) scope j h)) ∙ d)
                (ap (λ m. has m x) (sym (masks_below (standing_each s) scope j four ∙ mask_here (standing_each s) scope j h)) ∙ e),
          ))
      | inr h ↦ absurd (both_ways _ (ap (λ m. has m x) (masks_below (declared_each s.count s.sizes) scope j four ∙ mask_past (declared_each s.count s.sizes) scope j h) ∙ has_none x) d)
    ]
