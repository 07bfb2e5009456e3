-- A line that may come next keeps what holds of a sheet. Assumes nothing.
use Rattle.std.proofs.Common.{◌≡◌, ℕ, ◌<◌, Bool, true, false, not, ◌&&◌, ◌||◌, eqb, ltb, List, [], ◌∷◌, ◌++◌, length, get_or, take, set, sym, refl, ap, ◌∙◌, subst, ap₂, inl, inr, arith}
use Rattle.std.proofs.lemmas.List.{length-set, get_or-set_same, get_or-set_other, length_push, get_or_past}
use Rattle.std.proofs.lemmas.Bool.{both_ways, not-true, and_parts, and_from, ltb-true, lt-ltb, eq-eqb, ne_eqb, cases_eq, cases_lt, cond-true, cond-false, or_left, or_right}
use Rattle.terms.specs.Masks.{has, with, within_each, with_rule}
use Rattle.terms.specs.Scopes.{positions_of, question_at, mask_at, masks_at}
use Rattle.terms.specs.declared.line.Line.{Line}
use Rattle.terms.specs.declared.scope.Scope.{Scope}
use Rattle.terms.proofs.MaskLaws.{has_none, has-with, has-with_rule, held_with, within_each_holds}
use Rattle.terms.proofs.ScopeLaws.{masks_below, mask_here, mask_past}
use Rattle.record.specs.State.{State, no_line, unscoped, headed, total}
use Rattle.record.specs.Sound.{Sound, Heads, Declared, Once, Backed, implies, grounded}
use Rattle.record.specs.Calls.{admissible, crossed_at, pushed}
use Rattle.record.proofs.Heads.{each_push, headed_push, total_set, total_le, unreasoned}

pub implied : (a b : Bool) → implies a b ≡ true → a ≡ true → b ≡ true
implied true b h e = h
implied false b h e = absurd (both_ways false refl e)

pub implying : (a b : Bool) → (a ≡ true → b ≡ true) → implies a b ≡ true
implying true b f = f refl
implying false b f = refl

-- the parts of `grounded`
pub ground : (placed : ℕ) (scopes : List Scope) (earlier : List Line) (r j x : ℕ) → has placed r ≡ true → j < positions_of (get_or scopes r unscoped) → headed earlier (question_at (get_or scopes r unscoped) j) x ≡ true → grounded placed scopes earlier r j x ≡ true
unfolding grounded
ground placed scopes earlier r j x p h e = and_from _ _ p (and_from _ _ (lt-ltb j _ h) e)

module _ (placed : ℕ) (scopes : List Scope) (earlier : List Line) (r j x : ℕ) (g : grounded placed scopes earlier r j x ≡ true) where
  parts : (has placed r ≡ true) × (ltb j (positions_of (get_or scopes r unscoped)) ≡ true) × (headed earlier (question_at (get_or scopes r unscoped) j) x ≡ true)
  unfolding grounded
  parts =
      let a = and_parts (has placed r) (ltb j (positions_of (get_or scopes r unscoped)) && headed earlier (question_at (get_or scopes r unscoped) j) x) g in
      let b = and_parts (ltb j (positions_of (get_or scopes r unscoped))) (headed earlier (question_at (get_or scopes r unscoped) j) x) a.1 in
      (a.0, b.0, b.1)

  pub ground_placed : has placed r ≡ true
  ground_placed = parts.0

  pub ground_position : j < positions_of (get_or scopes r unscoped)
  ground_position = ltb-true _ _ parts.1

  pub ground_headed : headed earlier (question_at (get_or scopes r unscoped) j) x ≡ true
  ground_headed = parts.2

-- what the crossed masks of a rule hold is grounded
pub crossed_grounded : (s : State) → Heads s.crossed s.log → (r j x : ℕ) → j < 4 → has (get_or (crossed_at s r) j 0) x ≡ true → grounded s.placed s.scopes s.log r j x ≡ true
unfolding crossed_at
crossed_grounded s heads r j x four e = by (has s.placed r) refl
  where
    scope : Scope
    scope = get_or s.scopes r unscoped

    at : has s.placed r ≡ true → has (mask_at s.crossed scope j) x ≡ true → grounded s.placed s.scopes s.log r j x ≡ true
    at p f =
        elim (cases_lt j (positions_of scope)) [
          | inl h ↦ ground s.placed s.scopes s.log r j x p h (sym (heads (question_at scope j) x) ∙ ap (λ m. has m x) (sym (mask_here s.crossed scope j h)) ∙ f)
          | inr h ↦ absurd (both_ways _ (ap (λ m. has m x) (mask_past s.crossed scope j h) ∙ has_none x) f)
        ]

    by : (b : Bool) → has s.placed r ≡ b → grounded s.placed s.scopes s.log r j x ≡ true
    by true p = at p (ap (λ m. has m x) (sym (masks_below s.crossed scope j four)) ∙ ap (λ ms. has (get_or ms j 0) x) (sym (cond-true (has s.placed r) _ _ p)) ∙ e)
    by false p = absurd (both_ways _ (unreasoned j x) (ap (λ ms. has (get_or ms j 0) x) (sym (cond-false (has s.placed r) (masks_at s.crossed scope) (0 ∷ 0 ∷ 0 ∷ 0 ∷ []) p)) ∙ e))

module _ (s : State) (sound : Sound s) (l : Line) (ok : admissible s l ≡ true) where
  tests : (ltb l.option (get_or s.sizes l.question 0) ≡ true) × (has (get_or s.crossed l.question 0) l.option ≡ false) × (within_each l.reason (crossed_at s l.rule) ≡ true)
  unfolding admissible
  tests =
      let a = and_parts (ltb l.option (get_or s.sizes l.question 0)) (not (has (get_or s.crossed l.question 0) l.option) && within_each l.reason (crossed_at s l.rule)) ok in
      let b = and_parts (not (has (get_or s.crossed l.question 0) l.option)) (within_each l.reason (crossed_at s l.rule)) a.1 in
      (a.0, not-true _ b.0, b.1)

  pub head_declared : l.option < get_or s.sizes l.question 0
  head_declared = ltb-true _ _ tests.0

  pub head_fresh : has (get_or s.crossed l.question 0) l.option ≡ false
  head_fresh = tests.1

  pub head_backed : within_each l.reason (crossed_at s l.rule) ≡ true
  head_backed = tests.2

  pub head_option : l.option < 32
  head_option = omega (arith, head_declared, sound.small l.question)

  pub head_question : l.question < 16
  head_question =
      elim (cases_lt l.question s.count) [
        | inl h ↦ omega (arith, sound.few)
        | inr h ↦ absurd (omega (arith, head_declared, sound.past l.question h))
      ]

  pub push_heads : Heads (pushed s l).crossed (pushed s l).log
  unfolding pushed
  push_heads q o =
      let m = get_or s.crossed l.question 0 in
      elim (cases_eq q l.question) [
        | inl e ↦
            ap (λ i. has (get_or (set s.crossed l.question (with m l.option)) i 0) o) e
            ∙ ap (λ n. has n o) (get_or-set_same s.crossed l.question (with m l.option) 0 (omega (arith, sound.sixteen, head_question)))
            ∙ has-with m l.option o head_option
            ∙ ap₂ ◌||◌ (ap (λ i. has (get_or s.crossed i 0) o) (sym e) ∙ sound.heads q o) (ap (λ b. b && eqb l.option o) (sym (eq-eqb l.question q (sym e))))
            ∙ sym (headed_push s.log l q o)
        | inr n ↦
            ap (λ k. has k o) (get_or-set_other s.crossed l.question q (with m l.option) 0 n)
            ∙ sound.heads q o
            ∙ sym (or_none (headed s.log q o))
            ∙ ap (λ b. headed s.log q o || (b && eqb l.option o)) (sym (ne_eqb l.question q (λ e. n (sym e))))
            ∙ sym (headed_push s.log l q o)
      ]
    where
      or_none : (a : Bool) → (a || false) ≡ a
      or_none true = refl
      or_none false = refl

  -- the head is crossed
  pub push_head : has (get_or (pushed s l).crossed l.question 0) l.option ≡ true
  unfolding pushed
  push_head =
      let m = get_or s.crossed l.question 0 in
      ap (λ n. has n l.option) (get_or-set_same s.crossed l.question (with m l.option) 0 (omega (arith, sound.sixteen, head_question)))
      ∙ has-with m l.option l.option head_option ∙ or_right (has m l.option) _ (eq-eqb _ _ refl)

  pub push_declared : Declared (pushed s l).sizes (pushed s l).log
  unfolding pushed
  push_declared = each_push s.log l (λ k x t. x.option < get_or s.sizes x.question 0) sound.declared head_declared

  pub push_once : Once (pushed s l).log
  unfolding pushed
  push_once = each_push s.log l (λ k x t. headed t x.question x.option ≡ false) sound.once (sym (sound.heads l.question l.option) ∙ head_fresh)

  pub push_counted : total (pushed s l).crossed ≡ length (pushed s l).log
  unfolding pushed
  push_counted =
      let m = get_or s.crossed l.question 0 in
      omega (arith, total_set s.crossed l.question (with m l.option) (omega (arith, sound.sixteen, head_question)), held_with m l.option head_option head_fresh, sound.counted, length_push s.log l)

  -- there is room for the line
  pub push_room : length s.log < 512
  unfolding pushed
  push_room = omega (arith, push_counted, length_push s.log l, total_le (pushed s l).crossed, length-set s.crossed l.question (with (get_or s.crossed l.question 0) l.option), sound.sixteen)

  pub push_backed : length l.reason ≡ 4 → Backed (pushed s l).placed (pushed s l).scopes (pushed s l).log
  unfolding pushed
  push_backed four k j x =
      elim (cases_lt k (length (s.log ++ l ∷ []))) [
        | inl h ↦ each_push s.log l (λ k y t. implies (has (get_or y.reason j 0) x) (grounded s.placed s.scopes t y.rule j x) ≡ true) (λ k i. sound.backed k j x) new k h
        | inr h ↦ implying _ _ (λ e. absurd (both_ways _ (unreasoned j x) (ap (λ y. has (get_or y.reason j 0) x) (sym (get_or_past (s.log ++ l ∷ []) k no_line h)) ∙ e)))
      ]
    where
      new : implies (has (get_or l.reason j 0) x) (grounded s.placed s.scopes s.log l.rule j x) ≡ true
      new = implying _ _ (λ e. elim (cases_lt j 4) [
        | inl i ↦ crossed_grounded s sound.heads l.rule j x i (within_each_holds l.reason (crossed_at s l.rule) head_backed j x i e)
        | inr i ↦ absurd (both_ways _ (ap (λ m. has m x) (get_or_past l.reason j 0 (omega arith)) ∙ has_none x) e)
      ])

  pub push_sound : length l.reason ≡ 4 → Sound (pushed s l)
  unfolding pushed
  push_sound four = record {
    some = sound.some;
    few = sound.few;
    sixteen = length-set s.crossed l.question (with (get_or s.crossed l.question 0) l.option) ∙ sound.sixteen;
    large = sound.large;
    small = sound.small;
    past = sound.past;
    picked = sound.picked;
    heads = push_heads;
    declared = push_declared;
    once = push_once;
    backed = push_backed four;
    counted = push_counted;
  }

-- a rule that is placed anew disturbs no reason
pub place_backed : (placed : ℕ) (scopes : List Scope) (log : List Line) (r : ℕ) (scope : Scope) → r < 64 → has placed r ≡ false → Backed placed scopes log → Backed (with_rule placed r) (set scopes r scope) log
place_backed placed scopes log r scope h fresh old k j x = implying _ _ (λ e. again (implied _ _ (old k j x) e))
  where
    rule : ℕ
    rule = (get_or log k no_line).rule

    again : grounded placed scopes (take k log) rule j x ≡ true → grounded (with_rule placed r) (set scopes r scope) (take k log) rule j x ≡ true
    again g =
        let p = ground_placed placed scopes (take k log) rule j x g in
        let other : rule ≡ r → ⊥ = λ same. both_ways _ fresh (ap (has placed) (sym same) ∙ p) in
        let same : get_or (set scopes r scope) rule unscoped ≡ get_or scopes rule unscoped = get_or-set_other scopes r rule scope unscoped other in
        ground (with_rule placed r) (set scopes r scope) (take k log) rule j x
        (has-with_rule placed r rule h ∙ or_left (has placed rule) (eqb r rule) p)
        (subst (λ s. j < positions_of s) (sym same) (ground_position placed scopes (take k log) rule j x g))
        (subst (λ s. headed (take k log) (question_at s j) x ≡ true) (sym same) (ground_headed placed scopes (take k log) rule j x g))
