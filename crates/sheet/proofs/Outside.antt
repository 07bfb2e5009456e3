-- No closed set holds a head of a valid log. Assumes nothing.
use Rattle.std.proofs.Common.{◌≡◌, ℕ, zero, suc, ◌<◌, ◌≤◌, true, false, not, ◌&&◌, eqb, List, [], ◌∷◌, ◌++◌, length, get_or, take, sym, refl, ap, ◌∙◌, ap₂, inl, inr, add-one, arith}
use Rattle.std.proofs.lemmas.List.{take_more, take_all}
use Rattle.std.proofs.lemmas.Bool.{both_ways, and_from, and_parts, or_cases, eqb-true, lt-ltb, cases_Bool}
use Rattle.terms.specs.Masks.{has, less_each, declared_each}
use Rattle.terms.specs.Scopes.{question_at, masks_at}
use Rattle.terms.specs.declared.line.Line.{Line}
use Rattle.terms.proofs.MaskLaws.{has-less, get_or-less_each}
use Rattle.terms.proofs.ScopeLaws.{masks_below, mask_here}
use Rattle.books.specs.Plain.{Plain, Supported, Lawful, positions}
use Rattle.record.specs.State.{State, no_line, headed}
use Rattle.record.specs.Sound.{Sound}
use Rattle.record.specs.Calls.{standing_each}
use Rattle.record.proofs.Heads.{headed_push}
use Rattle.sheet.specs.Settle.{declared_masks}
use Rattle.sheet.specs.Valid.{Valid, ValidLine, ValidLine.by_pick, ValidLine.by_rule}
use Rattle.sheet.specs.Closed.{Closed, Greatest}
use Rattle.sheet.proofs.Standing.{declared_has, stands}

-- a set holds none of the heads
abbrev pub Out : List ℕ → List Line → Type 0
Out set log = (q x : ℕ) → headed log q x ≡ true → has (get_or set q 0) x ≡ false

module _ (b : Plain) (lawful : Lawful b) (s : State) (sound : Sound s) (set : List ℕ) (closed : Closed b s set) where
  -- support inside the set is support under the declared options less a reason that the set holds nothing of
  widened : (r p o : ℕ) (reason : List ℕ) → ((j x : ℕ) → has (get_or reason j 0) x ≡ true → has (get_or set (question_at (b.scope r) j) 0) x ≡ false) → Supported b r p o (masks_at set (b.scope r)) → Supported b r p o (less_each (declared_masks s (b.scope r)) reason)
  widened r p o reason out u = record {
    known = u.known;
    here = u.here;
    combination = u.combination;
    long = u.long;
    options = u.options;
    allowed = u.allowed;
    takes = u.takes;
    others = λ j h n. at j h (u.others j h n);
  }
    where
      at : (j : ℕ) → j < positions b r → has (get_or (masks_at set (b.scope r)) j 0) (get_or u.combination j 0) ≡ true → has (get_or (less_each (declared_masks s (b.scope r)) reason) j 0) (get_or u.combination j 0) ≡ true
      at j h e =
          let x = get_or u.combination j 0 in
          let q = question_at (b.scope r) j in
          let four : j < 4 = omega (arith, (lawful.tied r u.known).few) in
          let in_set : has (get_or set q 0) x ≡ true = ap (λ m. has m x) (sym (masks_below set (b.scope r) j four ∙ mask_here set (b.scope r) j h)) ∙ e in
          let in_declared : has (get_or (declared_masks s (b.scope r)) j 0) x ≡ true =
          ap (λ m. has m x) (masks_below (declared_each s.count s.sizes) (b.scope r) j four ∙ mask_here (declared_each s.count s.sizes) (b.scope r) j h)
          ∙ declared_has s sound q x ∙ lt-ltb _ _ (closed q x in_set).declared in
          let not_reason : has (get_or reason j 0) x ≡ false = elim (cases_Bool (has (get_or reason j 0) x)) [ inl f ↦ absurd (both_ways _ (out j x f) in_set) | inr f ↦ f ] in
          ap (λ m. has m x) (get_or-less_each (declared_masks s (b.scope r)) reason j) ∙ has-less (get_or (declared_masks s (b.scope r)) j 0) (get_or reason j 0) x
          ∙ and_from _ _ in_declared (ap not not_reason)

  line_out : (earlier : List Line) (l : Line) → ValidLine b s earlier l → Out set earlier → has (get_or set l.question 0) l.option ≡ true → ⊥
  line_out earlier l (by_pick x kind picked other) out e = other ((closed l.question l.option e).agrees x picked)
  line_out earlier l (by_rule p kind placed here asked reason lacks) out e =
      let u = (closed l.question l.option e).supported l.rule p placed here asked in
      both_ways _ lacks (lawful.complete l.rule p l.option _ (widened l.rule p l.option l.reason (λ j x f. out _ x (reason j x f).1) u))

  pub heads_out : Valid b s → (k : ℕ) → k ≤ length s.log → Out set (take k s.log)
  unfolding headed
  heads_out v zero h q x e = absurd (both_ways _ refl e)
  heads_out v (suc k) h q x e =
      let l = get_or s.log k no_line in
      let before = heads_out v k (omega arith) in
      let is : take (suc k) s.log ≡ take k s.log ++ l ∷ [] = ap (λ n. take n s.log) (sym (add-one k)) ∙ take_more s.log k no_line (omega arith) in
      elim (or_cases (headed (take k s.log) q x) (eqb l.question q && eqb l.option x) (sym (headed_push (take k s.log) l q x) ∙ ap (λ t. headed t q x) (sym is) ∙ e)) [
        | inl f ↦ before q x f
        | inr f ↦
            (let g = and_parts (eqb l.question q) (eqb l.option x) f in
            elim (cases_Bool (has (get_or set q 0) x)) [
              | inl i ↦ absurd (line_out (take k s.log) l (v.lines k (omega arith)) before
                  (ap₂ (λ m n. has (get_or set m 0) n) (eqb-true _ _ g.0) (eqb-true _ _ g.1) ∙ i))
              | inr i ↦ i
            ])
      ]

  -- so the set lies within what stands
  pub within_standing : Valid b s → (q o : ℕ) → has (get_or set q 0) o ≡ true → has (get_or (standing_each s) q 0) o ≡ true
  within_standing v q o e = stands s sound q o (closed q o e).declared (elim (cases_Bool (has (get_or s.crossed q 0) o)) [
    | inl f ↦ absurd (both_ways _ (heads_out v (length s.log) (omega arith) q o (ap (λ t. headed t q o) (take_all (length s.log) s.log (omega arith)) ∙ sym (sound.heads q o) ∙ f)) e)
    | inr f ↦ f
  ])

pub greatest : (b : Plain) → Lawful b → (s : State) → Sound s → Valid b s → Greatest b s (standing_each s)
greatest b lawful s sound v other closed q o e = within_standing b lawful s sound other closed v q o e
