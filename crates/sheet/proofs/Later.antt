-- Steps of settling: each leaves a state as it was or writes a line, and uncrosses nothing. Assumes nothing.
use Rattle.std.proofs.Common.{◌≡◌, ℕ, zero, suc, ◌<◌, ◌≤◌, true, ◌⊎◌, length, get_or, set, sym, refl, ap, ◌∙◌, subst, inl, inr, not-suc-le-zero, arith}
use Rattle.std.proofs.lemmas.List.{length_push, get_or-set_same, get_or-set_other, set_past}
use Rattle.std.proofs.lemmas.Bool.{cases_eq, cases_lt}
use Rattle.terms.specs.Masks.{has, with}
use Rattle.terms.specs.declared.line.Line.{Line}
use Rattle.terms.proofs.MaskLaws.{with_keeps}
use Rattle.record.specs.State.{State}
use Rattle.record.specs.Calls.{pushed}
use Rattle.sheet.specs.Settle.{upto}

pub record Later (s t : State) : Type 0 where
  pub count : t.count ≡ s.count
  pub sizes : t.sizes ≡ s.sizes
  pub picks : t.picks ≡ s.picks
  pub placed : t.placed ≡ s.placed
  pub scopes : t.scopes ≡ s.scopes
  pub crossed : (q o : ℕ) → has (get_or s.crossed q 0) o ≡ true → has (get_or t.crossed q 0) o ≡ true
  pub grows : (t ≡ s) ⊎ (length s.log < length t.log)

pub later_same : (s : State) → Later s s
later_same s = record { count = refl; sizes = refl; picks = refl; placed = refl; scopes = refl; crossed = λ q o e. e; grows = inl refl }

pub later_lines : (s t : State) → Later s t → length s.log ≤ length t.log
later_lines s t l = elim l.grows [ inl e ↦ omega (arith, ap (λ x. length x.log) e) | inr h ↦ omega arith ]

-- a state with no more lines is the same
pub later_still : (s t : State) → Later s t → length t.log ≤ length s.log → t ≡ s
later_still s t l h = elim l.grows [ inl e ↦ e | inr i ↦ absurd (omega arith) ]

pub later_on : (s t u : State) → Later s t → Later t u → Later s u
later_on s t u a b = record {
  count = b.count ∙ a.count;
  sizes = b.sizes ∙ a.sizes;
  picks = b.picks ∙ a.picks;
  placed = b.placed ∙ a.placed;
  scopes = b.scopes ∙ a.scopes;
  crossed = λ q o e. b.crossed q o (a.crossed q o e);
  grows = elim b.grows [
    | inl e ↦ elim a.grows [ inl f ↦ inl (e ∙ f) | inr h ↦ inr (omega (arith, ap (λ x. length x.log) e)) ]
    | inr h ↦ inr (omega (arith, later_lines s t a))
  ];
}

pub later_push : (s : State) (l : Line) → Later s (pushed s l)
unfolding pushed
later_push s l = record {
  count = refl;
  sizes = refl;
  picks = refl;
  placed = refl;
  scopes = refl;
  crossed = λ q o e. mono q o e;
  grows = inr (omega (arith, length_push s.log l));
}
  where
    m : ℕ
    m = with (get_or s.crossed l.question 0) l.option

    mono : (q o : ℕ) → has (get_or s.crossed q 0) o ≡ true → has (get_or (set s.crossed l.question m) q 0) o ≡ true
    mono q o e = elim (cases_eq q l.question) [
      | inl f ↦ elim (cases_lt l.question (length s.crossed)) [
        | inl h ↦ ap (λ k. has (get_or (set s.crossed l.question m) k 0) o) f ∙ ap (λ k. has k o) (get_or-set_same s.crossed l.question m 0 h)
            ∙ with_keeps (get_or s.crossed l.question 0) l.option o (ap (λ k. has (get_or s.crossed k 0) o) (sym f) ∙ e)
        | inr h ↦ ap (λ cs. has (get_or cs q 0) o) (set_past s.crossed l.question m h) ∙ e
      ]
      | inr n ↦ ap (λ k. has k o) (get_or-set_other s.crossed l.question q m 0 n) ∙ e
    ]

module _ (f : ℕ → State → State) (later : (i : ℕ) (s : State) → Later s (f i s)) where
  pub upto_later : (n : ℕ) (s : State) → Later s (upto f n s)
  unfolding upto
  upto_later zero s = later_same s
  upto_later (suc n) s = later_on s (upto f n s) (f n (upto f n s)) (upto_later n s) (later n (upto f n s))

  -- where all steps together write nothing, each leaves the state as it was
  pub upto_still : (n : ℕ) (s : State) → length (upto f n s).log ≤ length s.log → (i : ℕ) → i < n → f i s ≡ s
  unfolding upto
  upto_still zero s h i l = absurd (not-suc-le-zero l)
  upto_still (suc n) s h i l = elim (cases_eq i n) [ inl e ↦ ap (λ k. f k s) e ∙ here | inr e ↦ upto_still n s (omega (arith, before)) i (omega arith) ]
    where
      t : State
      t = upto f n s

      before : length t.log ≤ length s.log
      before = omega (arith, later_lines t (f n t) (later n t))

      same : t ≡ s
      same = later_still s t (upto_later n s) before

      here : f n s ≡ s
      here = later_still s (f n s) (later n s) (subst (λ x. length (f n x).log ≤ length s.log) same h)

-- what every step keeps, all of them keep
pub upto_keeps : (P : State → Type 0) (f : ℕ → State → State) (n : ℕ) → ((i : ℕ) → i < n → (s : State) → P s → P (f i s)) → (s : State) → P s → P (upto f n s)
unfolding upto
upto_keeps P f zero k s p = p
upto_keeps P f (suc n) k s p = k n (omega arith) (upto f n s) (upto_keeps P f n (λ i h. k i (omega arith)) s p)
