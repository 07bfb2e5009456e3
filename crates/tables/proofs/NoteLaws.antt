-- A table book without fault keeps the law of reasons. Assumes nothing.
use Rattle.std.proofs.Common.{◌≡◌, ℕ, zero, suc, ◌^◌, ◌<◌, ◌≤◌, true, false, cond, not, eqb, ◌⊎◌, List, [], ◌∷◌, length, get_or, set, is_some, Some, None, sym, refl, ap, ◌∙◌, subst, inl, inr, le_of_suc-le-suc, not-suc-le-zero, arith}
use lib.Bits.{bit_or}
use Rattle.std.proofs.lemmas.List.{length-set, get_or-set_same, get_or-set_other}
use Rattle.std.proofs.lemmas.Bool.{and_parts, or_cases, or_left, or_right, both_ways, true≢false, false≢true, cases_Bool, cases_eq, cases_lt, le-ltb, eq-eqb, eqb-true, not-true}
use Rattle.terms.specs.Masks.{has, with, less_each}
use Rattle.terms.proofs.MaskLaws.{has_none, has-with}
use Rattle.tables.specs.declared.table.TableRule.{TableRule}
use Rattle.books.specs.Reasons.{owed, no_reason, Explains, Reasonable}
use Rattle.tables.specs.Table.{option_at, run, some_row, unfit, row_supports, note_row, note_rows, table_fault, table_at, table_model, table_reasons}
use Rattle.books.proofs.OwingLaws.{owed_parts, has-less_each}
use Rattle.tables.proofs.RowLaws.{some_at, which_row, fits_each, each_fits, misfit_at, cases_unfit, some_or_none, supports_row, lacks_row, note_unfit, note_at, note_none, notes_end, notes_more}
use Rattle.tables.proofs.TableLaws.{fits_here, fits_there, table_whole, table_positions, options_below, count_within}

-- one option more in a mask

with_past : (m x : ℕ) → 32 ≤ x → with m x ≡ m
unfolding with
with_past m x h = ap (λ b. cond b (bit_or m (2 ^ x)) m) (le-ltb x 32 h)

with_cases : (m x y : ℕ) → has (with m x) y ≡ true → (has m y ≡ true) ⊎ (x ≡ y)
with_cases m x y e =
    elim (cases_lt x 32) [
      | inl l ↦
          elim (or_cases (has m y) (eqb x y) (sym (has-with m x y l) ∙ e)) [ inl f ↦ inl f | inr f ↦ inr (eqb-true x y f) ]
      | inr l ↦ inl (ap (λ k. has k y) (sym (with_past m x l)) ∙ e)
    ]

with_keeps : (m x y : ℕ) → has m y ≡ true → has (with m x) y ≡ true
with_keeps m x y e =
    elim (cases_lt x 32) [
      | inl l ↦ has-with m x y l ∙ or_left (has m y) (eqb x y) e
      | inr l ↦ ap (λ k. has k y) (with_past m x l) ∙ e
    ]

zeros : (k : ℕ) → get_or no_reason k 0 ≡ 0
zeros zero = refl
zeros (suc zero) = refl
zeros (suc (suc zero)) = refl
zeros (suc (suc (suc zero))) = refl
zeros (suc (suc (suc (suc k)))) = refl

module _ (n p o : ℕ) (declared standing : List ℕ) (small : n ≤ 4) where
  -- four masks of crossed options, empty at p and past the last position
  record Kept (reason : List ℕ) : Type 0 where
    pub four : length reason ≡ 4
    pub crossed : (k x : ℕ) → has (get_or reason k 0) x ≡ true → (has (get_or declared k 0) x ≡ true) × (has (get_or standing k 0) x ≡ false)
    pub empty : (k : ℕ) → (k ≡ p) ⊎ (n ≤ k) → get_or reason k 0 ≡ 0

  kept_none : Kept no_reason
  kept_none =
      record {
        four = refl;
        crossed = λ k x e. absurd (both_ways (has 0 x) (has_none x) (ap (λ m. has m x) (sym (zeros k)) ∙ e));
        empty = λ k h. zeros k;
      }

  -- the place of a row that fits the declared masks and not the standing ones
  place : (row j : ℕ) → unfit n p o declared row ≡ None → unfit n p o standing row ≡ Some j → (j < n) × (j ≡ p → ⊥) × (has (get_or declared j 0) (option_at row j) ≡ true) × (has (get_or standing j 0) (option_at row j) ≡ false)
  place row j e f =
      let m = misfit_at n p o standing row j f in
      let d = fits_each n p o declared row e j m.0 in
      let apart : j ≡ p → ⊥ = λ same. true≢false (sym d ∙ fits_here p o declared j (option_at row j) same ∙ sym (fits_here p o standing j (option_at row j) same) ∙ m.1) in
      (m.0, apart, sym (fits_there p o declared j (option_at row j) apart) ∙ d, sym (fits_there p o standing j (option_at row j) apart) ∙ m.1)

  kept_set : (reason : List ℕ) (j x : ℕ) → Kept reason → j < n → (j ≡ p → ⊥) → has (get_or declared j 0) x ≡ true → has (get_or standing j 0) x ≡ false → Kept (set reason j (with (get_or reason j 0) x))
  kept_set reason j x kept h apart d s =
      let l : j < length reason = omega (arith, kept.four) in
      record {
        four = length-set reason j (with (get_or reason j 0) x) ∙ kept.four;
        crossed = λ k y e.
            elim (cases_eq k j) [
              | inl same ↦
                  elim (with_cases (get_or reason j 0) x y (sym (ap (λ i. has (get_or (set reason j (with (get_or reason j 0) x)) i 0) y) same ∙ ap (λ m. has m y) (get_or-set_same reason j (with (get_or reason j 0) x) 0 l)) ∙ e)) [
                    | inl f ↦ kept.crossed k y (ap (λ i. has (get_or reason i 0) y) same ∙ f)
                    | inr f ↦ (
                      ap (λ i. has (get_or declared i 0) y) same ∙ ap (has (get_or declared j 0)) (sym f) ∙ d,
                      ap (λ i. has (get_or standing i 0) y) same ∙ ap (has (get_or standing j 0)) (sym f) ∙ s,
                    )
                  ]
              | inr other ↦ kept.crossed k y (ap (λ m. has m y) (sym (get_or-set_other reason j k (with (get_or reason j 0) x) 0 other)) ∙ e)
            ];
        empty = λ k h.
            get_or-set_other reason j k (with (get_or reason j 0) x) 0 (elim h [ inl same ↦ (λ e. apart (sym e ∙ same)) | inr past ↦ (λ e. past_it k past e) ]) ∙ kept.empty k h;
      }
    where
      past_it : (k : ℕ) → n ≤ k → k ≡ j → ⊥
      past_it k past e = omega arith

  kept_row : (reason : List ℕ) (row : ℕ) → Kept reason → Kept (note_row n p o declared standing reason row)
  kept_row reason row kept =
      elim (cases_Bool (is_some (unfit n p o declared row))) [
        | inl e ↦ subst Kept (sym (note_unfit n p o declared standing reason row e)) kept
        | inr e ↦
            elim (cases_unfit (unfit n p o standing row)) [
              | inl w ↦
                  (let a = place row w.0 (some_or_none (unfit n p o declared row) e) w.1 in
                  subst Kept (sym (note_at n p o declared standing reason row w.0 e w.1)) (kept_set reason w.0 (option_at row w.0) kept a.0 a.1 a.2 a.3))
              | inr w ↦ subst Kept (sym (note_none n p o declared standing reason row e w)) kept
            ]
      ]

  kept_rows : (reason rows : List ℕ) → Kept reason → Kept (note_rows n p o declared standing reason rows)
  kept_rows reason [] kept = subst Kept (sym (notes_end n p o declared standing reason)) kept
  kept_rows reason (row ∷ rows) kept =
      subst Kept (sym (notes_more n p o declared standing reason row rows)) (kept_rows (note_row n p o declared standing reason row) rows (kept_row reason row kept))

  -- what is noted stays
  grows_row : (reason : List ℕ) (row k y : ℕ) → Kept reason → has (get_or reason k 0) y ≡ true → has (get_or (note_row n p o declared standing reason row) k 0) y ≡ true
  grows_row reason row k y kept g =
      elim (cases_Bool (is_some (unfit n p o declared row))) [
        | inl e ↦ ap (λ r. has (get_or r k 0) y) (note_unfit n p o declared standing reason row e) ∙ g
        | inr e ↦
            elim (cases_unfit (unfit n p o standing row)) [
              | inl w ↦ ap (λ r. has (get_or r k 0) y) (note_at n p o declared standing reason row w.0 e w.1) ∙ at w.0 (option_at row w.0) (misfit_at n p o standing row w.0 w.1).0
              | inr w ↦ ap (λ r. has (get_or r k 0) y) (note_none n p o declared standing reason row e w) ∙ g
            ]
      ]
    where
      at : (j x : ℕ) → j < n → has (get_or (set reason j (with (get_or reason j 0) x)) k 0) y ≡ true
      at j x h =
          let l : j < length reason = omega (arith, kept.four) in
          elim (cases_eq k j) [
            | inl same ↦
                ap (λ i. has (get_or (set reason j (with (get_or reason j 0) x)) i 0) y) same
                ∙ ap (λ m. has m y) (get_or-set_same reason j (with (get_or reason j 0) x) 0 l)
                ∙ with_keeps (get_or reason j 0) x y (ap (λ i. has (get_or reason i 0) y) (sym same) ∙ g)
            | inr other ↦ ap (λ m. has m y) (get_or-set_other reason j k (with (get_or reason j 0) x) 0 other) ∙ g
          ]

  grows_rows : (reason rows : List ℕ) (k y : ℕ) → Kept reason → has (get_or reason k 0) y ≡ true → has (get_or (note_rows n p o declared standing reason rows) k 0) y ≡ true
  grows_rows reason [] k y kept g = ap (λ r. has (get_or r k 0) y) (notes_end n p o declared standing reason) ∙ g
  grows_rows reason (row ∷ rows) k y kept g =
      ap (λ r. has (get_or r k 0) y) (notes_more n p o declared standing reason row rows)
      ∙ grows_rows (note_row n p o declared standing reason row) rows k y (kept_row reason row kept) (grows_row reason row k y kept g)

  -- every row that fits the declared masks and not the standing ones is noted
  noted : (reason rows : List ℕ) (i j : ℕ) → Kept reason → i < length rows → unfit n p o declared (get_or rows i 0) ≡ None → unfit n p o standing (get_or rows i 0) ≡ Some j → option_at (get_or rows i 0) j < 32 → has (get_or (note_rows n p o declared standing reason rows) j 0) (option_at (get_or rows i 0) j) ≡ true
  noted reason [] i j kept h e f x = absurd (not-suc-le-zero h)
  noted reason (row ∷ rows) zero j kept h e f x =
      let l : j < length reason = omega (arith, kept.four, (misfit_at n p o standing row j f).0) in
      let y = option_at row j in
      ap (λ r. has (get_or r j 0) y) (notes_more n p o declared standing reason row rows)
      ∙ grows_rows (note_row n p o declared standing reason row) rows j y (kept_row reason row kept)
      (ap (λ r. has (get_or r j 0) y) (note_at n p o declared standing reason row j (ap is_some e) f)
      ∙ ap (λ m. has m y) (get_or-set_same reason j (with (get_or reason j 0) y) 0 l)
      ∙ has-with (get_or reason j 0) y y x
      ∙ or_right (has (get_or reason j 0) y) (eqb y y) (eq-eqb y y refl))
  noted reason (row ∷ rows) (suc i) j kept h e f x =
      ap (λ r. has (get_or r j 0) (option_at (get_or rows i 0) j)) (notes_more n p o declared standing reason row rows)
      ∙ noted (note_row n p o declared standing reason row) rows i j (kept_row reason row kept) (le_of_suc-le-suc h) e f x

  -- without the reason no row is left: one that fits the declared masks less the reason fits the standing ones
  no_row_left : (rows : List ℕ) → ((i : ℕ) → i < length rows → (j : ℕ) → j < n → option_at (get_or rows i 0) j < 32) → some_row (row_supports n p o standing) rows ≡ false → some_row (row_supports n p o (less_each declared (note_rows n p o declared standing no_reason rows))) rows ≡ false
  no_row_left rows below none =
      elim (cases_Bool (some_row (row_supports n p o (less_each declared (note_rows n p o declared standing no_reason rows))) rows)) [
        | inl e ↦ absurd (never (which_row (row_supports n p o (less_each declared (note_rows n p o declared standing no_reason rows))) rows e))
        | inr e ↦ e
      ]
    where
      never : ((i : ℕ) × (i < length rows) × (row_supports n p o (less_each declared (note_rows n p o declared standing no_reason rows)) (get_or rows i 0) ≡ true)) → ⊥
      never w =
          let reason = note_rows n p o declared standing no_reason rows in
          let left = less_each declared reason in
          let row = get_or rows w.0 0 in
          let each = fits_each n p o left row (supports_row n p o left row w.2) in
          let inside : unfit n p o declared row ≡ None =
          each_fits n p o declared row
          (λ j l.
          elim (cases_eq j p) [
            | inl same ↦ fits_here p o declared j (option_at row j) same ∙ sym (fits_here p o left j (option_at row j) same) ∙ each j l
            | inr apart ↦
                fits_there p o declared j (option_at row j) apart
                ∙ (and_parts (has (get_or declared j 0) (option_at row j)) (not (has (get_or reason j 0) (option_at row j)))
                (sym (has-less_each declared reason j (option_at row j)) ∙ sym (fits_there p o left j (option_at row j) apart) ∙ each j l)).0
          ]) in
          let out : row_supports n p o standing row ≡ false =
          elim (cases_Bool (row_supports n p o standing row)) [
            | inl f ↦ absurd (false≢true (sym none ∙ some_at (row_supports n p o standing) rows w.0 w.1 f))
            | inr f ↦ f
          ] in
          let v = lacks_row n p o standing row out in
          let j = v.0 in
          let a = place row j inside v.1 in
          let x = option_at row j in
          both_ways (has (get_or reason j 0) x)
          (not-true (has (get_or reason j 0) x)
          (and_parts (has (get_or declared j 0) x) (not (has (get_or reason j 0) x)) (sym (has-less_each declared reason j x) ∙ sym (fits_there p o left j x a.1) ∙ each j a.0)).1)
          (noted no_reason rows w.0 j kept_none w.1 inside v.1 (below w.0 w.1 j a.0))

module _ (rows : List ℕ) (rules : List TableRule) (sound : is_some (table_fault rows rules) ≡ false) where
  pub reason_owed_table : (r p o : ℕ) (declared standing : List ℕ) → true ≡ owed (table_model rows rules) r p o declared standing → table_reasons rows rules r p o declared standing ≡ note_rows (table_at rules r).scope.count p o declared standing no_reason (run rows (table_at rules r))
  unfolding table_reasons
  reason_owed_table r p o declared standing e =
      ap (λ b. elim b as (λ _. List ℕ) [ true ↦ note_rows (table_at rules r).scope.count p o declared standing no_reason (run rows (table_at rules r)) | false ↦ no_reason ]) (sym e)

  pub reason_not_owed_table : (r p o : ℕ) (declared standing : List ℕ) → false ≡ owed (table_model rows rules) r p o declared standing → table_reasons rows rules r p o declared standing ≡ no_reason
  unfolding table_reasons
  reason_not_owed_table r p o declared standing e =
      ap (λ b. elim b as (λ _. List ℕ) [ true ↦ note_rows (table_at rules r).scope.count p o declared standing no_reason (run rows (table_at rules r)) | false ↦ no_reason ]) (sym e)

  table_explains : (r p o : ℕ) (declared standing : List ℕ) → owed (table_model rows rules) r p o declared standing ≡ true → Explains (table_model rows rules) r p o declared standing (note_rows (table_at rules r).scope.count p o declared standing no_reason (run rows (table_at rules r)))
  unfolding table_model
  table_explains r p o declared standing e =
      let t = table_at rules r in
      let n = t.scope.count in
      let a = owed_parts (table_model rows rules) r p o declared standing e in
      let len = table_positions rows rules sound r a.0 in
      let small = count_within rows rules sound r in
      let here : p < n = omega (arith, a.1) in
      let reason = note_rows n p o declared standing no_reason (run rows t) in
      let kept = kept_rows n p o declared standing small no_reason (run rows t) (kept_none n p o declared standing small) in
      record {
        four = kept.four;
        crossed = kept.crossed;
        elsewhere = kept.empty p (inl refl);
        past = λ j h. kept.empty j (inr (omega arith));
        lacks = sym (table_whole rows rules sound r p o (less_each declared reason) here a.2)
            ∙ no_row_left n p o declared standing small (run rows t) (options_below rows rules sound r a.0) (table_whole rows rules sound r p o standing here a.2 ∙ a.4);
      }

  pub table_reasonable : Reasonable (table_model rows rules) (table_reasons rows rules)
  table_reasonable =
      record {
        explains = λ r p o declared standing e.
            subst (Explains (table_model rows rules) r p o declared standing) (sym (reason_owed_table r p o declared standing (sym e))) (table_explains r p o declared standing e);
        otherwise = λ r p o declared standing e. reason_not_owed_table r p o declared standing (sym e);
      }
