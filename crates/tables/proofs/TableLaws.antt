-- A table book without fault keeps the laws of books. Assumes nothing.
use Rattle.std.proofs.Common.{◌≡◌, ℕ, ◌+◌, ◌<◌, ◌≤◌, Bool, true, false, not, ◌&&◌, eqb, ltb, leb, List, length, get_or, is_some, sym, refl, ap, ◌∙◌, subst, inl, inr, arith}
use Rattle.std.specs.List.{AllByRecursion as All}
use Rattle.std.proofs.ByRecursion.{All-get_or}
use Rattle.std.proofs.lemmas.List.{get_or_past}
use Rattle.std.proofs.lemmas.Bool.{and_parts, cases_eq, cases_lt, lt-ltb, ltb-true, leb-true, eq-eqb, ne_eqb, eqb-true}
use Rattle.terms.specs.Masks.{has}
use Rattle.terms.specs.declared.refusal.Refusal.TheVariants.{BadRows}
use Rattle.tables.specs.declared.table.TableRule.{TableRule}
use Rattle.books.specs.Plain.{Supported, Lawful, positions}
use Rattle.books.specs.Questions.{fits, rules_fault}
use Rattle.tables.specs.Table.{option_at, options_of, same_options, some_row, all_rows, run, fits_at, row_supports, sound_row, sound_run, bad_rows, table_fault, no_table, table_at, table_model}
use Rattle.books.proofs.QuestionLaws.{no_fault, all_pass, faultless, fits_parts, tied}
use Rattle.tables.proofs.RowLaws.{length_options, get_or_options, same_self, same_true, some_at, which_row, all_at, fits_each, each_fits, supports_row, sound_options}

-- x at p is o, and elsewhere in the mask
pub fits_here : (p o : ℕ) (masks : List ℕ) (j x : ℕ) → j ≡ p → fits_at p o masks j x ≡ eqb x o
fits_here p o masks j x same = ap (λ b. elim b as (λ _. Bool) [ true ↦ eqb x o | false ↦ has (get_or masks j 0) x ]) (eq-eqb j p same)

pub fits_there : (p o : ℕ) (masks : List ℕ) (j x : ℕ) → (j ≡ p → ⊥) → fits_at p o masks j x ≡ has (get_or masks j 0) x
fits_there p o masks j x apart = ap (λ b. elim b as (λ _. Bool) [ true ↦ eqb x o | false ↦ has (get_or masks j 0) x ]) (ne_eqb j p apart)

module _ (rows : List ℕ) (rules : List TableRule) (sound : is_some (table_fault rows rules) ≡ false) where
  both : (is_some (rules_fault (λ t. t.scope) 1 4 rules) ≡ false) × (is_some (bad_rows rows 0 rules) ≡ false)
  unfolding table_fault
  both = no_fault (rules_fault (λ t. t.scope) 1 4 rules) (bad_rows rows 0 rules) sound

  fit : (length rules ≤ 64) × All (λ t. fits 1 4 t.scope ≡ true) rules
  fit = faultless (λ t. t.scope) 1 4 rules both.0

  pub table_few : length rules ≤ 64
  table_few = fit.0

  fit_at : (r : ℕ) → r < length rules → fits 1 4 (table_at rules r).scope ≡ true
  fit_at r h = All-get_or (λ t. fits 1 4 t.scope ≡ true) rules r no_table h fit.1

  sound_at_rule : (r : ℕ) → r < length rules → sound_run rows (table_at rules r) ≡ true
  unfolding bad_rows
  sound_at_rule r h = All-get_or (λ t. sound_run rows t ≡ true) rules r no_table h (all_pass (sound_run rows) BadRows 0 rules both.1)

  -- a rule that is lacked has no questions and no rows
  lacked : (r : ℕ) → length rules ≤ r → table_at rules r ≡ no_table
  lacked r h = get_or_past rules r no_table h

  pub count_within : (r : ℕ) → (table_at rules r).scope.count ≤ 4
  count_within r =
      elim (cases_lt r (length rules)) [
        | inl l ↦ omega (arith, (fits_parts 1 4 (table_at rules r).scope (fit_at r l)).1)
        | inr l ↦ subst (λ t. t.scope.count ≤ 4) (sym (lacked r l)) (omega arith)
      ]

  pub run_within : (r : ℕ) → (table_at rules r).first + (table_at rules r).count ≤ length rows
  unfolding sound_run
  run_within r =
      elim (cases_lt r (length rules)) [
        | inl l ↦ leb-true ((table_at rules r).first + (table_at rules r).count) (length rows) (and_parts (leb ((table_at rules r).first + (table_at rules r).count) (length rows)) _ (sound_at_rule r l)).0
        | inr l ↦ subst (λ t. t.first + t.count ≤ length rows) (sym (lacked r l)) (omega arith)
      ]

  pub some_position : (r p : ℕ) → p < (table_at rules r).scope.count → r < length rules
  some_position r p h =
      elim (cases_lt r (length rules)) [
        | inl l ↦ l
        | inr l ↦ absurd (none (subst (λ t. p < t.scope.count) (lacked r l) h))
      ]
    where
      none : p < 0 → ⊥
      none h = omega arith

  pub table_positions : (r : ℕ) → r < length rules → positions (table_model rows rules) r ≡ (table_at rules r).scope.count
  unfolding table_model
  table_positions r h = (fits_parts 1 4 (table_at rules r).scope (fit_at r h)).2

  pub options_below : (r : ℕ) → r < length rules → (i : ℕ) → i < length (run rows (table_at rules r)) → (j : ℕ) → j < (table_at rules r).scope.count → option_at (get_or (run rows (table_at rules r)) i 0) j < 32
  unfolding sound_run
  options_below r h i l j k =
      let t = table_at rules r in
      let e = (and_parts (leb (t.first + t.count) (length rows)) (all_rows (sound_row t.scope.count) (run rows t)) (sound_at_rule r h)).1 in
      sound_options 4 t.scope.count (get_or (run rows t) i 0) (all_at (sound_row t.scope.count) (run rows t) e i l) j (omega (arith, count_within r)) k

  pub table_parts : (r p o : ℕ) (masks : List ℕ) → (table_model rows rules).supports r p o masks ≡ true → (p < (table_at rules r).scope.count) × (o < 32) × (some_row (row_supports (table_at rules r).scope.count p o masks) (run rows (table_at rules r)) ≡ true)
  unfolding table_model
  table_parts r p o masks e =
      let a = and_parts (ltb p (table_at rules r).scope.count) _ e in
      let b = and_parts (ltb o 32) _ a.1 in
      (ltb-true p (table_at rules r).scope.count a.0, ltb-true o 32 b.0, b.1)

  pub table_whole : (r p o : ℕ) (masks : List ℕ) → p < (table_at rules r).scope.count → o < 32 → some_row (row_supports (table_at rules r).scope.count p o masks) (run rows (table_at rules r)) ≡ (table_model rows rules).supports r p o masks
  unfolding table_model
  table_whole r p o masks h l =
      let S = some_row (row_supports (table_at rules r).scope.count p o masks) (run rows (table_at rules r)) in
      sym (ap (λ b. b && (ltb o 32 && S)) (lt-ltb p (table_at rules r).scope.count h) ∙ ap (λ b. b && S) (lt-ltb o 32 l))

  pub table_sound : (r p o : ℕ) (masks : List ℕ) → (table_model rows rules).supports r p o masks ≡ true → Supported (table_model rows rules) r p o masks
  unfolding table_model
  table_sound r p o masks e =
      let t = table_at rules r in
      let n = t.scope.count in
      let a = table_parts r p o masks e in
      let h = some_position r p a.0 in
      let len = table_positions r h in
      let w = which_row (row_supports n p o masks) (run rows t) a.2 in
      let row = get_or (run rows t) w.0 0 in
      let each = fits_each n p o masks row (supports_row n p o masks row w.2) in
      record {
        known = h;
        here = omega (arith, a.0);
        combination = options_of n row;
        long = length_options n row ∙ sym len;
        options = λ j l. subst (λ x. x < 32) (sym (get_or_options n row j (omega arith))) (options_below r h w.0 w.1 j (omega arith));
        allowed = some_at (λ row. same_options (options_of n row) (options_of n (get_or (run rows t) w.0 0))) (run rows t) w.0 w.1 (same_self (options_of n row));
        takes = get_or_options n row p a.0 ∙ eqb-true (option_at row p) o (sym (fits_here p o masks p (option_at row p) refl) ∙ each p a.0);
        others = λ j l apart.
            ap (has (get_or masks j 0)) (get_or_options n row j (omega arith)) ∙ sym (fits_there p o masks j (option_at row j) apart) ∙ each j (omega arith);
      }

  pub table_complete : (r p o : ℕ) (masks : List ℕ) → Supported (table_model rows rules) r p o masks → (table_model rows rules).supports r p o masks ≡ true
  unfolding table_model
  table_complete r p o masks s =
      let t = table_at rules r in
      let n = t.scope.count in
      let len = table_positions r s.known in
      let c = s.combination in
      let here : p < n = omega (arith, s.here) in
      let o_is : get_or c p 0 ≡ o = s.takes in
      let k : o < 32 = subst (λ x. x < 32) o_is (s.options p s.here) in
      let w = which_row (λ row. same_options (options_of n row) c) (run rows t) s.allowed in
      let row = get_or (run rows t) w.0 0 in
      let same : options_of n row ≡ c = same_true (options_of n row) c w.2 in
      let read : (j : ℕ) → j < n → option_at row j ≡ get_or c j 0 = λ j l. sym (get_or_options n row j l) ∙ ap (λ xs. get_or xs j 0) same in
      sym (table_whole r p o masks here k)
      ∙ some_at (row_supports n p o masks) (run rows t) w.0 w.1
      (ap (λ u. not (is_some u))
      (each_fits n p o masks row
      (λ j l.
      elim (cases_eq j p) [
        | inl e ↦ fits_here p o masks j (option_at row j) e ∙ eq-eqb (option_at row j) o (read j l ∙ ap (λ i. get_or c i 0) e ∙ o_is)
        | inr e ↦ fits_there p o masks j (option_at row j) e ∙ ap (has (get_or masks j 0)) (read j l) ∙ s.others j (omega arith) e
      ])))

  pub table_lawful : Lawful (table_model rows rules)
  unfolding table_model
  table_lawful =
      record {
        few = table_few;
        tied = λ r l. tied 1 4 (table_at rules r).scope (omega arith) (fit_at r l);
        lacks = λ r l. ap (λ t. t.scope) (lacked r l);
        sound = table_sound;
        complete = table_complete;
      }
