-- What rows of a table hold, and how the tests on them go. Assumes nothing.
use Rattle.std.proofs.Common.{◌≡◌, ℕ, zero, suc, ◌+◌, ◌*◌, ◌/◌, ◌%◌, ◌^◌, ◌<◌, Bool, true, false, cond, not, ◌&&◌, eqb, ltb, ◌⊎◌, List, [], ◌∷◌, length, get_or, set, is_some, Some, None, Option, sym, refl, ap, ◌∙◌, subst, inl, inr, le_of_suc-le-suc, not-suc-le-zero, div-one, add-one, add-zero, zero-add, arith, shr-shr}
use Rattle.std.specs.List.{list_all, find, range_with_len}
use Rattle.std.proofs.lemmas.Bool.{and_parts, and_from, cases_Bool, cases_eq, true≢false, false≢true, lt-ltb, ltb-true, eq-eqb, eqb-true}
use Rattle.terms.specs.Masks.{with}
use Rattle.tables.specs.Table.{option_at, options_of, same_options, some_row, all_rows, fits_at, unfit, row_supports, sound_at, sound_upto, sound_row, note_row, note_rows}

-- as the code reads it: shifted down, the lowest byte
pub option_shifted : (row p : ℕ) → option_at row p ≡ row / 2 ^ (8 * p) % 256
unfolding option_at
option_shifted row zero = ap (λ x. x % 256) (sym (div-one row))
option_shifted row (suc p) =
    let e : 8 + 8 * p ≡ 8 * suc p = omega arith in
    option_shifted (row / 256) p ∙ ap (λ x. x % 256) (shr-shr row 8 (8 * p) ∙ ap (λ k. row / 2 ^ k) e)

pub length_options : (n row : ℕ) → length (options_of n row) ≡ n
unfolding options_of
length_options zero row = refl
length_options (suc n) row = ap suc (length_options n (row / 256))

pub get_or_options : (n row j : ℕ) → j < n → get_or (options_of n row) j 0 ≡ option_at row j
unfolding options_of option_at
get_or_options zero row j h = absurd (not-suc-le-zero h)
get_or_options (suc n) row zero h = refl
get_or_options (suc n) row (suc j) h = get_or_options n (row / 256) j (le_of_suc-le-suc h)

pub same_self : (xs : List ℕ) → same_options xs xs ≡ true
unfolding same_options
same_self [] = refl
same_self (x ∷ xs) = and_from (eqb x x) (same_options xs xs) (eq-eqb x x refl) (same_self xs)

pub same_true : (xs ys : List ℕ) → same_options xs ys ≡ true → xs ≡ ys
unfolding same_options
same_true [] [] e = refl
same_true [] (y ∷ ys) e = absurd (false≢true e)
same_true (x ∷ xs) [] e = absurd (false≢true e)
same_true (x ∷ xs) (y ∷ ys) e =
    let p = and_parts (eqb x y) (same_options xs ys) e in
    ap (λ z. z ∷ xs) (eqb-true x y p.0) ∙ ap (λ zs. y ∷ zs) (same_true xs ys p.1)

-- some row, every row

pub some_here : (test : ℕ → Bool) (row : ℕ) (rows : List ℕ) → test row ≡ true → some_row test (row ∷ rows) ≡ true
unfolding some_row
some_here test row rows e = ap (λ b. elim b as (λ _. Bool) [ true ↦ true | false ↦ some_row test rows ]) e

pub some_later : (test : ℕ → Bool) (row : ℕ) (rows : List ℕ) → test row ≡ false → some_row test (row ∷ rows) ≡ some_row test rows
unfolding some_row
some_later test row rows e = ap (λ b. elim b as (λ _. Bool) [ true ↦ true | false ↦ some_row test rows ]) e

pub some_none : (test : ℕ → Bool) → some_row test [] ≡ false
unfolding some_row
some_none test = refl

pub some_at : (test : ℕ → Bool) (rows : List ℕ) (i : ℕ) → i < length rows → test (get_or rows i 0) ≡ true → some_row test rows ≡ true
some_at test [] i h e = absurd (not-suc-le-zero h)
some_at test (row ∷ rows) zero h e = some_here test row rows e
some_at test (row ∷ rows) (suc i) h e =
    elim (cases_Bool (test row)) [
      | inl f ↦ some_here test row rows f
      | inr f ↦ some_later test row rows f ∙ some_at test rows i (le_of_suc-le-suc h) e
    ]

pub which_row : (test : ℕ → Bool) (rows : List ℕ) → some_row test rows ≡ true → (i : ℕ) × (i < length rows) × (test (get_or rows i 0) ≡ true)
which_row test [] e = absurd (false≢true (sym (some_none test) ∙ e))
which_row test (row ∷ rows) e =
    elim (cases_Bool (test row)) [
      | inl f ↦ (0, omega arith, f)
      | inr f ↦ (let w = which_row test rows (sym (some_later test row rows f) ∙ e) in (suc w.0, omega (arith, w.1), w.2))
    ]

pub all_fails : (test : ℕ → Bool) (row : ℕ) (rows : List ℕ) → test row ≡ false → all_rows test (row ∷ rows) ≡ false
unfolding all_rows
all_fails test row rows e = ap (λ b. elim b as (λ _. Bool) [ true ↦ all_rows test rows | false ↦ false ]) e

pub all_later : (test : ℕ → Bool) (row : ℕ) (rows : List ℕ) → test row ≡ true → all_rows test (row ∷ rows) ≡ all_rows test rows
unfolding all_rows
all_later test row rows e = ap (λ b. elim b as (λ _. Bool) [ true ↦ all_rows test rows | false ↦ false ]) e

pub all_none : (test : ℕ → Bool) → all_rows test [] ≡ true
unfolding all_rows
all_none test = refl

pub all_in : (test : ℕ → Bool) (rows : List ℕ) → list_all test rows ≡ all_rows test rows
all_in test [] = sym (all_none test)
all_in test (row ∷ rows) =
    elim (cases_Bool (test row)) [
      | inl e ↦ ap (λ b. b && list_all test rows) e ∙ all_in test rows ∙ sym (all_later test row rows e)
      | inr e ↦ ap (λ b. b && list_all test rows) e ∙ sym (all_fails test row rows e)
    ]

pub all_at : (test : ℕ → Bool) (rows : List ℕ) → all_rows test rows ≡ true → (i : ℕ) → i < length rows → test (get_or rows i 0) ≡ true
all_at test [] e i h = absurd (not-suc-le-zero h)
all_at test (row ∷ rows) e zero h =
    elim (cases_Bool (test row)) [ inl f ↦ f | inr f ↦ absurd (true≢false (sym e ∙ all_fails test row rows f)) ]
all_at test (row ∷ rows) e (suc i) h =
    elim (cases_Bool (test row)) [
      | inl f ↦ all_at test rows (sym (all_later test row rows f) ∙ e) i (le_of_suc-le-suc h)
      | inr f ↦ absurd (true≢false (sym e ∙ all_fails test row rows f))
    ]

-- where a row does not fit

abbrev or_else : Option ℕ → Option ℕ → Option ℕ
or_else (Some j) u = Some j
or_else None u = u

pub unfit_more : (n p o : ℕ) (masks : List ℕ) (row : ℕ) → unfit n p o masks row ≡ None → fits_at p o masks n (option_at row n) ≡ true → unfit (suc n) p o masks row ≡ None
unfolding unfit
unfit_more n p o masks row e f =
    ap (λ u. elim u as (λ _. Option ℕ) [ Some j ↦ Some j | None ↦ elim (fits_at p o masks n (option_at row n)) as (λ _. Option ℕ) [ true ↦ None | false ↦ Some n ] ]) e
    ∙ ap (λ b. elim b as (λ _. Option ℕ) [ true ↦ None | false ↦ Some n ]) f

pub unfit_here : (n p o : ℕ) (masks : List ℕ) (row : ℕ) → unfit n p o masks row ≡ None → fits_at p o masks n (option_at row n) ≡ false → unfit (suc n) p o masks row ≡ Some n
unfolding unfit
unfit_here n p o masks row e f =
    ap (λ u. elim u as (λ _. Option ℕ) [ Some j ↦ Some j | None ↦ elim (fits_at p o masks n (option_at row n)) as (λ _. Option ℕ) [ true ↦ None | false ↦ Some n ] ]) e
    ∙ ap (λ b. elim b as (λ _. Option ℕ) [ true ↦ None | false ↦ Some n ]) f

pub unfit_before : (n p o : ℕ) (masks : List ℕ) (row j : ℕ) → unfit n p o masks row ≡ Some j → unfit (suc n) p o masks row ≡ Some j
unfolding unfit
unfit_before n p o masks row j e =
    ap (λ u. elim u as (λ _. Option ℕ) [ Some j ↦ Some j | None ↦ elim (fits_at p o masks n (option_at row n)) as (λ _. Option ℕ) [ true ↦ None | false ↦ Some n ] ]) e

pub unfit_none : (p o : ℕ) (masks : List ℕ) (row : ℕ) → unfit 0 p o masks row ≡ None
unfolding unfit
unfit_none p o masks row = refl

-- the first misfit stays the first
pub unfit_past : (m k p o : ℕ) (masks : List ℕ) (row j : ℕ) → unfit m p o masks row ≡ Some j → unfit (k + m) p o masks row ≡ Some j
unfit_past m zero p o masks row j e = let z : 0 + m ≡ m = omega arith in ap (λ n. unfit n p o masks row) z ∙ e
unfit_past m (suc k) p o masks row j e =
    let z : suc k + m ≡ suc (k + m) = omega arith in
    ap (λ n. unfit n p o masks row) z ∙ unfit_before (k + m) p o masks row j (unfit_past m k p o masks row j e)

pub cases_unfit : (u : Option ℕ) → ((j : ℕ) × (u ≡ Some j)) ⊎ (u ≡ None)
cases_unfit (Some j) = inl (j, refl)
cases_unfit None = inr refl

abbrev lacks_at : ℕ → ℕ → List ℕ → ℕ → ℕ → Bool
lacks_at p o masks row j = not (fits_at p o masks j (option_at row j))

-- the positions from a on, one by one
unfit_from : (p o : ℕ) (masks : List ℕ) (row a n : ℕ) → or_else (unfit a p o masks row) (find (lacks_at p o masks row) (range_with_len a n)) ≡ unfit (a + n) p o masks row
unfit_from p o masks row a zero = or_none (unfit a p o masks row) ∙ ap (λ k. unfit k p o masks row) (sym (add-zero a))
  where
    or_none : (u : Option ℕ) → or_else u None ≡ u
    or_none (Some j) = refl
    or_none None = refl
unfit_from p o masks row a (suc n) =
    elim (cases_unfit (unfit a p o masks row)) [
      | inl w ↦
          ap (λ u. or_else u (find (lacks_at p o masks row) (range_with_len a (suc n)))) w.1
          ∙ sym (unfit_past a (suc n) p o masks row w.0 w.1)
          ∙ ap (λ k. unfit k p o masks row) (omega arith)
      | inr w ↦
          ap (λ u. or_else u (find (lacks_at p o masks row) (range_with_len a (suc n)))) w
          ∙ elim (cases_Bool (fits_at p o masks a (option_at row a))) [
            | inl f ↦
                ap (λ b. cond (not b) (Some a) (find (lacks_at p o masks row) (range_with_len (a + 1) n))) f
                ∙ ap (λ u. or_else u (find (lacks_at p o masks row) (range_with_len (a + 1) n))) (sym (ap (λ k. unfit k p o masks row) (add-one a) ∙ unfit_more a p o masks row w f))
                ∙ unfit_from p o masks row (a + 1) n
                ∙ ap (λ k. unfit k p o masks row) (omega arith)
            | inr f ↦
                ap (λ b. cond (not b) (Some a) (find (lacks_at p o masks row) (range_with_len (a + 1) n))) f
                ∙ sym (unfit_past (suc a) n p o masks row a (unfit_here a p o masks row w f))
                ∙ ap (λ k. unfit k p o masks row) (omega arith)
          ]
    ]

pub unfit_in : (n p o : ℕ) (masks : List ℕ) (row : ℕ) → find (λ j. not (fits_at p o masks j (option_at row j))) (range_with_len 0 n) ≡ unfit n p o masks row
unfit_in n p o masks row =
    ap (λ u. or_else u (find (λ j. not (fits_at p o masks j (option_at row j))) (range_with_len 0 n))) (sym (unfit_none p o masks row))
    ∙ unfit_from p o masks row 0 n
    ∙ ap (λ k. unfit k p o masks row) (zero-add n)

-- it fits at every position
pub fits_each : (n p o : ℕ) (masks : List ℕ) (row : ℕ) → unfit n p o masks row ≡ None → (j : ℕ) → j < n → fits_at p o masks j (option_at row j) ≡ true
fits_each zero p o masks row e j h = absurd (not-suc-le-zero h)
fits_each (suc n) p o masks row e j h =
    elim (cases_unfit (unfit n p o masks row)) [
      | inl w ↦ absurd (never w.0 (sym (unfit_before n p o masks row w.0 w.1) ∙ e))
      | inr w ↦
          elim (cases_Bool (fits_at p o masks n (option_at row n))) [
            | inl f ↦
                elim (cases_eq j n) [
                  | inl same ↦ ap (λ i. fits_at p o masks i (option_at row i)) same ∙ f
                  | inr apart ↦ fits_each n p o masks row w j (omega arith)
                ]
            | inr f ↦ absurd (never n (sym (unfit_here n p o masks row w f) ∙ e))
          ]
    ]
  where
    never : (j : ℕ) → Some j ≡ None → ⊥
    never j e = let z : ◌≡◌ {A = ℕ} 0 1 = cc in omega arith

pub each_fits : (n p o : ℕ) (masks : List ℕ) (row : ℕ) → ((j : ℕ) → j < n → fits_at p o masks j (option_at row j) ≡ true) → unfit n p o masks row ≡ None
each_fits zero p o masks row f = unfit_none p o masks row
each_fits (suc n) p o masks row f = unfit_more n p o masks row (each_fits n p o masks row (λ j h. f j (omega arith))) (f n (omega arith))

pub misfit_at : (n p o : ℕ) (masks : List ℕ) (row j : ℕ) → unfit n p o masks row ≡ Some j → (j < n) × (fits_at p o masks j (option_at row j) ≡ false)
misfit_at zero p o masks row j e = absurd (never j (sym e ∙ unfit_none p o masks row))
  where
    never : (j : ℕ) → Some j ≡ None → ⊥
    never j e = let z : ◌≡◌ {A = ℕ} 0 1 = cc in omega arith
misfit_at (suc n) p o masks row j e =
    elim (cases_unfit (unfit n p o masks row)) [
      | inl w ↦
          (let same : w.0 ≡ j = one w.0 j (sym (unfit_before n p o masks row w.0 w.1) ∙ e) in
          let i = misfit_at n p o masks row j (w.1 ∙ ap Some same) in
          (omega (arith, i.0), i.1))
      | inr w ↦
          elim (cases_Bool (fits_at p o masks n (option_at row n))) [
            | inl f ↦ absurd (never j (sym e ∙ unfit_more n p o masks row w f))
            | inr f ↦
                (let same : n ≡ j = one n j (sym (unfit_here n p o masks row w f) ∙ e) in
                (omega arith, ap (λ i. fits_at p o masks i (option_at row i)) (sym same) ∙ f))
          ]
    ]
  where
    never : (j : ℕ) → Some j ≡ None → ⊥
    never j e = let z : ◌≡◌ {A = ℕ} 0 1 = cc in omega arith

    one : (i j : ℕ) → Some i ≡ Some j → i ≡ j
    one i j e = cc

-- supported or not, as the first misfit has it
pub supports_row : (n p o : ℕ) (masks : List ℕ) (row : ℕ) → row_supports n p o masks row ≡ true → unfit n p o masks row ≡ None
supports_row n p o masks row e =
    elim (cases_unfit (unfit n p o masks row)) [
      | inl w ↦ absurd (true≢false (sym e ∙ ap (λ u. not (is_some u)) w.1))
      | inr w ↦ w
    ]

pub lacks_row : (n p o : ℕ) (masks : List ℕ) (row : ℕ) → row_supports n p o masks row ≡ false → (j : ℕ) × (unfit n p o masks row ≡ Some j)
lacks_row n p o masks row e =
    elim (cases_unfit (unfit n p o masks row)) [
      | inl w ↦ w
      | inr w ↦ absurd (false≢true (sym e ∙ ap (λ u. not (is_some u)) w))
    ]

-- rows that are sound

pub sound_more : (k n row : ℕ) → sound_upto k n row ≡ true → sound_upto (k + 1) n row ≡ sound_at n k (option_at row k)
unfolding sound_upto
sound_more k n row e =
    ap (λ j. sound_upto j n row) (add-one k) ∙ ap (λ b. elim b as (λ _. Bool) [ true ↦ sound_at n k (option_at row k) | false ↦ false ]) e

sound_stays : (k n row : ℕ) → sound_upto k n row ≡ false → sound_upto (suc k) n row ≡ false
unfolding sound_upto
sound_stays k n row e = ap (λ b. elim b as (λ _. Bool) [ true ↦ sound_at n k (option_at row k) | false ↦ false ]) e

pub sound_in : (n row : ℕ) → list_all (λ k. sound_at n k (option_at row k)) (range_with_len 0 4) ≡ sound_row n row
unfolding sound_upto
sound_in n row = at (sound_at n 0 (option_at row 0)) (sound_at n 1 (option_at row 1)) (sound_at n 2 (option_at row 2)) (sound_at n 3 (option_at row 3))
  where
    then : Bool → Bool → Bool
    then a b = elim a as (λ _. Bool) [ true ↦ b | false ↦ false ]

    at : (a b c d : Bool) → (a && (b && (c && (d && true)))) ≡ then (then (then a b) c) d
    at true true true true = refl
    at true true true false = refl
    at true true false d = refl
    at true false c d = refl
    at false b c d = refl

-- the positions of the rule hold options
pub sound_options : (k n row : ℕ) → sound_upto k n row ≡ true → (j : ℕ) → j < k → j < n → option_at row j < 32
sound_options zero n row e j h l = absurd (not-suc-le-zero h)
sound_options (suc k) n row e j h l =
    elim (cases_Bool (sound_upto k n row)) [
      | inl f ↦
          elim (cases_eq j k) [
            | inl same ↦
                (let m : j < n = l in
                let g : sound_at n k (option_at row k) ≡ true = sym (ap (λ i. sound_upto i n row) (sym (add-one k)) ∙ sound_more k n row f) ∙ e in
                let t : ltb (option_at row k) 32 ≡ true = sym (ap (λ b. elim b as (λ _. Bool) [ true ↦ ltb (option_at row k) 32 | false ↦ eqb (option_at row k) 0 ]) (lt-ltb k n (omega arith))) ∙ g in
                subst (λ i. option_at row i < 32) (sym same) (ltb-true (option_at row k) 32 t))
            | inr apart ↦ sound_options k n row f j (omega arith) l
          ]
      | inr f ↦ absurd (true≢false (sym e ∙ sound_stays k n row f))
    ]

-- what a row adds to a reason

pub some_or_none : (u : Option ℕ) → is_some u ≡ false → u ≡ None
some_or_none (Some j) e = absurd (true≢false e)
some_or_none None e = refl

pub note_unfit : (n p o : ℕ) (declared standing reason : List ℕ) (row : ℕ) → is_some (unfit n p o declared row) ≡ true → note_row n p o declared standing reason row ≡ reason
unfolding note_row
note_unfit n p o declared standing reason row e =
    at (unfit n p o declared row) e
  where
    at : (u : Option ℕ) → is_some u ≡ true → elim u as (λ _. List ℕ) [ Some j ↦ reason | None ↦ elim (unfit n p o standing row) as (λ _. List ℕ) [ Some j ↦ set reason j (with (get_or reason j 0) (option_at row j)) | None ↦ reason ] ] ≡ reason
    at (Some j) e = refl
    at None e = absurd (false≢true e)

pub note_at : (n p o : ℕ) (declared standing reason : List ℕ) (row j : ℕ) → is_some (unfit n p o declared row) ≡ false → unfit n p o standing row ≡ Some j → note_row n p o declared standing reason row ≡ set reason j (with (get_or reason j 0) (option_at row j))
unfolding note_row
note_at n p o declared standing reason row j e f =
    ap (λ u. elim u as (λ _. List ℕ) [ Some j ↦ reason | None ↦ elim (unfit n p o standing row) as (λ _. List ℕ) [ Some j ↦ set reason j (with (get_or reason j 0) (option_at row j)) | None ↦ reason ] ]) (some_or_none (unfit n p o declared row) e)
    ∙ ap (λ u. elim u as (λ _. List ℕ) [ Some j ↦ set reason j (with (get_or reason j 0) (option_at row j)) | None ↦ reason ]) f

pub note_none : (n p o : ℕ) (declared standing reason : List ℕ) (row : ℕ) → is_some (unfit n p o declared row) ≡ false → unfit n p o standing row ≡ None → note_row n p o declared standing reason row ≡ reason
unfolding note_row
note_none n p o declared standing reason row e f =
    ap (λ u. elim u as (λ _. List ℕ) [ Some j ↦ reason | None ↦ elim (unfit n p o standing row) as (λ _. List ℕ) [ Some j ↦ set reason j (with (get_or reason j 0) (option_at row j)) | None ↦ reason ] ]) (some_or_none (unfit n p o declared row) e)
    ∙ ap (λ u. elim u as (λ _. List ℕ) [ Some j ↦ set reason j (with (get_or reason j 0) (option_at row j)) | None ↦ reason ]) f

pub notes_end : (n p o : ℕ) (declared standing reason : List ℕ) → note_rows n p o declared standing reason [] ≡ reason
unfolding note_rows
notes_end n p o declared standing reason = refl

pub notes_more : (n p o : ℕ) (declared standing reason : List ℕ) (row : ℕ) (rows : List ℕ) → note_rows n p o declared standing reason (row ∷ rows) ≡ note_rows n p o declared standing (note_row n p o declared standing reason row) rows
unfolding note_rows
notes_more n p o declared standing reason row rows = refl
