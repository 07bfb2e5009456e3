-- Books whose rules tie two questions keep the laws of books and of reasons. Assumes nothing.
use Rattle.std.proofs.Common.{◌≡◌, ℕ, zero, suc, ◌+◌, ◌-◌, ◌^◌, ◌<◌, ◌≤◌, Bool, true, false, cond, not, ◌&&◌, ◌||◌, eqb, ltb, ◌⊎◌, List, [], ◌∷◌, map, length, is_some, Option, get_or, sym, refl, ap, ◌∙◌, subst, inl, inr, not-suc-le-zero, add-one, add-zero, arith}
use Rattle.std.specs.List.{AllByRecursion as All, list_any, range_with_len}
use Rattle.std.proofs.ByRecursion.{All-get_or, All-map}
use Rattle.std.proofs.lemmas.List.{get_or_past, get_or-map, length-map}
use Rattle.std.proofs.lemmas.Bool.{and_parts, and_from, or_cases, or_right, or_left, both_ways, cases_Bool, cases_eq, cases_lt, lt-ltb, le-ltb, ltb-true, eq-eqb, ne_eqb, not-true, or_from, and_left, and_right}
use Rattle.terms.specs.Masks.{has, with, less_each, within_each}
use Rattle.terms.specs.Scopes.{questions_of}
use Rattle.terms.specs.declared.scope.Scope.{Scope}
use Rattle.terms.proofs.MaskLaws.{has-with, has_none, with_lt}
use Rattle.books.specs.Plain.{Supported, Lawful, no_scope}
use Rattle.terms.specs.declared.refusal.Refusal.{Refusal}
use Rattle.books.specs.Questions.{fits, rules_fault, first_fault}
use Rattle.books.specs.Reasons.{owed, no_reason, Explains, Reasonable}
use Rattle.books.specs.Twos.{some_below, kept_below, beside, opposite, two_model, two_reasons, pairs_at, rules_model, rules_reasons, two_fault}
use Rattle.books.proofs.Conjunctions.{fails}
use Rattle.books.proofs.OwingLaws.{has-less_each}
use Rattle.books.proofs.QuestionLaws.{fits_parts, tied, faultless, no_fault}

pub some_more : (test : ℕ → Bool) (n m : ℕ) → some_below test (suc n) m ≡ ((has m n && test n) || some_below test n m)
unfolding some_below
some_more test n m = at (has m n && test n) (some_below test n m)
  where
    at : (a b : Bool) → elim a as (λ _. Bool) [ true ↦ true | false ↦ b ] ≡ (a || b)
    at true b = refl
    at false b = refl

-- the options from a on, one by one
some_from : (test : ℕ → Bool) (m a n : ℕ) → (some_below test a m || list_any (λ x. has m x && test x) (range_with_len a n)) ≡ some_below test (a + n) m
some_from test m a zero = or_false (some_below test a m) ∙ ap (λ k. some_below test k m) (sym (add-zero a))
  where
    or_false : (a : Bool) → (a || false) ≡ a
    or_false true = refl
    or_false false = refl
some_from test m a (suc n) =
    swap (some_below test a m) (has m a && test a) (list_any (λ x. has m x && test x) (range_with_len (a + 1) n))
    ∙ ap (λ b. b || list_any (λ x. has m x && test x) (range_with_len (a + 1) n)) (sym (some_more test a m) ∙ ap (λ k. some_below test k m) (sym (add-one a)))
    ∙ some_from test m (a + 1) n
    ∙ ap (λ k. some_below test k m) (omega arith)
  where
    swap : (a b c : Bool) → (a || (b || c)) ≡ ((b || a) || c)
    swap true true c = refl
    swap true false c = refl
    swap false true c = refl
    swap false false c = refl

pub some_in : (test : ℕ → Bool) (m : ℕ) → list_any (λ x. has m x && test x) (range_with_len 0 32) ≡ some_below test 32 m
unfolding some_below
some_in test m = some_from test m 0 32

pub some_found : (test : ℕ → Bool) (n m x : ℕ) → x < n → has m x ≡ true → test x ≡ true → some_below test n m ≡ true
some_found test zero m x h e f = absurd (not-suc-le-zero h)
some_found test (suc n) m x h e f =
    elim (cases_eq x n) [
      | inl same ↦ some_more test n m ∙ or_left (has m n && test n) (some_below test n m) (and_from (has m n) (test n) (ap (has m) (sym same) ∙ e) (ap test (sym same) ∙ f))
      | inr apart ↦ some_more test n m ∙ or_right (has m n && test n) (some_below test n m) (some_found test n m x (omega arith) e f)
    ]

pub some_witness : (test : ℕ → Bool) (n m : ℕ) → some_below test n m ≡ true → (x : ℕ) × (x < n) × (has m x ≡ true) × (test x ≡ true)
unfolding some_below
some_witness test zero m e = absurd (both_ways false refl e)
some_witness test (suc n) m e =
    elim (or_cases (has m n && test n) (some_below test n m) (sym (some_more test n m) ∙ e)) [
      | inl f ↦ (let p = and_parts (has m n) (test n) f in (n, omega arith, p.0, p.1))
      | inr f ↦ (let w = some_witness test n m f in (w.0, omega (arith, w.1), w.2, w.3))
    ]

-- what passes is not in a mask in which none is found
pub none_found : (test : ℕ → Bool) (n m x : ℕ) → some_below test n m ≡ false → x < n → test x ≡ true → has m x ≡ false
none_found test n m x e h f =
    elim (cases_Bool (has m x)) [ inl g ↦ absurd (both_ways (some_below test n m) e (some_found test n m x h g f)) | inr g ↦ g ]

pub has_kept : (test : ℕ → Bool) (n m x : ℕ) → n ≤ 32 → has (kept_below test n m) x ≡ (ltb x n && (has m x && test x))
unfolding kept_below
has_kept test zero m x h = has_none x ∙ sym (ap (λ b. b && (has m x && test x)) (le-ltb x 0 (omega arith)))
has_kept test (suc n) m x h =
    elim (cases_Bool (has m n && test n)) [
      | inl e ↦
          ap (λ b. has (cond b (with (kept_below test n m) n) (kept_below test n m)) x) e
          ∙ has-with (kept_below test n m) n x (omega arith)
          ∙ ap (λ b. b || eqb n x) (has_kept test n m x (omega arith))
          ∙ elim (cases_eq n x) [
            | inl same ↦
                or_right (ltb x n && (has m x && test x)) (eqb n x) (eq-eqb n x same)
                ∙ sym (and_from (ltb x (suc n)) (has m x && test x) (lt-ltb x (suc n) (omega arith)) (ap (λ k. has m k && test k) (sym same) ∙ e))
            | inr apart ↦
                ap (λ b. (ltb x n && (has m x && test x)) || b) (ne_eqb n x apart) ∙ or_false (ltb x n && (has m x && test x)) ∙ ap (λ b. b && (has m x && test x)) (same_side apart)
          ]
      | inr e ↦
          ap (λ b. has (cond b (with (kept_below test n m) n) (kept_below test n m)) x) e
          ∙ has_kept test n m x (omega arith)
          ∙ elim (cases_eq n x) [
            | inl same ↦ nothing (ltb x n) (has m x && test x) (ap (λ k. has m k && test k) (sym same) ∙ e) ∙ sym (nothing (ltb x (suc n)) (has m x && test x) (ap (λ k. has m k && test k) (sym same) ∙ e))
            | inr apart ↦ ap (λ b. b && (has m x && test x)) (same_side apart)
          ]
    ]
  where
    or_false : (a : Bool) → (a || false) ≡ a
    or_false true = refl
    or_false false = refl

    nothing : (a b : Bool) → b ≡ false → (a && b) ≡ false
    nothing true b f = f
    nothing false b f = refl

    same_side : (n ≡ x → ⊥) → ltb x n ≡ ltb x (suc n)
    same_side apart = elim (cases_lt x n) [ inl l ↦ lt-ltb x n l ∙ sym (lt-ltb x (suc n) (omega arith)) | inr l ↦ le-ltb x n l ∙ sym (le-ltb x (suc n) (omega arith)) ]

pub kept_lt : (test : ℕ → Bool) (n m : ℕ) → kept_below test n m < 2 ^ 32
unfolding kept_below
kept_lt test zero m = omega arith
kept_lt test (suc n) m = at (has m n && test n) (kept_lt test n m)
  where
    at : (b : Bool) → kept_below test n m < 2 ^ 32 → cond b (with (kept_below test n m) n) (kept_below test n m) < 2 ^ 32
    at true h = with_lt (kept_below test n m) n h
    at false h = h

at_most : (P : ℕ → Type 0) (x y : ℕ) → P x → P y → (j : ℕ) → j < 2 → P (get_or (x ∷ y ∷ []) j 0)
at_most P x y px py zero h = px
at_most P x y px py (suc zero) h = py
at_most P x y px py (suc (suc j)) h = absurd (omega arith)

-- a rule of the list ties two questions
pub two_positions : (scopes : List Scope) → All (λ s. fits 2 2 s ≡ true) scopes → (r : ℕ) → r < length scopes → length (questions_of (get_or scopes r no_scope)) ≡ 2
two_positions scopes fit r h =
    let p = fits_parts 2 2 (get_or scopes r no_scope) (All-get_or (λ s. fits 2 2 s ≡ true) scopes r no_scope h fit) in omega arith

module _ (scopes : List Scope) (pairs : ℕ → ℕ → ℕ → Bool) where
  pub parts : (r p o : ℕ) (masks : List ℕ) → (two_model scopes pairs).supports r p o masks ≡ true → (r < length scopes) × (p < 2) × (o < 32) × (some_below (beside (pairs r) p o) 32 (get_or masks (1 - p) 0) ≡ true)
  unfolding two_model
  parts r p o masks e =
      let a = and_parts (ltb r (length scopes)) _ e in
      let b = and_parts (ltb p 2) _ a.1 in
      let c = and_parts (ltb o 32) _ b.1 in
      (ltb-true r (length scopes) a.0, ltb-true p 2 b.0, ltb-true o 32 c.0, c.1)

  pub whole : (r p o : ℕ) (masks : List ℕ) → r < length scopes → p < 2 → o < 32 → (two_model scopes pairs).supports r p o masks ≡ some_below (beside (pairs r) p o) 32 (get_or masks (1 - p) 0)
  unfolding two_model
  whole r p o masks h l k =
      let S = some_below (beside (pairs r) p o) 32 (get_or masks (1 - p) 0) in
      ap (λ b. b && (ltb p 2 && (ltb o 32 && S))) (lt-ltb r (length scopes) h) ∙ ap (λ b. b && (ltb o 32 && S)) (lt-ltb p 2 l) ∙ ap (λ b. b && S) (lt-ltb o 32 k)

  pub no_rule_two : (r p o : ℕ) (masks : List ℕ) → length scopes ≤ r → false ≡ (two_model scopes pairs).supports r p o masks
  unfolding two_model
  no_rule_two r p o masks h = fails (ltb r (length scopes)) _ (le-ltb r (length scopes) h)

  pub no_option_two : (r p o : ℕ) (masks : List ℕ) → 32 ≤ o → false ≡ (two_model scopes pairs).supports r p o masks
  unfolding two_model
  no_option_two r p o masks h = sym (and_right (ltb r (length scopes)) _ (and_right (ltb p 2) _ (and_left (ltb o 32) _ (le-ltb o 32 h))))

  pub no_position_two : (r p o : ℕ) (masks : List ℕ) → 2 ≤ p → false ≡ (two_model scopes pairs).supports r p o masks
  unfolding two_model
  no_position_two r p o masks h = sym (and_right (ltb r (length scopes)) _ (and_left (ltb p 2) _ (le-ltb p 2 h)))

  pub reason_owed : (r p o : ℕ) (declared standing : List ℕ) → true ≡ owed (two_model scopes pairs) r p o declared standing → two_reasons scopes pairs r p o declared standing ≡ opposite p (kept_below (beside (pairs r) p o) 32 (get_or declared (1 - p) 0))
  unfolding two_reasons
  reason_owed r p o declared standing e =
      ap (λ b. elim b as (λ _. List ℕ) [ true ↦ opposite p (kept_below (beside (pairs r) p o) 32 (get_or declared (1 - p) 0)) | false ↦ no_reason ]) (sym e)

  pub reason_not_owed : (r p o : ℕ) (declared standing : List ℕ) → false ≡ owed (two_model scopes pairs) r p o declared standing → two_reasons scopes pairs r p o declared standing ≡ no_reason
  unfolding two_reasons
  reason_not_owed r p o declared standing e =
      ap (λ b. elim b as (λ _. List ℕ) [ true ↦ opposite p (kept_below (beside (pairs r) p o) 32 (get_or declared (1 - p) 0)) | false ↦ no_reason ]) (sym e)

module _ (scopes : List Scope) (pairs : ℕ → ℕ → ℕ → Bool) (fit : All (λ s. fits 2 2 s ≡ true) scopes) where
  two_sound : (r p o : ℕ) (masks : List ℕ) → (two_model scopes pairs).supports r p o masks ≡ true → Supported (two_model scopes pairs) r p o masks
  unfolding two_model
  two_sound r zero o masks e =
      let a = parts scopes pairs r 0 o masks e in
      let n = two_positions scopes fit r a.0 in
      let w = some_witness (beside (pairs r) 0 o) 32 (get_or masks 1 0) a.3 in
      record {
        known = a.0;
        here = omega arith;
        combination = o ∷ w.0 ∷ [];
        long = sym n;
        options = λ j h. at_most (λ x. x < 32) o w.0 a.2 w.1 j (omega arith);
        allowed = w.3;
        takes = refl;
        others = λ j h apart. other w.0 j (omega arith) apart w.2;
      }
    where
      other : (x j : ℕ) → j < 2 → (j ≡ 0 → ⊥) → has (get_or masks 1 0) x ≡ true → has (get_or masks j 0) (get_or (o ∷ x ∷ []) j 0) ≡ true
      other x zero h apart e = absurd (apart refl)
      other x (suc zero) h apart e = e
      other x (suc (suc j)) h apart e = absurd (omega arith)
  two_sound r (suc zero) o masks e =
      let a = parts scopes pairs r 1 o masks e in
      let n = two_positions scopes fit r a.0 in
      let w = some_witness (beside (pairs r) 1 o) 32 (get_or masks 0 0) a.3 in
      record {
        known = a.0;
        here = omega arith;
        combination = w.0 ∷ o ∷ [];
        long = sym n;
        options = λ j h. at_most (λ x. x < 32) w.0 o w.1 a.2 j (omega arith);
        allowed = w.3;
        takes = refl;
        others = λ j h apart. other w.0 j (omega arith) apart w.2;
      }
    where
      other : (x j : ℕ) → j < 2 → (j ≡ 1 → ⊥) → has (get_or masks 0 0) x ≡ true → has (get_or masks j 0) (get_or (x ∷ o ∷ []) j 0) ≡ true
      other x zero h apart e = e
      other x (suc zero) h apart e = absurd (apart refl)
      other x (suc (suc j)) h apart e = absurd (omega arith)
  two_sound r (suc (suc p)) o masks e = absurd (omega (arith, (parts scopes pairs r (suc (suc p)) o masks e).1))

  two_complete : (r p o : ℕ) (masks : List ℕ) → Supported (two_model scopes pairs) r p o masks → (two_model scopes pairs).supports r p o masks ≡ true
  unfolding two_model
  two_complete r zero o masks s =
      let n = two_positions scopes fit r s.known in
      let k : o < 32 = subst (λ x. x < 32) s.takes (s.options 0 (omega (arith, s.here))) in
      whole scopes pairs r 0 o masks s.known (omega arith) k
      ∙ some_found (beside (pairs r) 0 o) 32 (get_or masks 1 0) (get_or s.combination 1 0) (s.options 1 (omega arith)) (s.others 1 (omega arith) (λ e. absurd (omega arith)))
      (ap (λ x. pairs r x (get_or s.combination 1 0)) (sym s.takes) ∙ s.allowed)
  two_complete r (suc zero) o masks s =
      let n = two_positions scopes fit r s.known in
      let k : o < 32 = subst (λ x. x < 32) s.takes (s.options 1 (omega (arith, s.here))) in
      whole scopes pairs r 1 o masks s.known (omega arith) k
      ∙ some_found (beside (pairs r) 1 o) 32 (get_or masks 0 0) (get_or s.combination 0 0) (s.options 0 (omega arith)) (s.others 0 (omega arith) (λ e. absurd (omega arith)))
      (ap (λ x. pairs r (get_or s.combination 0 0) x) (sym s.takes) ∙ s.allowed)
  two_complete r (suc (suc p)) o masks s =
      let n = two_positions scopes fit r s.known in
      absurd (omega (arith, s.here))

  pub two_lawful : length scopes ≤ 64 → Lawful (two_model scopes pairs)
  unfolding two_model
  two_lawful h =
      record {
        few = h;
        tied = λ r l. tied 2 2 (get_or scopes r no_scope) (omega arith) (All-get_or (λ s. fits 2 2 s ≡ true) scopes r no_scope l fit);
        lacks = λ r l. get_or_past scopes r no_scope l;
        sound = two_sound;
        complete = two_complete;
      }

  -- four masks, of which only the other position's holds anything
  crossed : (p m : ℕ) (declared standing : List ℕ) → p < 2 → ((x : ℕ) → has m x ≡ true → (has (get_or declared (1 - p) 0) x ≡ true) × (has (get_or standing (1 - p) 0) x ≡ false)) → (j x : ℕ) → has (get_or (opposite p m) j 0) x ≡ true → (has (get_or declared j 0) x ≡ true) × (has (get_or standing j 0) x ≡ false)
  crossed zero m declared standing h f zero x e = absurd (both_ways (has 0 x) (has_none x) e)
  crossed zero m declared standing h f (suc zero) x e = f x e
  crossed zero m declared standing h f (suc (suc zero)) x e = absurd (both_ways (has 0 x) (has_none x) e)
  crossed zero m declared standing h f (suc (suc (suc zero))) x e = absurd (both_ways (has 0 x) (has_none x) e)
  crossed zero m declared standing h f (suc (suc (suc (suc j)))) x e = absurd (both_ways (has 0 x) (has_none x) e)
  crossed (suc zero) m declared standing h f zero x e = f x e
  crossed (suc zero) m declared standing h f (suc zero) x e = absurd (both_ways (has 0 x) (has_none x) e)
  crossed (suc zero) m declared standing h f (suc (suc zero)) x e = absurd (both_ways (has 0 x) (has_none x) e)
  crossed (suc zero) m declared standing h f (suc (suc (suc zero))) x e = absurd (both_ways (has 0 x) (has_none x) e)
  crossed (suc zero) m declared standing h f (suc (suc (suc (suc j)))) x e = absurd (both_ways (has 0 x) (has_none x) e)
  crossed (suc (suc p)) m declared standing h f j x e = absurd (omega arith)

  opposite_here : (p m : ℕ) → p < 2 → get_or (opposite p m) p 0 ≡ 0
  opposite_here zero m h = refl
  opposite_here (suc zero) m h = refl
  opposite_here (suc (suc p)) m h = absurd (omega arith)

  opposite_there : (p m : ℕ) → p < 2 → get_or (opposite p m) (1 - p) 0 ≡ m
  opposite_there zero m h = refl
  opposite_there (suc zero) m h = refl
  opposite_there (suc (suc p)) m h = absurd (omega arith)

  opposite_past : (p m j : ℕ) → 2 ≤ j → get_or (opposite p m) j 0 ≡ 0
  opposite_past p m zero h = absurd (omega arith)
  opposite_past p m (suc zero) h = absurd (omega arith)
  opposite_past zero m (suc (suc zero)) h = refl
  opposite_past zero m (suc (suc (suc zero))) h = refl
  opposite_past zero m (suc (suc (suc (suc j)))) h = refl
  opposite_past (suc p) m (suc (suc zero)) h = refl
  opposite_past (suc p) m (suc (suc (suc zero))) h = refl
  opposite_past (suc p) m (suc (suc (suc (suc j)))) h = refl

  opposite_four : (p m : ℕ) → length (opposite p m) ≡ 4
  opposite_four zero m = refl
  opposite_four (suc p) m = refl

  pub owed_two : (r p o : ℕ) (declared standing : List ℕ) → owed (two_model scopes pairs) r p o declared standing ≡ true → (r < length scopes) × (p < 2) × (o < 32) × ((two_model scopes pairs).supports r p o standing ≡ false)
  unfolding owed two_model
  owed_two r p o declared standing e =
      let a = and_parts (ltb r (length scopes)) _ e in
      let b = and_parts (ltb p (length (questions_of (get_or scopes r no_scope)))) _ a.1 in
      let c = and_parts (ltb o 32) _ b.1 in
      let d = and_parts (within_each standing declared) _ c.1 in
      let h = ltb-true r (length scopes) a.0 in
      let n = two_positions scopes fit r h in
      (h, omega (arith, ltb-true p (length (questions_of (get_or scopes r no_scope))) b.0), ltb-true o 32 c.0, not-true _ d.1)

  two_explains : (r p o : ℕ) (declared standing : List ℕ) → owed (two_model scopes pairs) r p o declared standing ≡ true → Explains (two_model scopes pairs) r p o declared standing (opposite p (kept_below (beside (pairs r) p o) 32 (get_or declared (1 - p) 0)))
  unfolding two_model
  two_explains r p o declared standing e =
      let a = owed_two r p o declared standing e in
      let test : ℕ → Bool = beside (pairs r) p o in
      let d : ℕ = get_or declared (1 - p) 0 in
      let kept : ℕ = kept_below test 32 d in
      let n = two_positions scopes fit r a.0 in
      let none : some_below test 32 (get_or standing (1 - p) 0) ≡ false = sym (whole scopes pairs r p o standing a.0 a.1 a.2) ∙ a.3 in
      record {
        four = opposite_four p kept;
        crossed = crossed p kept declared standing a.1
            (λ x g.
            let b = and_parts (ltb x 32) _ (sym (has_kept test 32 d x (omega arith)) ∙ g) in
            let c = and_parts (has d x) (test x) b.1 in
            (c.0, none_found test 32 (get_or standing (1 - p) 0) x none (ltb-true x 32 b.0) c.1));
        elsewhere = opposite_here p kept a.1;
        past = λ j h. opposite_past p kept j (omega arith);
        lacks = whole scopes pairs r p o (less_each declared (opposite p kept)) a.0 a.1 a.2 ∙ gone test d kept declared (1 - p) (opposite p kept) refl (opposite_there p kept a.1) refl;
      }
    where
      gone : (test : ℕ → Bool) (d kept : ℕ) (declared : List ℕ) (q : ℕ) (reason : List ℕ) → get_or declared q 0 ≡ d → get_or reason q 0 ≡ kept → kept ≡ kept_below test 32 d → some_below test 32 (get_or (less_each declared reason) q 0) ≡ false
      gone test d kept declared q reason u v w =
          elim (cases_Bool (some_below test 32 (get_or (less_each declared reason) q 0))) [
            | inl t ↦
                (let x = some_witness test 32 (get_or (less_each declared reason) q 0) t in
                let b = and_parts (has (get_or declared q 0) x.0) (not (has (get_or reason q 0) x.0)) (sym (has-less_each declared reason q x.0) ∙ x.2) in
                absurd
                (both_ways (has (get_or reason q 0) x.0) (not-true _ b.1)
                (ap (λ m. has m x.0) (v ∙ w) ∙ has_kept test 32 d x.0 (omega arith)
                ∙ and_from (ltb x.0 32) (has d x.0 && test x.0) (lt-ltb x.0 32 x.1) (and_from (has d x.0) (test x.0) (ap (λ m. has m x.0) (sym u) ∙ b.0) x.3))))
            | inr f ↦ f
          ]

  pub two_reasonable : Reasonable (two_model scopes pairs) (two_reasons scopes pairs)
  two_reasonable =
      record {
        explains = λ r p o declared standing e.
            subst (Explains (two_model scopes pairs) r p o declared standing) (sym (reason_owed scopes pairs r p o declared standing (sym e))) (two_explains r p o declared standing e);
        otherwise = λ r p o declared standing e. reason_not_owed scopes pairs r p o declared standing (sym e);
      }

-- equal tests find and keep the same
pub same_some : (f g : ℕ → Bool) → ((x : ℕ) → f x ≡ g x) → (n m : ℕ) → some_below f n m ≡ some_below g n m
unfolding some_below
same_some f g e zero m = refl
same_some f g e (suc n) m =
    some_more f n m ∙ ap (λ b. (has m n && b) || some_below f n m) (e n) ∙ ap (λ b. (has m n && g n) || b) (same_some f g e n m) ∙ sym (some_more g n m)

pub same_kept : (f g : ℕ → Bool) → ((x : ℕ) → f x ≡ g x) → (n m : ℕ) → kept_below f n m ≡ kept_below g n m
unfolding kept_below
same_kept f g e zero m = refl
same_kept f g e (suc n) m =
    ap (λ b. cond (has m n && b) (with (kept_below f n m) n) (kept_below f n m)) (e n) ∙ ap (λ k. cond (has m n && g n) (with k n) k) (same_kept f g e n m)

-- one option more found wanting
pub none_more : (test : ℕ → Bool) (n m : ℕ) → some_below test n m ≡ false → (has m n ≡ false) ⊎ (test n ≡ false) → some_below test (n + 1) m ≡ false
none_more test n m e f =
    ap (λ k. some_below test k m) (add-one n) ∙ some_more test n m ∙ or_from (has m n && test n) (some_below test n m) (elim f [ inl g ↦ and_left (has m n) (test n) g | inr g ↦ and_right (has m n) (test n) g ]) e

-- the questions of a rule of a book
pub scope_in : {R : Type 0} (ties : R → Scope) (pairs : R → ℕ → ℕ → Bool) (none : R) (rules : List R) (r : ℕ) → ties none ≡ no_scope → ties (get_or rules r none) ≡ (rules_model ties pairs none rules).scope r
unfolding two_model
scope_in ties pairs none rules r e =
    elim (cases_lt r (length rules)) [
      | inl h ↦ sym (get_or-map ties rules r none no_scope h)
      | inr h ↦ ap ties (get_or_past rules r none h) ∙ e ∙ sym (get_or_past (map ties rules) r no_scope (omega (arith, length-map rules ties)))
    ]

-- a book of rules without fault
module _ {R : Type 0} (ties : R → Scope) (fault : R → ℕ → Option Refusal) (rules : List R) (sound : is_some (two_fault ties fault rules) ≡ false) where
  fit : (length rules ≤ 64) × All (λ x. fits 2 2 (ties x) ≡ true) rules
  fit = faultless ties 2 2 rules (no_fault (rules_fault ties 2 2 rules) (first_fault fault 0 rules) sound).0

  pub rules_few : length rules ≤ 64
  rules_few = fit.0

  rules_fit : All (λ s. fits 2 2 s ≡ true) (map ties rules)
  rules_fit = All-map (λ s. fits 2 2 s ≡ true) ties rules fit.1

  module _ (pairs : R → ℕ → ℕ → Bool) (none : R) where
    pub rules_lawful : Lawful (rules_model ties pairs none rules)
    rules_lawful = two_lawful (map ties rules) (pairs_at pairs none rules) rules_fit (omega (arith, rules_few, length-map rules ties))

    pub rules_reasonable : Reasonable (rules_model ties pairs none rules) (rules_reasons ties pairs none rules)
    rules_reasonable = two_reasonable (map ties rules) (pairs_at pairs none rules) rules_fit

    pub rules_owed : (r p o : ℕ) (declared standing : List ℕ) → owed (rules_model ties pairs none rules) r p o declared standing ≡ true → (r < length rules) × (p < 2)
    rules_owed r p o declared standing e =
        let a = owed_two (map ties rules) (pairs_at pairs none rules) rules_fit r p o declared standing e in
        (omega (arith, a.0, length-map rules ties), a.1)

pub kept_none : (test : ℕ → Bool) (m : ℕ) → kept_below test 0 m ≡ 0
unfolding kept_below
kept_none test m = refl

-- one option more, kept or not
pub kept_more : (test : ℕ → Bool) (n m : ℕ) → has m n ≡ true → test n ≡ true → with (kept_below test n m) n ≡ kept_below test (n + 1) m
unfolding kept_below
kept_more test n m e f =
    sym (ap (λ k. kept_below test k m) (add-one n) ∙ ap (λ b. cond b (with (kept_below test n m) n) (kept_below test n m)) (and_from (has m n) (test n) e f))

pub kept_same : (test : ℕ → Bool) (n m : ℕ) → (has m n ≡ false) ⊎ (test n ≡ false) → kept_below test n m ≡ kept_below test (n + 1) m
unfolding kept_below
kept_same test n m f =
    sym (ap (λ k. kept_below test k m) (add-one n) ∙ ap (λ b. cond b (with (kept_below test n m) n) (kept_below test n m)) (elim f [ inl g ↦ and_left (has m n) (test n) g | inr g ↦ and_right (has m n) (test n) g ]))
