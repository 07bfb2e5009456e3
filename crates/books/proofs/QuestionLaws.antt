-- What fitting questions are, and how the test goes along a list. Assumes nothing.
use Rattle.std.proofs.Common.{◌≡◌, ℕ, zero, suc, ◌<◌, ◌≤◌, min, cond, Bool, true, false, not, ◌&&◌, ◌||◌, eqb, ltb, leb, ◌⊎◌, List, [], ◌∷◌, length, get_or, is_some, Some, None, Option, sym, refl, ap, ◌∙◌, inl, inr, le_of_suc-le-suc, not-suc-le-zero, arith}
use Rattle.std.specs.List.{AllByRecursion as All, position}
use Rattle.std.specs.Option.{option_map}
use Rattle.std.proofs.lemmas.Bool.{and_parts, and_left, and_right, not-true, not_from_true, lt-ltb, le-ltb, ltb-true, leb-true, eqb-true, both_ways, eq-eqb, or_right, lt-leb, le-leb, cases_lt, cases_Bool, false≢true}
use Rattle.terms.specs.Masks.{has, with}
use Rattle.terms.specs.Scopes.{questions_of}
use Rattle.terms.specs.declared.scope.Scope.{Scope}
use Rattle.terms.specs.declared.refusal.Refusal.{Refusal}
use Rattle.terms.specs.declared.refusal.Refusal.TheVariants.{BadQuestions, TooManyRules}
use Rattle.terms.proofs.Lowest.{lowest_of}
use Rattle.terms.proofs.MaskLaws.{has-with}
use Rattle.books.specs.Plain.{Tied}
use Rattle.books.specs.Questions.{fresh, fits, first_fault, refused_unless, lowest, misfit, first_of, too_many, rules_fault}

pub fresh_bad : (seen q : ℕ) (qs : List ℕ) → (16 ≤ q) ⊎ (has seen q ≡ true) → fresh seen (q ∷ qs) ≡ false
unfolding fresh
fresh_bad seen q qs (inl l) = and_left (ltb q 16) _ (le-ltb q 16 l)
fresh_bad seen q qs (inr e) = and_right (ltb q 16) _ (and_left (not (has seen q)) _ (not_from_true (has seen q) e))

pub fresh_good : (seen q : ℕ) (qs : List ℕ) → q < 16 → has seen q ≡ false → fresh seen (q ∷ qs) ≡ fresh (with seen q) qs
unfolding fresh
fresh_good seen q qs l e = ap (λ b. b && (not (has seen q) && fresh (with seen q) qs)) (lt-ltb q 16 l) ∙ ap (λ b. not b && fresh (with seen q) qs) e

pub fresh_none : (seen : ℕ) → fresh seen [] ≡ true
unfolding fresh
fresh_none seen = refl

parts : (seen q : ℕ) (qs : List ℕ) → fresh seen (q ∷ qs) ≡ true → (q < 16) × (has seen q ≡ false) × (fresh (with seen q) qs ≡ true)
unfolding fresh
parts seen q qs e =
    let p = and_parts (ltb q 16) _ e in
    let r = and_parts (not (has seen q)) _ p.1 in
    (ltb-true q 16 p.0, not-true (has seen q) r.0, r.1)

-- none of them was seen
unseen : (seen : ℕ) (qs : List ℕ) → fresh seen qs ≡ true → (j : ℕ) → j < length qs → has seen (get_or qs j 0) ≡ false
unseen seen [] e j h = absurd (not-suc-le-zero h)
unseen seen (q ∷ qs) e zero h = (parts seen q qs e).1
unseen seen (q ∷ qs) e (suc j) h = first (has seen (get_or qs j 0)) _ (sym (has-with seen q (get_or qs j 0) (omega (arith, (parts seen q qs e).0))) ∙ unseen (with seen q) qs (parts seen q qs e).2 j (le_of_suc-le-suc h))
  where
    first : (a b : Bool) → (a || b) ≡ false → a ≡ false
    first true b e = e
    first false b e = refl

twice : (seen q : ℕ) (qs : List ℕ) → fresh seen (q ∷ qs) ≡ true → (j : ℕ) → j < length qs → q ≡ get_or qs j 0 → ⊥
twice seen q qs e j h same =
    both_ways (has (with seen q) (get_or qs j 0)) (unseen (with seen q) qs (parts seen q qs e).2 j h)
    (has-with seen q (get_or qs j 0) (omega (arith, (parts seen q qs e).0)) ∙ or_right (has seen (get_or qs j 0)) _ (eq-eqb q (get_or qs j 0) same))

-- and none is there twice
pub apart : (seen : ℕ) (qs : List ℕ) → fresh seen qs ≡ true → (i j : ℕ) → i < length qs → j < length qs → get_or qs i 0 ≡ get_or qs j 0 → i ≡ j
apart seen [] e i j h l same = absurd (not-suc-le-zero h)
apart seen (q ∷ qs) e zero zero h l same = refl
apart seen (q ∷ qs) e zero (suc j) h l same = absurd (twice seen q qs e j (le_of_suc-le-suc l) same)
apart seen (q ∷ qs) e (suc i) zero h l same = absurd (twice seen q qs e i (le_of_suc-le-suc h) (sym same))
apart seen (q ∷ qs) e (suc i) (suc j) h l same = ap suc (apart (with seen q) qs (parts seen q qs e).2 i j (le_of_suc-le-suc h) (le_of_suc-le-suc l) same)

-- the faults of rules, one by one

pub fault_here : {R : Type 0} (fault : R → ℕ → Option Refusal) (r : ℕ) (x : R) (xs : List R) (e : Refusal) → fault x r ≡ Some e → first_fault fault r (x ∷ xs) ≡ Some e
unfolding first_fault
fault_here fault r x xs e f = ap (λ o. first_of o (first_fault fault (suc r) xs)) f

pub fault_later : {R : Type 0} (fault : R → ℕ → Option Refusal) (r : ℕ) (x : R) (xs : List R) → fault x r ≡ None → first_fault fault r (x ∷ xs) ≡ first_fault fault (suc r) xs
unfolding first_fault
fault_later fault r x xs f = ap (λ o. first_of o (first_fault fault (suc r) xs)) f

pub fault_none : {R : Type 0} (fault : R → ℕ → Option Refusal) (r : ℕ) → first_fault fault r [] ≡ None
unfolding first_fault
fault_none fault r = refl

-- the lowest rule that fails a test

lowest_here : {R : Type 0} (test : R → Bool) (refusal : ℕ → Refusal) (r : ℕ) (x : R) (xs : List R) → test x ≡ false → lowest test refusal r (x ∷ xs) ≡ Some (refusal r)
unfolding first_fault
lowest_here test refusal r x xs e = ap (λ b. first_of (refused_unless b (refusal r)) (lowest test refusal (suc r) xs)) e

lowest_later : {R : Type 0} (test : R → Bool) (refusal : ℕ → Refusal) (r : ℕ) (x : R) (xs : List R) → test x ≡ true → lowest test refusal r (x ∷ xs) ≡ lowest test refusal (suc r) xs
unfolding first_fault
lowest_later test refusal r x xs e = ap (λ b. first_of (refused_unless b (refusal r)) (lowest test refusal (suc r) xs)) e

unless_passed : (b : Bool) (e : Refusal) (rest : Option Refusal) → first_of (refused_unless b e) rest ≡ cond (not b) (Some e) rest
unless_passed true e rest = refl
unless_passed false e rest = refl

-- what `position` finds is refused
pub lowest_found : {R : Type 0} (test : R → Bool) (refusal : ℕ → Refusal) (xs : List R) (found : Option ℕ) → found ≡ position (λ x. not (test x)) xs → option_map refusal found ≡ lowest test refusal 0 xs
unfolding first_fault
lowest_found test refusal xs found e =
    ap (option_map refusal) e
    ∙ sym (lowest_of (λ x. not (test x)) refusal (lowest test refusal) (λ r. refl) (λ r x rest. unless_passed (test x) (refusal r) (lowest test refusal (suc r) rest)) xs)

pub over : (n : ℕ) (f : Option Refusal) → 64 < n → too_many n f ≡ Some TooManyRules
unfolding too_many
over n f h = ap (λ b. elim b as (λ _. Option Refusal) [ true ↦ f | false ↦ Some TooManyRules ]) (lt-leb n 64 h)

pub not_over : (n : ℕ) (f : Option Refusal) → n ≤ 64 → too_many n f ≡ f
unfolding too_many
not_over n f h = ap (λ b. elim b as (λ _. Option Refusal) [ true ↦ f | false ↦ Some TooManyRules ]) (le-leb n 64 h)

-- a list that is not refused has at most 64 rules, and no other fault
few : (n : ℕ) (f : Option Refusal) → is_some (too_many n f) ≡ false → (n ≤ 64) × (is_some f ≡ false)
few n f e = elim (cases_lt 64 n) [ inl l ↦ absurd (false≢true (sym e ∙ ap is_some (over n f l))) | inr l ↦ (l, ap is_some (sym (not_over n f l)) ∙ e) ]

pub no_fault : (a b : Option Refusal) → is_some (first_of a b) ≡ false → (is_some a ≡ false) × (is_some b ≡ false)
no_fault (Some x) b e = absurd (false≢true (sym e))
no_fault None b e = (refl, e)

pub all_pass : {R : Type 0} (test : R → Bool) (refusal : ℕ → Refusal) (r : ℕ) (xs : List R) → is_some (lowest test refusal r xs) ≡ false → All (λ x. test x ≡ true) xs
all_pass test refusal r [] e = tt
all_pass test refusal r (x ∷ xs) e =
    elim (cases_Bool (test x)) [
      | inl f ↦ (f, all_pass test refusal (suc r) xs (ap is_some (sym (lowest_later test refusal r x xs f)) ∙ e))
      | inr f ↦ absurd (false≢true (sym e ∙ ap is_some (lowest_here test refusal r x xs f)))
    ]

-- rules that are not refused are at most 64, and the questions of each fit
pub faultless : {R : Type 0} (ties : R → Scope) (least most : ℕ) (rules : List R) → is_some (rules_fault ties least most rules) ≡ false → (length rules ≤ 64) × All (λ x. fits least most (ties x) ≡ true) rules
unfolding rules_fault misfit
faultless ties least most rules e =
    let p = few (length rules) (misfit ties least most 0 rules) e in
    (p.0, all_pass (λ x. fits least most (ties x)) BadQuestions 0 rules p.1)

-- questions that fit are as many as they are counted, and none is there twice
pub fits_parts : (least most : ℕ) (s : Scope) → fits least most s ≡ true → (least ≤ s.count) × (s.count ≤ min most 4) × (length (questions_of s) ≡ s.count) × (fresh 0 (questions_of s) ≡ true)
unfolding fits
fits_parts least most s e =
    let p = and_parts (leb least s.count) _ e in
    let r = and_parts (leb s.count (min most 4)) _ p.1 in
    let t = and_parts (eqb (length (questions_of s)) s.count) _ r.1 in
    (leb-true least s.count p.0, leb-true s.count (min most 4) r.0, eqb-true _ _ t.0, t.1)

pub tied : (least most : ℕ) (s : Scope) → 1 ≤ least → fits least most s ≡ true → Tied (questions_of s)
tied least most s h e =
    let p = fits_parts least most s e in
    record { some = omega arith; few = omega arith; apart = apart 0 (questions_of s) p.3 }
