-- Books whose rules tie two questions: what they mean follows from which two options go together. Assumes nothing.
use Rattle.std.specs.Prelude.{ℕ, zero, suc, ◌-◌, Bool, true, false, cond, ◌&&◌, List, [], ◌∷◌, length, nat_lt, map, Option, slice_index, slice_index_or}
use Rattle.terms.specs.Masks.{has, with}
use Rattle.terms.specs.declared.scope.Scope.{Scope}
use Rattle.terms.specs.declared.refusal.Refusal.{Refusal}
use Rattle.books.specs.Plain.{Plain, no_scope}
use Rattle.books.specs.Questions.{rules_fault, first_of, first_fault}
use Rattle.books.specs.Reasons.{owed, no_reason}

-- some option below n is in the mask and passes the test
unfoldable pub some_below : (ℕ → Bool) → ℕ → ℕ → Bool
some_below test zero m = false
some_below test (suc n) m = elim (has m n && test n) [ true ↦ true | false ↦ some_below test n m ]

-- the options below n that are in the mask and pass the test
unfoldable pub kept_below : (ℕ → Bool) → ℕ → ℕ → ℕ
kept_below test zero m = 0
kept_below test (suc n) m = cond (has m n && test n) (with (kept_below test n m) n) (kept_below test n m)

-- o at position p and x at the other go together
abbrev pub beside : (ℕ → ℕ → Bool) → ℕ → ℕ → ℕ → Bool
beside pairs zero o x = pairs o x
beside pairs (suc p) o x = pairs x o

-- four masks of which only the one at the other position holds anything
abbrev pub opposite : ℕ → ℕ → List ℕ
opposite zero m = 0 ∷ m ∷ 0 ∷ 0 ∷ []
opposite (suc p) m = m ∷ 0 ∷ 0 ∷ 0 ∷ []

-- rule r allows the options a, b where `pairs r a b`; support is some option of the other mask that goes with o
unfoldable pub two_model : List Scope → (ℕ → ℕ → ℕ → Bool) → Plain
two_model scopes pairs =
    record {
      rules = length scopes;
      scope = λ r. slice_index_or scopes r no_scope;
      allows = λ r t. pairs r (slice_index t 0) (slice_index t 1);
      supports = λ r p o masks.
          nat_lt r (length scopes) && (nat_lt p 2 && (nat_lt o 32 && some_below (beside (pairs r) p o) 32 (slice_index masks (1 - p))));
    }

-- the reason: every declared option of the other question that goes with o
unfoldable pub two_reasons : List Scope → (ℕ → ℕ → ℕ → Bool) → ℕ → ℕ → ℕ → List ℕ → List ℕ → List ℕ
two_reasons scopes pairs r p o declared standing =
    elim (owed (two_model scopes pairs) r p o declared standing) [
      | true ↦ opposite p (kept_below (beside (pairs r) p o) 32 (slice_index declared (1 - p)))
      | false ↦ no_reason
    ]

-- a book of rules, by the questions that a rule ties and the options that it lets go together; `none` stands for a rule that the book lacks

abbrev pub pairs_at : {R : Type 0} → (R → ℕ → ℕ → Bool) → R → List R → ℕ → ℕ → ℕ → Bool
pairs_at pairs none rules r = pairs (slice_index_or rules r none)

abbrev pub rules_model : {R : Type 0} → (R → Scope) → (R → ℕ → ℕ → Bool) → R → List R → Plain
rules_model ties pairs none rules = two_model (map ties rules) (pairs_at pairs none rules)

abbrev pub rules_reasons : {R : Type 0} → (R → Scope) → (R → ℕ → ℕ → Bool) → R → List R → ℕ → ℕ → ℕ → List ℕ → List ℕ → List ℕ
rules_reasons ties pairs none rules = two_reasons (map ties rules) (pairs_at pairs none rules)

-- the first fault of rules over two questions: that of their questions, or else what a rule says beside them
abbrev pub two_fault : {R : Type 0} → (R → Scope) → (R → ℕ → Option Refusal) → List R → Option Refusal
two_fault ties fault rules = first_of (rules_fault ties 2 2 rules) (first_fault fault 0 rules)
