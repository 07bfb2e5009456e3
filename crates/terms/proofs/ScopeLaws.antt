-- The masks of a rule's questions, by position. Assumes nothing.
use Rattle.std.proofs.Common.{◌≡◌, ℕ, zero, suc, ◌<◌, ◌≤◌, min, List, length, get_or, sym, refl, ap, ◌∙◌, arith}
use Rattle.std.proofs.lemmas.List.{length-take}
use Rattle.std.proofs.lemmas.Bool.{lt-ltb, le-ltb, cond-true, cond-false}
use Rattle.terms.specs.Scopes.{positions_of, question_at, mask_at, masks_at}
use Rattle.terms.specs.declared.scope.Scope.{Scope}

pub positions_le : (s : Scope) → positions_of s ≤ s.count
positions_le s = omega (arith, length-take s.count s.questions)

-- of a scope with four numbers
pub positions_is : (s : Scope) → length s.questions ≡ 4 → positions_of s ≡ min s.count 4
positions_is s e = length-take s.count s.questions ∙ ap (min s.count) e

pub mask_here : (ms : List ℕ) (s : Scope) (p : ℕ) → p < positions_of s → mask_at ms s p ≡ get_or ms (question_at s p) 0
unfolding mask_at
mask_here ms s p h = cond-true _ _ _ (lt-ltb p (positions_of s) h)

pub mask_past : (ms : List ℕ) (s : Scope) (p : ℕ) → positions_of s ≤ p → mask_at ms s p ≡ 0
unfolding mask_at
mask_past ms s p h = cond-false _ _ _ (le-ltb p (positions_of s) h)

pub masks_length : (ms : List ℕ) (s : Scope) → length (masks_at ms s) ≡ 4
unfolding masks_at
masks_length ms s = refl

-- the mask at a position, for a rule of at most four
pub masks_here : (ms : List ℕ) (s : Scope) (p : ℕ) → positions_of s ≤ 4 → get_or (masks_at ms s) p 0 ≡ mask_at ms s p
unfolding masks_at
masks_here ms s zero h = refl
masks_here ms s (suc zero) h = refl
masks_here ms s (suc (suc zero)) h = refl
masks_here ms s (suc (suc (suc zero))) h = refl
masks_here ms s (suc (suc (suc (suc p)))) h = sym (mask_past ms s _ (omega arith))

pub masks_below : (ms : List ℕ) (s : Scope) (p : ℕ) → p < 4 → get_or (masks_at ms s) p 0 ≡ mask_at ms s p
unfolding masks_at
masks_below ms s zero h = refl
masks_below ms s (suc zero) h = refl
masks_below ms s (suc (suc zero)) h = refl
masks_below ms s (suc (suc (suc zero))) h = refl
masks_below ms s (suc (suc (suc (suc p)))) h = absurd (omega arith)
