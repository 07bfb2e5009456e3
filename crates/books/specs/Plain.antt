-- What a book of rules means, and the laws that every book keeps. Assumes nothing.
use Rattle.std.specs.Prelude.{◌≡◌, ℕ, ◌<◌, ◌≤◌, Bool, true, List, [], ◌∷◌, length, ◌≢◌, slice_index, slice_index_or}
use Rattle.terms.specs.Masks.{has}
use Rattle.terms.specs.Scopes.{questions_of}
use Rattle.terms.specs.declared.scope.Scope.{Scope}

-- a book, by plain values: how many rules; a rule's questions; which combinations, one option a position, a rule allows;
-- and whether option o at position p has support under four masks
pub record Plain : Type 0 where
  pub rules : ℕ
  pub scope : ℕ → Scope
  pub allows : ℕ → List ℕ → Bool
  pub supports : ℕ → ℕ → ℕ → List ℕ → Bool

abbrev pub positions : Plain → ℕ → ℕ
positions b r = length (questions_of (b.scope r))

-- some allowed combination has o at p and, at every other position of the rule, an option of that position's mask
pub record Supported (b : Plain) (r p o : ℕ) (masks : List ℕ) : Type 0 where
  pub known : r < b.rules
  pub here : p < positions b r
  pub combination : List ℕ
  pub long : length combination ≡ positions b r
  pub options : (j : ℕ) → j < positions b r → slice_index combination j < 32
  pub allowed : b.allows r combination ≡ true
  pub takes : slice_index_or combination p 0 ≡ o
  pub others : (j : ℕ) → j < positions b r → (j ≢ p) → has (slice_index masks j) (slice_index combination j) ≡ true

-- the questions of a rule that a book lacks: none
abbrev pub no_scope : Scope
no_scope = record { count = 0; questions = 0 ∷ 0 ∷ 0 ∷ 0 ∷ [] }

-- one to four questions, all different
pub record Tied (questions : List ℕ) : Type 0 where
  pub some : 1 ≤ length questions
  pub few : length questions ≤ 4
  pub apart : (i j : ℕ) → i < length questions → j < length questions → slice_index questions i ≡ slice_index questions j → i ≡ j

pub record Lawful (b : Plain) : Type 0 where
  pub few : b.rules ≤ 64
  pub tied : (r : ℕ) → r < b.rules → Tied (questions_of (b.scope r))
  pub lacks : (r : ℕ) → b.rules ≤ r → b.scope r ≡ no_scope
  -- support is some allowed combination, and nothing else
  pub sound : (r p o : ℕ) (masks : List ℕ) → b.supports r p o masks ≡ true → Supported b r p o masks
  pub complete : (r p o : ℕ) (masks : List ℕ) → Supported b r p o masks → b.supports r p o masks ≡ true
