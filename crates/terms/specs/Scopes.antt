-- The questions of a rule. Assumes nothing.
use Rattle.std.specs.Prelude.{ℕ, cond, List, [], ◌∷◌, length, take, nat_lt, slice_index}
use Rattle.terms.specs.declared.scope.Scope.{Scope}

-- the questions, in position order
abbrev pub questions_of : Scope → List ℕ
questions_of s = take s.count s.questions

-- how many questions there are, and which
abbrev pub positions_of : Scope → ℕ
positions_of s = length (questions_of s)

abbrev pub question_at : Scope → ℕ → ℕ
question_at s p = slice_index (questions_of s) p

-- the mask of the question at a position; nothing past the last
unfoldable pub mask_at : List ℕ → Scope → ℕ → ℕ
mask_at masks s p = cond (nat_lt p (positions_of s)) (slice_index masks (question_at s p)) 0

-- the four masks that a rule is asked with
unfoldable pub masks_at : List ℕ → Scope → List ℕ
masks_at masks s = mask_at masks s 0 ∷ mask_at masks s 1 ∷ mask_at masks s 2 ∷ mask_at masks s 3 ∷ []
