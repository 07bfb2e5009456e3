-- A sheet by plain values: the problem, and what has been crossed with the log of why. Assumes nothing.
use Rattle.std.specs.Prelude.{ℕ, ◌+◌, Bool, false, ◌&&◌, ◌||◌, List, [], ◌∷◌, Option, ◌==◌}
use Rattle.terms.specs.Masks.{held}
use Rattle.terms.specs.declared.line.Line.{Line}
use Rattle.terms.specs.declared.scope.Scope.{Scope}

pub record State : Type 0 where
  pub count : ℕ
  pub sizes : List ℕ
  pub picks : List (Option ℕ)
  pub placed : ℕ
  -- the questions of each placed rule, noted when it was placed
  pub scopes : List Scope
  pub crossed : List ℕ
  pub log : List Line

abbrev pub no_line : Line
no_line = record { kind = 0; rule = 0; question = 0; option = 0; reason = 0 ∷ 0 ∷ 0 ∷ 0 ∷ [] }

abbrev pub unscoped : Scope
unscoped = record { count = 0; questions = 0 ∷ 0 ∷ 0 ∷ 0 ∷ [] }

-- option o of question q is a head of the log
unfoldable pub headed : List Line → ℕ → ℕ → Bool
headed [] q o = false
headed (l ∷ ls) q o = (l.question == q && l.option == o) || headed ls q o

-- how many options are crossed
unfoldable pub total : List ℕ → ℕ
total [] = 0
total (m ∷ ms) = held m + total ms
