-- What a sitting tells, as plain values. Assumes nothing.
use Rattle.std.specs.Prelude.{ℕ, Bool, false, List, [], ◌∷◌, ◌++◌, string_bytes, codes, decimal}
use Rattle.telling.specs.declared.told.Told.{Told}

-- the text so far, and whether every line was read and the book taken
pub record Tale : Type 0 where
  pub text : List ℕ
  pub sound : Bool

abbrev pub tale : Told → Tale
tale t = record { text = string_bytes t.text; sound = t.sound }

-- one line more
abbrev pub lined : List ℕ → Tale → Tale
lined what t = record { text = t.text ++ (what ++ 10 ∷ []); sound = t.sound }

-- a command, and its answer
abbrev pub answered : List ℕ → List ℕ → Tale → Tale
answered command what t = record { text = t.text ++ (command ++ (codes ": " ++ (what ++ 10 ∷ []))); sound = t.sound }

-- what is wrong with the line of a number
abbrev pub faulted : ℕ → List ℕ → Tale → Tale
faulted number what t = record { text = t.text ++ (codes "line " ++ (decimal number ++ (codes ": " ++ (what ++ 10 ∷ [])))); sound = false }
