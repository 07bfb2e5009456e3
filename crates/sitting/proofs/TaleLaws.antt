-- What is told, one line more at a time. Assumes nothing.
use Rattle.std.proofs.Common.{◌≡◌, ℕ, false, List, [], ◌∷◌, ◌++◌, string_bytes, codes, decimal}
use Rattle.telling.specs.declared.told.Told.{Told}
use Rattle.sitting.specs.Tales.{tale, lined, answered, faulted}

pub tale_lined : (t u : Told) (what : List ℕ) → string_bytes u.text ≡ string_bytes t.text ++ (what ++ 10 ∷ []) → u.sound ≡ t.sound → tale u ≡ lined what (tale t)
tale_lined t u what text sound = λ i. record { text = text i; sound = sound i }

pub tale_answered : (t u : Told) (command what : List ℕ) → string_bytes u.text ≡ string_bytes t.text ++ (command ++ (codes ": " ++ (what ++ 10 ∷ []))) → u.sound ≡ t.sound → tale u ≡ answered command what (tale t)
tale_answered t u command what text sound = λ i. record { text = text i; sound = sound i }

pub tale_faulted : (t u : Told) (number : ℕ) (what : List ℕ) → string_bytes u.text ≡ string_bytes t.text ++ (codes "line " ++ (decimal number ++ (codes ": " ++ (what ++ 10 ∷ [])))) → u.sound ≡ false → tale u ≡ faulted number what (tale t)
tale_faulted t u number what text sound = λ i. record { text = text i; sound = sound i }
