-- Heads of a log, and how many options are crossed. Assumes nothing.
use Rattle.std.proofs.Common.{◌≡◌, ℕ, zero, suc, ◌+◌, ◌*◌, ◌<◌, ◌≤◌, Bool, true, false, ◌&&◌, ◌||◌, eqb, List, [], ◌∷◌, ◌++◌, length, get_or, take, set, replicate, sym, refl, ap, ◌∙◌, subst, inl, inr, le_of_suc-le-suc, not-suc-le-zero, arith}
use Rattle.std.proofs.lemmas.List.{get_or_past, get_or-replicate, length-replicate, get_or_append_left, get_or_push, length_push, take-append-le, take_at}
use Rattle.std.proofs.lemmas.Bool.{cases_lt}
use Rattle.terms.specs.Masks.{has, held}
use Rattle.terms.specs.declared.line.Line.{Line}
use Rattle.terms.proofs.MaskLaws.{has_none, held_le, held_none}
use Rattle.record.specs.State.{headed, total, no_line}

or_none : (a : Bool) → (a || false) ≡ a
or_none true = refl
or_none false = refl

or_assoc : (a b c : Bool) → (a || (b || c)) ≡ ((a || b) || c)
or_assoc true b c = refl
or_assoc false b c = refl

pub headed_push : (ls : List Line) (l : Line) (q o : ℕ) → headed (ls ++ l ∷ []) q o ≡ (headed ls q o || (eqb l.question q && eqb l.option o))
unfolding headed
headed_push [] l q o = or_none _
headed_push (m ∷ ls) l q o = ap (λ b. (eqb m.question q && eqb m.option o) || b) (headed_push ls l q o) ∙ or_assoc (eqb m.question q && eqb m.option o) (headed ls q o) _

pub total_set : (ms : List ℕ) (q x : ℕ) → q < length ms → total (set ms q x) + held (get_or ms q 0) ≡ total ms + held x
unfolding total
total_set [] q x h = absurd (not-suc-le-zero h)
total_set (m ∷ ms) zero x h = omega arith
total_set (m ∷ ms) (suc q) x h = let e = total_set ms q x (le_of_suc-le-suc h) in omega arith

pub total_le : (ms : List ℕ) → total ms ≤ 32 * length ms
unfolding total
total_le [] = omega arith
total_le (m ∷ ms) = omega (arith, total_le ms, held_le m)

-- a line past the end of a log has no reason
pub unreasoned : (j x : ℕ) → has (get_or no_line.reason j 0) x ≡ false
unreasoned zero x = has_none x
unreasoned (suc zero) x = has_none x
unreasoned (suc (suc zero)) x = has_none x
unreasoned (suc (suc (suc zero))) x = has_none x
unreasoned (suc (suc (suc (suc j)))) x = has_none x

-- nothing is crossed

pub none_crossed : (n q o : ℕ) → has (get_or (replicate n 0) q 0) o ≡ false
none_crossed n q o = ap (λ m. has m o) (zeros q) ∙ has_none o
  where
    zeros : (k : ℕ) → get_or {A = ℕ} (replicate n 0) k 0 ≡ 0
    zeros k = elim (cases_lt k n) [ inl l ↦ get_or-replicate n k 0 0 l | inr l ↦ get_or_past (replicate n 0) k 0 (omega (arith, length-replicate {A = ℕ} n 0)) ]

pub total_none : (n : ℕ) → total (replicate n 0) ≡ 0
unfolding total
total_none zero = refl
total_none (suc n) = omega (arith, held_none, total_none n)

-- what holds of each line of a log, with those before it, and of a new line, holds of each line after that is written
pub each_push : (log : List Line) (l : Line) (P : ℕ → Line → List Line → Type 0) → ((k : ℕ) → k < length log → P k (get_or log k no_line) (take k log)) → P (length log) l log → (k : ℕ) → k < length (log ++ l ∷ []) → P k (get_or (log ++ l ∷ []) k no_line) (take k (log ++ l ∷ []))
each_push log l P old new k h =
    elim (cases_lt k (length log)) [
      | inl i ↦ subst (λ t. P k (get_or (log ++ l ∷ []) k no_line) t) (sym (take-append-le k log (l ∷ []) (omega arith))) (subst (λ x. P k x (take k log)) (sym (get_or_append_left log (l ∷ []) no_line k i)) (old k i))
      | inr i ↦
          (let e : length log ≡ k = omega (arith, length_push log l) in
          subst (λ t. P k (get_or (log ++ l ∷ []) k no_line) t) (sym (take_at log (l ∷ []) k e)) (subst (λ x. P k x log) (sym (get_or_push log l no_line k e)) (subst (λ n. P n l log) e new)))
    ]
