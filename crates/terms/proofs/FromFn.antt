-- An array made by a call for each index. Assumes nothing.
use Rattle.std.proofs.Common.{◌≡◌, ℕ, zero, suc, ◌+◌, ◌<◌, ◌≤◌, List, length, get_or, sym, ap, ◌∙◌, subst, inl, inr, arith}
use Rattle.std.proofs.lemmas.Bool.{cases_eq}
use Rattle.std.proofs.lemmas.List.{ext_get_or}
use Rattle.std.specs.Array.{IsFromFnResult, IsFromFnResultFrom}
use Rattle.std.specs.Fn.{Called, Mut}

module _ {F B : Type 0} (g : Mut F (ℕ × Unit {0}) B) (h : ℕ → B) (f : F) where
  -- a call gives what h says, and leaves the closure as it was
  abbrev pub Computes : ℕ → Type 0
  Computes n = (i : ℕ) (y : B) (q : F) → i < n → Called g f (i, tt) y q → (q ≡ f) × (y ≡ h i)

  made_at : (ys : List B) (end i n k : ℕ) (d : B) → Computes end → i + n ≤ end → IsFromFnResultFrom g f ys i n → i ≤ k → k < i + n → get_or ys k d ≡ h k
  made_at ys end i zero k d c e m l u = absurd (omega arith)
  made_at ys end i (suc n) k d c e (q, y, at, call, rest) l u =
      let s = c i y q (omega arith) call in
      elim (cases_eq i k) [
        | inl p ↦ ap (λ j. get_or ys j d) (sym p) ∙ at.1 d ∙ s.1 ∙ ap h p
        | inr p ↦ made_at ys end (i + 1) n k d c (omega arith) (subst (λ x. IsFromFnResultFrom g x ys (i + 1) n) s.0 rest) (omega arith) (omega arith)
      ]

  -- the array is the list that holds what h says at each index
  pub from_fn_is : (ys zs : List B) (n : ℕ) (d : B) → IsFromFnResult g f ys n → Computes n → length zs ≡ n → ((k : ℕ) → k < n → get_or zs k d ≡ h k) → ys ≡ zs
  from_fn_is ys zs n d m c e at = ext_get_or d ys zs (m.long ∙ sym e)
      (λ k l. let u : k < n = omega (arith, m.long) in made_at ys n 0 n k d c (omega arith) m.each (omega arith) (omega arith) ∙ sym (at k u))
