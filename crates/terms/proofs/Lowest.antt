-- The lowest place at which a list passes a test, as a recursion and as the library's `position`. Assumes nothing.
use Rattle.std.proofs.Common.{◌≡◌, ℕ, suc, Bool, true, false, cond, List, [], ◌∷◌, Some, None, Option, sym, refl, ap, ◌∙◌, add-one}
use Rattle.std.specs.List.{position, position_from}
use Rattle.std.specs.Option.{option_map}
use Rattle.std.proofs.lemmas.Iterator.Adapters.{position_from-zero}

-- F counts the places from q, and answers `hit` of the first that passes p
module _ {X R : Type 0} (p : X → Bool) (hit : ℕ → R) (F : ℕ → List X → Option R) (none : (q : ℕ) → F q [] ≡ None) (more : (q : ℕ) (x : X) (xs : List X) → F q (x ∷ xs) ≡ cond (p x) (Some (hit q)) (F (suc q) xs)) where
  step : (b : Bool) (q : ℕ) (rest : Option R) (o : Option ℕ) → rest ≡ option_map hit o → cond b (Some (hit q)) rest ≡ option_map hit (cond b (Some q) o)
  step true q rest o e = refl
  step false q rest o e = e

  lowest_from : (q : ℕ) (xs : List X) → F q xs ≡ option_map hit (position_from p q xs)
  lowest_from q [] = none q
  lowest_from q (x ∷ xs) = more q x xs ∙ step (p x) q _ _ (lowest_from (suc q) xs ∙ ap (λ k. option_map hit (position_from p k xs)) (sym (add-one q)))

  pub lowest_of : (xs : List X) → F 0 xs ≡ option_map hit (position p xs)
  lowest_of xs = lowest_from 0 xs ∙ ap (option_map hit) (sym (position_from-zero p xs))
