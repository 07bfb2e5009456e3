-- The lines of a text, as the library has them.
use Rattle.std.proofs.Common.{◌≡◌, ℕ, suc, ◌-◌, ◌<◌, Bool, true, false, cond, eqb, List, [], ◌∷◌, ◌++◌, length, get_or, take, sym, refl, ap, ◌∙◌, subst, arith}
use Rattle.std.proofs.lemmas.Iterator.{YieldsList}
use Rattle.std.proofs.lemmas.Iterator.Consumers.{YieldsList-from_enumerate}
use Rattle.std.proofs.lemmas.Iterator.Splits.{YieldsList-from_lines}
use Rattle.std.specs.Iterator.Adapters.{enumerate_source, enumerate_count, enumerate_steps}
use Rattle.std.specs.List.{enumerate_from}
use Rattle.std.specs.Str.Iter.{lines_rest, lines_steps}
use Rattle.std.specs.declared.iter.Enumerate.{Enumerate}
use Rattle.std.specs.declared.str.Lines.{Lines}
use Rattle.std.specs.Str.Lines.{lines, lines_of_parts, strip_carriage_return}
use Rattle.lines.specs.Marks.{pieces_from, unless_empty, unreturned, lines_from, lines_of}
use Rattle.lines.proofs.Cuts.{pieces_by, some_piece, pieces_are}

abbrev strip_at : ℕ → List ℕ → List ℕ
strip_at k l = cond (eqb (get_or l k 0) 13) (take k l) l

kept : (b : ℕ) (x y : List ℕ) (t : Bool) → cond t (b ∷ x) (b ∷ y) ≡ b ∷ cond t x y
kept b x y true = refl
kept b x y false = refl

one_byte : (b : ℕ) (t : Bool) → elim t [ true ↦ [] | false ↦ b ∷ [] ] ≡ cond t [] (b ∷ [])
one_byte b true = refl
one_byte b false = refl

unreturned_is : (l : List ℕ) → unreturned l ≡ strip_carriage_return l
unfolding unreturned
unreturned_is [] = refl
unreturned_is (b ∷ []) = one_byte b (eqb b 13)
unreturned_is (b ∷ c ∷ bs) =
    let last : length (b ∷ c ∷ bs) - 1 ≡ suc (length (c ∷ bs) - 1) = omega arith in
    ap (λ (l : List ℕ). b ∷ l) (unreturned_is (c ∷ bs))
    ∙ sym (ap (λ (k : ℕ). strip_at k (b ∷ c ∷ bs)) last ∙ kept b _ _ _)

last_line : (l : List ℕ) → unless_empty l ≡ lines_of_parts (l ∷ [])
last_line [] = refl
last_line (b ∷ l) = grind arith

line_first : (l : List ℕ) (parts : List (List ℕ)) → 0 < length parts → strip_carriage_return l ∷ lines_of_parts parts ≡ lines_of_parts (l ∷ parts)
line_first l [] h = absurd (omega arith)
line_first l (q ∷ parts) h = refl

abbrev lines_by : List ℕ → ℕ → List ℕ → Bool → List (List ℕ)
lines_by l b bs t = elim t [ true ↦ unreturned l ∷ lines_from [] bs | false ↦ lines_from (l ++ b ∷ []) bs ]

lines_parts : (l bs : List ℕ) → lines_from l bs ≡ lines_of_parts (pieces_from 10 l bs)
unfolding lines_from pieces_from
lines_parts l [] = last_line l
lines_parts l (b ∷ bs) = step (λ k. lines_parts k bs) (eqb b 10)
  where
    step : ((k : List ℕ) → lines_from k bs ≡ lines_of_parts (pieces_from 10 k bs)) → (t : Bool) → lines_by l b bs t ≡ lines_of_parts (pieces_by 10 l b bs t)
    step rest true = (λ i. unreturned_is l i ∷ rest [] i) ∙ line_first l (pieces_from 10 [] bs) (some_piece 10 bs)
    step rest false = rest (l ++ b ∷ [])

lines_are : (bs : List ℕ) → lines_of bs ≡ lines bs
lines_are bs = lines_parts [] bs ∙ ap lines_of_parts (pieces_are 10 bs)

pub yields_lines : (bs : List ℕ) (s : Enumerate Lines) → lines_rest (enumerate_source s) ≡ bs → enumerate_count s ≡ 0
    → YieldsList {B = ℕ × List ℕ} (enumerate_steps lines_steps) (λ p. (p.0, p.1.now)) s (enumerate_from 0 (lines_of bs))
yields_lines bs s text count =
    subst (λ l. YieldsList {B = ℕ × List ℕ} (enumerate_steps lines_steps) (λ p. (p.0, p.1.now)) s (enumerate_from 0 l)) (sym (lines_are bs))
    (YieldsList-from_enumerate (YieldsList-from_lines bs text) count)
