-- Laws of the texts, one part more at a time. Assumes nothing.
use Rattle.std.proofs.Common.{◌≡◌, ℕ, ◌+◌, ◌^◌, ◌<◌, true, false, List, [], ◌∷◌, ◌++◌, length, get_or, codes, decimal, refl, ap, ◌∙◌, add-one, arith, eq-eqb, ne_eqb}
use Rattle.std.proofs.lemmas.Fmt.{decimal_nonempty}
use Rattle.terms.specs.Masks.{has}
use Rattle.terms.specs.declared.line.Line.{Line}
use Rattle.terms.specs.declared.scope.Scope.{Scope}
use Rattle.showing.specs.Texts.{gap, options_below, options_text, further, named_below, named_text, no_options, reason_below, because_text, logged_text}

-- where something stands, the mark comes next
pub gap_some : (mark bs : List ℕ) → 0 < length bs → gap mark bs ≡ mark
unfolding gap
gap_some mark [] h = absurd (omega (arith, h))
gap_some mark (b ∷ bs) h = refl

some_after : (a bs : List ℕ) → 0 < length bs → 0 < length (a ++ bs)
some_after [] bs h = h
some_after (x ∷ a) bs h = omega arith

pub gap_after : (mark a b c : List ℕ) → 0 < length c → gap mark (a ++ (b ++ c)) ≡ mark
gap_after mark a b c h = gap_some mark (a ++ (b ++ c)) (some_after a (b ++ c) (some_after b c h))

pub options_more : (n m : ℕ) → has m n ≡ true → options_below (n + 1) m ≡ options_below n m ++ (gap (codes " ") (options_below n m) ++ decimal n)
unfolding options_below
options_more n m e = rw (add-one, e, options_below)

-- once an option is written, a space comes before the next
pub options_gap : (n m : ℕ) → has m n ≡ true → n < 2 ^ 64 → gap (codes " ") (options_below (n + 1) m) ≡ codes " "
options_gap n m e h =
    ap (gap (codes " ")) (options_more n m e) ∙ gap_after (codes " ") (options_below n m) (gap (codes " ") (options_below n m)) (decimal n) (decimal_nonempty n h)

pub options_same : (n m : ℕ) → has m n ≡ false → options_below (n + 1) m ≡ options_below n m
unfolding options_below
options_same n m e = rw (add-one, e, options_below)

pub options_text_none : (m : ℕ) → m ≡ 0 → options_text m ≡ codes "-"
unfolding options_text
options_text_none m e = rw e

pub options_text_some : (m : ℕ) → (m ≡ 0 → ⊥) → options_text m ≡ options_below 32 m
unfolding options_text
options_text_some m ne = rw (ne_eqb m 0 ne, options_text)

pub further_more : (n : ℕ) (masks : List ℕ) → further (n + 1) masks ≡ further n masks ++ (codes " / " ++ options_text (get_or masks (n + 1) 0))
unfolding further
further_more n masks = rw add-one

pub named_more : (n q m : ℕ) → has m n ≡ true → named_below (n + 1) q m ≡ named_below n q m ++ (codes " " ++ (decimal q ++ (codes ":" ++ decimal n)))
unfolding named_below
named_more n q m e = rw (add-one, e, named_below)

pub named_same : (n q m : ℕ) → has m n ≡ false → named_below (n + 1) q m ≡ named_below n q m
unfolding named_below
named_same n q m e = rw (add-one, e, named_below)

pub reason_more : (n : ℕ) (questions reason : List ℕ) → reason_below (n + 1) questions reason ≡ reason_below n questions reason ++ named_text (get_or questions n 0) (get_or reason n 0)
unfolding reason_below
reason_more n questions reason = rw add-one

pub because_none : (questions reason : List ℕ) → no_options reason ≡ true → because_text questions reason ≡ []
unfolding because_text
because_none questions reason e = rw (e, because_text)

pub because_some : (questions reason : List ℕ) → no_options reason ≡ false → because_text questions reason ≡ codes " because" ++ reason_below 4 questions reason
unfolding because_text
because_some questions reason e = rw (e, because_text)

pub logged_pick : (l : Line) (s : Scope) → l.kind ≡ 1 → logged_text l s ≡ codes "pick crosses " ++ (decimal l.question ++ (codes " " ++ decimal l.option))
unfolding logged_text
logged_pick l s e = rw (eq-eqb l.kind 1 e, logged_text)

pub logged_rule : (l : Line) (s : Scope) → (l.kind ≡ 1 → ⊥) → logged_text l s ≡ codes "rule " ++ (decimal l.rule ++ (codes " crosses " ++ (decimal l.question ++ (codes " " ++ (decimal l.option ++ because_text s.questions l.reason)))))
unfolding logged_text
logged_rule l s ne = rw (ne_eqb l.kind 1 ne, logged_text)
