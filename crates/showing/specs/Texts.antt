-- How the parts of an answer are written. Assumes nothing.
use Rattle.std.specs.Prelude.{ℕ, zero, suc, ◌-◌, min, Bool, true, false, ◌&&◌, List, [], ◌∷◌, ◌++◌, codes, decimal, ◌==◌, slice_index}
use Rattle.terms.specs.Masks.{has}
use Rattle.terms.specs.declared.line.Line.{Line}
use Rattle.terms.specs.declared.scope.Scope.{Scope}

-- nothing before the first part, and the mark before each other
unfoldable pub gap : List ℕ → List ℕ → List ℕ
gap mark [] = []
gap mark (x ∷ xs) = mark

-- the options below n of a mask, rising
unfoldable pub options_below : ℕ → ℕ → List ℕ
options_below zero m = []
options_below (suc n) m =
    elim (has m n) [
      | true ↦ options_below n m ++ (gap (codes " ") (options_below n m) ++ decimal n)
      | false ↦ options_below n m
    ]

unfoldable pub options_text : ℕ → List ℕ
options_text m = elim (m == 0) [ true ↦ codes "-" | false ↦ options_below 32 m ]

-- the groups of the first n questions after question 0
unfoldable pub further : ℕ → List ℕ → List ℕ
further zero masks = []
further (suc n) masks = further n masks ++ (codes " / " ++ options_text (slice_index masks (suc n)))

-- one group a question, of which a sheet has one at least
unfoldable pub overview_text : ℕ → List ℕ → List ℕ
overview_text count masks = options_text (slice_index masks 0) ++ further (min count 16 - 1) masks

-- the options below n of a mask, rising, each with its question
unfoldable pub named_below : ℕ → ℕ → ℕ → List ℕ
named_below zero q m = []
named_below (suc n) q m =
    elim (has m n) [
      | true ↦ named_below n q m ++ (codes " " ++ (decimal q ++ (codes ":" ++ decimal n)))
      | false ↦ named_below n q m
    ]

unfoldable pub named_text : ℕ → ℕ → List ℕ
named_text q m = named_below 32 q m

-- no mask of a reason holds anything
abbrev pub no_options : List ℕ → Bool
no_options reason =
    (slice_index reason 0 == 0) && (slice_index reason 1 == 0 && (slice_index reason 2 == 0 && slice_index reason 3 == 0))

-- what the first n positions of a reason name
unfoldable pub reason_below : ℕ → List ℕ → List ℕ → List ℕ
reason_below zero questions reason = []
reason_below (suc n) questions reason = reason_below n questions reason ++ named_text (slice_index questions n) (slice_index reason n)

unfoldable pub because_text : List ℕ → List ℕ → List ℕ
because_text questions reason =
    elim (no_options reason) [
      | true ↦ []
      | false ↦ codes " because" ++ reason_below 4 questions reason
    ]

-- a line of a sheet's log: a pick line (kind 1), or a rule line with its reason
unfoldable pub logged_text : Line → Scope → List ℕ
logged_text l s =
    elim (l.kind == 1) [
      | true ↦ codes "pick crosses " ++ (decimal l.question ++ (codes " " ++ decimal l.option))
      | false ↦
          codes "rule "
          ++ (decimal l.rule ++ (codes " crosses " ++ (decimal l.question ++ (codes " " ++ (decimal l.option ++ because_text s.questions l.reason)))))
    ]
