-- What settling does, step by step with the masks of the moment. Assumes nothing.
use Rattle.std.specs.Prelude.{ℕ, zero, suc, true, false, not, ◌&&◌, List, [], ◌∷◌, length, Some, None, ◌==◌, slice_index, slice_index_or}
use Rattle.terms.specs.Masks.{has, declared_each}
use Rattle.terms.specs.Scopes.{positions_of, question_at, mask_at, masks_at}
use Rattle.terms.specs.declared.line.Line.{Line}
use Rattle.terms.specs.declared.scope.Scope.{Scope}
use Rattle.books.specs.Plain.{Plain}
use Rattle.record.specs.State.{State, unscoped}
use Rattle.record.specs.Calls.{pushed, standing_each}

-- a step for each number below n, in rising order
unfoldable pub upto : (ℕ → State → State) → ℕ → State → State
upto f zero s = s
upto f (suc n) s = f n (upto f n s)

-- pick lines

abbrev pub pick_line : ℕ → ℕ → Line
pick_line q o = record { kind = 1; rule = 0; question = q; option = o; reason = 0 ∷ 0 ∷ 0 ∷ 0 ∷ [] }

-- a standing option of question q other than the picked one is crossed
unfoldable pub cross_other : ℕ → ℕ → ℕ → State → State
cross_other q x o s = elim (has (slice_index (standing_each s) q) o && not (o == x)) [ true ↦ pushed s (pick_line q o) | false ↦ s ]

unfoldable pub pick_question : ℕ → State → State
pick_question q s = elim (slice_index_or s.picks q None) [ None ↦ s | Some x ↦ upto (cross_other q x) 32 s ]

unfoldable pub pick_lines : State → State
pick_lines s = upto pick_question 16 s

-- rounds

abbrev pub noted_scope : State → ℕ → Scope
noted_scope s r = slice_index_or s.scopes r unscoped

abbrev pub declared_masks : State → Scope → List ℕ
declared_masks s scope = masks_at (declared_each s.count s.sizes) scope

abbrev pub standing_masks : State → Scope → List ℕ
standing_masks s scope = masks_at (standing_each s) scope

abbrev pub Reasons : Type 0
Reasons = ℕ → ℕ → ℕ → List ℕ → List ℕ → List ℕ

abbrev pub rule_line : Reasons → State → ℕ → ℕ → ℕ → Line
rule_line why s r p o = record {
  kind = 2;
  rule = r;
  question = question_at (noted_scope s r) p;
  option = o;
  reason = why r p o (declared_masks s (noted_scope s r)) (standing_masks s (noted_scope s r));
}

-- option o at position p of rule r is crossed if it stands and has no support
unfoldable pub visit_option : Plain → Reasons → ℕ → ℕ → ℕ → State → State
visit_option b why r p o s =
    elim (has (mask_at (standing_each s) (noted_scope s r) p) o && not (b.supports r p o (standing_masks s (noted_scope s r)))) [
      | true ↦ pushed s (rule_line why s r p o)
      | false ↦ s
    ]

unfoldable pub visit_position : Plain → Reasons → ℕ → ℕ → State → State
visit_position b why r p s = upto (visit_option b why r p) 32 s

unfoldable pub visit_rule : Plain → Reasons → ℕ → State → State
visit_rule b why r s = elim (has s.placed r) [ true ↦ upto (visit_position b why r) (positions_of (noted_scope s r)) s | false ↦ s ]

unfoldable pub round : Plain → Reasons → State → State
round b why s = upto (visit_rule b why) 64 s

-- rounds until one crosses nothing, at most n
unfoldable pub rounds : Plain → Reasons → ℕ → State → State
rounds b why zero s = s
rounds b why (suc n) s =
    let t : State = round b why s in
    elim (length t.log == length s.log) [ true ↦ t | false ↦ rounds b why n t ]

-- each round but the last writes a line, and a log has at most 512
unfoldable pub settled : Plain → Reasons → State → State
settled b why s = rounds b why 513 (pick_lines s)
