-- What one step of settling does, by its tests. Assumes nothing.
use Rattle.std.proofs.Common.{◌≡◌, ℕ, zero, suc, ◌+◌, ◌<◌, ◌≤◌, true, false, not, eqb, length, get_or, Some, None, sym, ap, ◌∙◌, add-one, arith}
use Rattle.std.proofs.lemmas.Bool.{and_left, and_right, and_from, eq-eqb, ne_eqb, eqb-false}
use Rattle.terms.specs.Masks.{has}
use Rattle.terms.specs.Scopes.{mask_at, positions_of}
use Rattle.books.specs.Plain.{Plain}
use Rattle.record.specs.State.{State}
use Rattle.record.specs.Calls.{pushed, standing_each}
use Rattle.sheet.specs.Settle.{Reasons, upto, pick_line, rule_line, noted_scope, standing_masks, cross_other, pick_question, visit_option, visit_position, visit_rule, round, rounds}

-- one step more
pub upto_more : (f : ℕ → State → State) (n : ℕ) (s : State) → f n (upto f n s) ≡ upto f (n + 1) s
unfolding upto
upto_more f n s = ap (λ k. upto f k s) (sym (add-one n))

module _ (q x o : ℕ) (s : State) where
  pub other_fallen : has (get_or (standing_each s) q 0) o ≡ false → s ≡ cross_other q x o s
  unfolding cross_other
  other_fallen e = ap (λ t. elim t [ true ↦ pushed s (pick_line q o) | false ↦ s ]) (sym (and_left _ (not (eqb o x)) e))

  pub other_picked : o ≡ x → s ≡ cross_other q x o s
  unfolding cross_other
  other_picked e = ap (λ t. elim t [ true ↦ pushed s (pick_line q o) | false ↦ s ]) (sym (and_right (has (get_or (standing_each s) q 0) o) _ (ap not (eq-eqb o x e))))

  pub other_crossed : has (get_or (standing_each s) q 0) o ≡ true → (o ≡ x → ⊥) → pushed s (pick_line q o) ≡ cross_other q x o s
  unfolding cross_other
  other_crossed e n = ap (λ t. elim t [ true ↦ pushed s (pick_line q o) | false ↦ s ]) (sym (and_from _ _ e (ap not (ne_eqb o x n))))

module _ (b : Plain) (why : Reasons) (r p o : ℕ) (s : State) where
  pub visit_fallen : has (mask_at (standing_each s) (noted_scope s r) p) o ≡ false → s ≡ visit_option b why r p o s
  unfolding visit_option
  visit_fallen e = ap (λ t. elim t [ true ↦ pushed s (rule_line why s r p o) | false ↦ s ]) (sym (and_left _ (not (b.supports r p o (standing_masks s (noted_scope s r)))) e))

  pub visit_supported : b.supports r p o (standing_masks s (noted_scope s r)) ≡ true → s ≡ visit_option b why r p o s
  unfolding visit_option
  visit_supported e = ap (λ t. elim t [ true ↦ pushed s (rule_line why s r p o) | false ↦ s ]) (sym (and_right (has (mask_at (standing_each s) (noted_scope s r) p) o) _ (ap not e)))

  pub visit_crossed : has (mask_at (standing_each s) (noted_scope s r) p) o ≡ true → b.supports r p o (standing_masks s (noted_scope s r)) ≡ false → pushed s (rule_line why s r p o) ≡ visit_option b why r p o s
  unfolding visit_option
  visit_crossed e f = ap (λ t. elim t [ true ↦ pushed s (rule_line why s r p o) | false ↦ s ]) (sym (and_from _ _ e (ap not f)))

more_rounds : (b : Plain) (why : Reasons) (s : State) (m : ℕ) → eqb (length (round b why s).log) (length s.log) ≡ false → rounds b why m (round b why s) ≡ rounds b why (suc m) s
unfolding rounds
more_rounds b why s m e = ap (λ t. elim t [ true ↦ round b why s | false ↦ rounds b why m (round b why s) ]) (sym e)

last_round : (b : Plain) (why : Reasons) (s : State) (m : ℕ) → eqb (length (round b why s).log) (length s.log) ≡ true → round b why s ≡ rounds b why (suc m) s
unfolding rounds
last_round b why s m e = ap (λ t. elim t [ true ↦ round b why s | false ↦ rounds b why m (round b why s) ]) (sym e)

module _ (q : ℕ) (s : State) where
  pub question_picked : (x : ℕ) → get_or s.picks q None ≡ Some x → upto (cross_other q x) 32 s ≡ pick_question q s
  unfolding pick_question
  question_picked x e = ap (λ p. elim p [ None ↦ s | Some y ↦ upto (cross_other q y) 32 s ]) (sym e)

  pub question_unpicked : get_or s.picks q None ≡ None → s ≡ pick_question q s
  unfolding pick_question
  question_unpicked e = ap (λ p. elim p [ None ↦ s | Some y ↦ upto (cross_other q y) 32 s ]) (sym e)

module _ (b : Plain) (why : Reasons) (s : State) where
  pub rule_placed : (r : ℕ) → has s.placed r ≡ true → upto (visit_position b why r) (positions_of (noted_scope s r)) s ≡ visit_rule b why r s
  unfolding visit_rule
  rule_placed r e = ap (λ t. elim t [ true ↦ upto (visit_position b why r) (positions_of (noted_scope s r)) s | false ↦ s ]) (sym e)

  pub rule_absent : (r : ℕ) → has s.placed r ≡ false → s ≡ visit_rule b why r s
  unfolding visit_rule
  rule_absent r e = ap (λ t. elim t [ true ↦ upto (visit_position b why r) (positions_of (noted_scope s r)) s | false ↦ s ]) (sym e)

  -- a round that wrote something is followed by others, of which there are enough
  pub rounds_on : (t end : State) → t ≡ round b why s → eqb (length t.log) (length s.log) ≡ false → length s.log ≤ length t.log → length s.log ≤ 512 →
      ((n : ℕ) × (512 < n + length s.log) × (rounds b why n s ≡ end)) → (n : ℕ) × (512 < n + length t.log) × (rounds b why n t ≡ end)
  rounds_on t end is loud grown few (n, enough, comes) = go n enough comes
    where
      go : (n : ℕ) → 512 < n + length s.log → rounds b why n s ≡ end → (m : ℕ) × (512 < m + length t.log) × (rounds b why m t ≡ end)
      go zero h e = absurd (omega arith)
      go (suc m) h e = (m, omega (arith, eqb-false (length t.log) (length s.log) loud), ap (rounds b why m) is ∙ more_rounds b why s m (ap (λ u. eqb (length u.log) (length s.log)) (sym is) ∙ loud) ∙ e)

  -- one that wrote nothing is the last
  pub rounds_over : (t end : State) → t ≡ round b why s → eqb (length t.log) (length s.log) ≡ true → length s.log ≤ 512 →
      ((n : ℕ) × (512 < n + length s.log) × (rounds b why n s ≡ end)) → t ≡ end
  rounds_over t end is quiet few (n, enough, comes) = go n enough comes
    where
      go : (n : ℕ) → 512 < n + length s.log → rounds b why n s ≡ end → t ≡ end
      go zero h e = absurd (omega arith)
      go (suc m) h e = is ∙ last_round b why s m (ap (λ u. eqb (length u.log) (length s.log)) (sym is) ∙ quiet) ∙ e
