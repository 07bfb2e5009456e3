-- Opening, placing and picking keep a log valid. Assumes nothing.
use Rattle.std.proofs.Common.{◌≡◌, ℕ, ◌<◌, ◌≤◌, false, not, eqb, ltb, List, length, get_or, take, is_some, Some, None, Option, sym, refl, ap, ◌∙◌, subst, inl, inr, not-suc-le-zero, arith}
use Rattle.std.proofs.lemmas.List.{get_or-set_same, get_or-set_other}
use Rattle.std.proofs.lemmas.Bool.{both_ways, or_cases, or_left, eqb-true, ltb-true, lt-ltb, le-ltb, not-false}
use Rattle.terms.specs.Masks.{has}
use Rattle.terms.specs.Scopes.{questions_of}
use Rattle.terms.specs.declared.line.Line.{Line}
use Rattle.terms.specs.declared.refusal.Refusal.{Refusal}
use Rattle.terms.specs.declared.refusal.Refusal.TheVariants.{NoSuchQuestion, NoSuchOption, NoSuchRule, RuleOffSheet, PlacementStands, PickStands}
use Rattle.terms.proofs.MaskLaws.{has_none, has-with_rule}
use Rattle.books.specs.Plain.{Plain, Lawful}
use Rattle.record.specs.State.{State, no_line, unscoped}
use Rattle.record.specs.Told.{refuse, unless}
use Rattle.record.specs.Calls.{opened, all_below, place_fault, noted_rule, pick_fault, noted_pick}
use Rattle.record.proofs.OpenLaws.{some_none, passed_all}
use Rattle.sheet.specs.Calls.{rule_fault}
use Rattle.sheet.specs.Valid.{Noted, Valid, ValidLine, ValidLine.by_pick, ValidLine.by_rule}

pub open_valid : (b : Plain) (sizes : List ℕ) → Valid b (opened sizes)
unfolding opened
open_valid b sizes = record {
  noted = λ r e. absurd (both_ways _ (has_none r) e);
  lines = λ k h. absurd (not-suc-le-zero h);
}

-- a denied call leaves a valid log as it was
pub unless_keeps : (P : State → Type 0) (t : Option Refusal) (old new : State) → P old → (t ≡ None → P new) → P (unless t old new)
unless_keeps P None old new p f = f refl
unless_keeps P (Some e) old new p f = p

module _ (b : Plain) (s : State) (r : ℕ) where
  -- the record refuses as the sheet does, once the book has the rule
  pub same_fault : Lawful b → r < b.rules → place_fault s r (b.scope r) ≡ rule_fault b s r
  unfolding place_fault rule_fault
  same_fault lawful h =
      ap (λ t. refuse (not t) (NoSuchRule r) (refuse (not (all_below s.count (questions_of (b.scope r)))) (RuleOffSheet r) (refuse (has s.placed r) (PlacementStands r) None)))
      (lt-ltb r 64 (omega (arith, lawful.few)) ∙ sym (lt-ltb r b.rules h))

  pub no_rule : b.rules ≤ r → Some (NoSuchRule r) ≡ rule_fault b s r
  unfolding rule_fault
  no_rule h = ap (λ t. refuse (not t) (NoSuchRule r) (refuse (not (all_below s.count (questions_of (b.scope r)))) (RuleOffSheet r) (refuse (has s.placed r) (PlacementStands r) None))) (sym (le-ltb r b.rules h))

  pub place_valid : Lawful b → length s.scopes ≡ 64 → rule_fault b s r ≡ None → Valid b s → Valid b (noted_rule s r (b.scope r))
  unfolding rule_fault noted_rule
  place_valid lawful long granted v =
      let tests = passed_all (not (ltb r b.rules)) (not (all_below s.count (questions_of (b.scope r)))) (has s.placed r) (NoSuchRule r) (RuleOffSheet r) (PlacementStands r) granted in
      let known : r < b.rules = ltb-true _ _ (not-false (ltb r b.rules) tests.0) in
      let small : r < 64 = omega (arith, lawful.few) in
      let fresh : has s.placed r ≡ false = tests.2 in
      let new : State = noted_rule s r (b.scope r) in
      record {
        noted = λ k e. elim (or_cases (has s.placed k) (eqb r k) (sym (has-with_rule s.placed r k small) ∙ e)) [
          | inl f ↦
              (let other : k ≡ r → ⊥ = λ same. both_ways _ fresh (ap (has s.placed) (sym same) ∙ f) in
              record { known = (v.noted k f).known; scope = get_or-set_other s.scopes r k (b.scope r) unscoped other ∙ (v.noted k f).scope; on_sheet = (v.noted k f).on_sheet })
          | inr f ↦
              subst (Noted b new) (eqb-true r k f)
              (record { known = known; scope = get_or-set_same s.scopes r (b.scope r) unscoped (omega arith); on_sheet = not-false _ tests.1 })
        ];
        lines = λ k h. more (take k s.log) (get_or s.log k no_line) small (v.lines k h);
      }
    where
      more : (earlier : List Line) (l : Line) → r < 64 → ValidLine b s earlier l → ValidLine b (noted_rule s r (b.scope r)) earlier l
      more earlier l small (by_pick x kind picked other) = by_pick x kind picked other
      more earlier l small (by_rule p kind placed here asked reason lacks) = by_rule p kind (has-with_rule s.placed r l.rule small ∙ or_left _ _ placed) here asked reason lacks

pub pick_valid : (b : Plain) (s : State) (q o : ℕ) → pick_fault s q o ≡ None → Valid b s → Valid b (noted_pick s q o)
unfolding pick_fault noted_pick
pick_valid b s q o granted v =
    let tests = passed_all (not (ltb q s.count)) (not (ltb o (get_or s.sizes q 0))) (is_some (get_or s.picks q None)) (NoSuchQuestion q) (NoSuchOption q) (PickStands q) granted in
    record {
      noted = λ r e. record { known = (v.noted r e).known; scope = (v.noted r e).scope; on_sheet = (v.noted r e).on_sheet };
      lines = λ k h. more (take k s.log) (get_or s.log k no_line) (unpicked (get_or s.picks q None) tests.2) (v.lines k h);
    }
  where
    unpicked : (p : Option ℕ) → is_some p ≡ false → (x : ℕ) → p ≡ Some x → ⊥
    unpicked None e x f = some_none x (sym f)
    unpicked (Some y) e x f = both_ways _ e refl

    more : (earlier : List Line) (l : Line) → ((x : ℕ) → get_or s.picks q None ≡ Some x → ⊥) → ValidLine b s earlier l → ValidLine b (noted_pick s q o) earlier l
    more earlier l none (by_pick x kind picked other) =
        by_pick x kind (get_or-set_other s.picks q l.question (Some o) None (λ same. none x (ap (λ k. get_or s.picks k None) (sym same) ∙ picked)) ∙ picked) other
    more earlier l none (by_rule p kind placed here asked reason lacks) = by_rule p kind placed here asked reason lacks
