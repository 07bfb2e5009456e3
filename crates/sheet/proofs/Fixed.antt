-- Where settling ends, nothing more is crossed, and what stands is closed. Assumes nothing.
use Rattle.std.proofs.Common.{◌≡◌, ℕ, zero, suc, ◌+◌, ◌<◌, ◌≤◌, true, false, not, ◌&&◌, eqb, length, get_or, Some, None, Option, sym, refl, ap, ◌∙◌, subst, inl, inr, not-suc-le-zero, arith}
use Rattle.std.proofs.lemmas.List.{length_push}
use Rattle.std.proofs.lemmas.Bool.{both_ways, and_parts, and_from, and_cases, not-false, eqb-true, eqb-false, cases_Bool, cases_eq, cases_lt}
use Rattle.terms.specs.Masks.{has}
use Rattle.terms.specs.Scopes.{positions_of, question_at, mask_at, masks_at}
use Rattle.terms.proofs.ScopeLaws.{mask_here}
use Rattle.books.specs.Plain.{Plain, Lawful}
use Rattle.books.specs.Reasons.{Reasonable}
use Rattle.record.specs.State.{State}
use Rattle.record.specs.Sound.{Sound}
use Rattle.record.specs.Calls.{pushed, standing_each}
use Rattle.record.proofs.Heads.{total_le}
use Rattle.record.proofs.OpenLaws.{some_none}
use Rattle.record.proofs.SoundLaws.{push_sound, push_head}
use Rattle.sheet.specs.Settle.{Reasons, upto, pick_line, rule_line, noted_scope, standing_masks, cross_other, pick_question, pick_lines, visit_option, visit_position, visit_rule, round, rounds, settled}
use Rattle.sheet.specs.Valid.{Valid}
use Rattle.sheet.specs.Closed.{Closed, Greatest}
use Rattle.sheet.proofs.Later.{Later, later_same, later_on, later_push, later_lines, later_still, upto_later, upto_still, upto_keeps}
use Rattle.sheet.proofs.Lines.{pick_admissible}
use Rattle.sheet.proofs.Keeps.{by_test, cross_other_keeps, pick_question_keeps, pick_lines_sound, round_sound, settled_sound, settled_valid}
use Rattle.sheet.proofs.Outside.{greatest}
use Rattle.sheet.proofs.Standing.{stands, stands_declared, stands_uncrossed}

-- every step is later

pub cross_other_later : (q x o : ℕ) (s : State) → Later s (cross_other q x o s)
unfolding cross_other
cross_other_later q x o s = by_test (Later s) (has (get_or (standing_each s) q 0) o && not (eqb o x)) (pushed s (pick_line q o)) s (λ e. later_push s (pick_line q o)) (λ e. later_same s)

pub pick_question_later : (q : ℕ) (s : State) → Later s (pick_question q s)
unfolding pick_question
pick_question_later q s = go (get_or s.picks q None)
  where
    go : (p : Option ℕ) → Later s (elim p [ None ↦ s | Some x ↦ upto (cross_other q x) 32 s ])
    go None = later_same s
    go (Some x) = upto_later (cross_other q x) (cross_other_later q x) 32 s

pub pick_lines_later : (s : State) → Later s (pick_lines s)
unfolding pick_lines
pick_lines_later s = upto_later pick_question pick_question_later 16 s

module _ (b : Plain) (why : Reasons) where
  pub visit_option_later : (r p o : ℕ) (s : State) → Later s (visit_option b why r p o s)
  unfolding visit_option
  visit_option_later r p o s = by_test (Later s) (has (mask_at (standing_each s) (noted_scope s r) p) o && not (b.supports r p o (standing_masks s (noted_scope s r)))) (pushed s (rule_line why s r p o)) s (λ e. later_push s (rule_line why s r p o)) (λ e. later_same s)

  pub visit_position_later : (r p : ℕ) (s : State) → Later s (visit_position b why r p s)
  unfolding visit_position
  visit_position_later r p s = upto_later (visit_option b why r p) (visit_option_later r p) 32 s

  pub visit_rule_later : (r : ℕ) (s : State) → Later s (visit_rule b why r s)
  unfolding visit_rule
  visit_rule_later r s = by_test (Later s) (has s.placed r) (upto (visit_position b why r) (positions_of (noted_scope s r)) s) s (λ e. upto_later (visit_position b why r) (visit_position_later r) (positions_of (noted_scope s r)) s) (λ e. later_same s)

  pub round_later : (s : State) → Later s (round b why s)
  unfolding round
  round_later s = upto_later (visit_rule b why) visit_rule_later 64 s

  pub rounds_later : (n : ℕ) (s : State) → Later s (rounds b why n s)
  unfolding rounds
  rounds_later zero s = later_same s
  rounds_later (suc n) s = by_test (Later s) (eqb (length (round b why s).log) (length s.log)) (round b why s) (rounds b why n (round b why s)) (λ e. round_later s) (λ e. later_on s (round b why s) (rounds b why n (round b why s)) (round_later s) (rounds_later n (round b why s)))

  -- the rounds end in one that crosses nothing

  pub lines_few : (s : State) → Sound s → length s.log ≤ 512
  lines_few s sound = omega (arith, sound.counted, total_le s.crossed, sound.sixteen)

  pub rounds_end : Reasonable b why → (n : ℕ) (s : State) → Sound s → 512 < n + length s.log → round b why (rounds b why n s) ≡ rounds b why n s
  unfolding rounds
  rounds_end reasonable zero s sound h = absurd (omega (arith, lines_few s sound))
  rounds_end reasonable (suc n) s sound h = by_test (λ t. round b why t ≡ t) (eqb (length (round b why s).log) (length s.log)) (round b why s) (rounds b why n (round b why s))
      (λ e. ap (round b why) (later_still s (round b why s) (round_later s) (omega (arith, eqb-true _ _ e))))
      (λ e. rounds_end reasonable n (round b why s) (round_sound b why reasonable s sound) (omega (arith, eqb-false _ _ e, later_lines s (round b why s) (round_later s))))

  pub settled_still : Reasonable b why → (s : State) → Sound s → round b why (settled b why s) ≡ settled b why s
  unfolding settled
  settled_still reasonable s sound = rounds_end reasonable 513 (pick_lines s) (pick_lines_sound s sound) (omega arith)

-- of a picked question only the pick stands

abbrev pub Lone : State → ℕ → Type 0
Lone s q = (x o : ℕ) → get_or s.picks q None ≡ Some x → has (get_or (standing_each s) q 0) o ≡ true → o ≡ x

-- what stands later stood before
pub stood : (s t : State) → Sound s → Sound t → Later s t → (q o : ℕ) → has (get_or (standing_each t) q 0) o ≡ true → has (get_or (standing_each s) q 0) o ≡ true
stood s t i j l q o e =
    stands s i q o (subst (λ ss. o < get_or ss q 0) l.sizes (stands_declared t j q o e))
    (elim (cases_Bool (has (get_or s.crossed q 0) o)) [ inl f ↦ absurd (both_ways _ (stands_uncrossed t j q o e) (l.crossed q o f)) | inr f ↦ f ])

pub lone_later : (s t : State) → Sound s → Sound t → Later s t → (q : ℕ) → Lone s q → Lone t q
lone_later s t i j l q f x o p e = f x o (ap (λ ps. get_or ps q None) (sym l.picks) ∙ p) (stood s t i j l q o e)

any : State → Type 0
any t = Unit {0}

cross_sound : (q x o : ℕ) (s : State) → Sound s → get_or s.picks q None ≡ Some x → Sound (cross_other q x o s) × (get_or (cross_other q x o s).picks q None ≡ Some x)
unfolding any
cross_sound q x o s sound p = let k = cross_other_keeps any (λ s q x o i v p e n. tt) q x o s sound tt p in (k.0, k.2)

-- an option that was gone through is crossed, unless it is the pick
gone : (q x o : ℕ) (s : State) → Sound s → has (get_or (standing_each (cross_other q x o s)) q 0) o ≡ true → o ≡ x
unfolding cross_other
gone q x o s sound = by_test (λ t. has (get_or (standing_each t) q 0) o ≡ true → o ≡ x) (has (get_or (standing_each s) q 0) o && not (eqb o x)) (pushed s (pick_line q o)) s
    (λ e f. let g = and_parts (has (get_or (standing_each s) q 0) o) (not (eqb o x)) e in absurd (crossed g.0 f))
    (λ e f. elim (and_cases (has (get_or (standing_each s) q 0) o) (not (eqb o x)) e) [ inl g ↦ absurd (both_ways _ g f) | inr g ↦ eqb-true _ _ (not-false (eqb o x) g) ])
  where
    crossed : has (get_or (standing_each s) q 0) o ≡ true → has (get_or (standing_each (pushed s (pick_line q o))) q 0) o ≡ true → ⊥
    crossed e f =
        let ok = pick_admissible s sound q o e in
        both_ways _ (stands_uncrossed (pushed s (pick_line q o)) (push_sound s sound (pick_line q o) ok refl) q o f) (push_head s sound (pick_line q o) ok)

settling_picks : (q x n : ℕ) (s : State) → Sound s → get_or s.picks q None ≡ Some x → (o : ℕ) → o < n → has (get_or (standing_each (upto (cross_other q x) n s)) q 0) o ≡ true → o ≡ x
unfolding upto
settling_picks q x zero s sound p o h e = absurd (not-suc-le-zero h)
settling_picks q x (suc n) s sound p o h e =
    let kept : (m : ℕ) → Sound (upto (cross_other q x) m s) × (get_or (upto (cross_other q x) m s).picks q None ≡ Some x) = λ m. upto_keeps (λ t. Sound t × (get_or t.picks q None ≡ Some x)) (cross_other q x) m (λ i l t c. cross_sound q x i t c.0 c.1) s (sound, p) in
    let t = upto (cross_other q x) n s in
    elim (cases_eq o n) [
      | inl same ↦ gone q x o t (kept n).0 (ap (λ k. has (get_or (standing_each (cross_other q x k t)) q 0) o) same ∙ e)
      | inr other ↦ settling_picks q x n s sound p o (omega arith) (stood t (cross_other q x n t) (kept n).0 (cross_sound q x n t (kept n).0 (kept n).1).0 (cross_other_later q x n t) q o e)
    ]

lone_question : (q : ℕ) (s : State) → Sound s → Lone (pick_question q s) q
unfolding pick_question
lone_question q s sound = go (get_or s.picks q None) refl
  where
    go : (p : Option ℕ) → get_or s.picks q None ≡ p → Lone (elim p [ None ↦ s | Some x ↦ upto (cross_other q x) 32 s ]) q
    go None e x o p f = absurd (some_none x (sym p ∙ e))
    go (Some y) e x o p f =
        let kept = upto_keeps (λ t. Sound t × (get_or t.picks q None ≡ Some y)) (cross_other q y) 32 (λ i l t c. cross_sound q y i t c.0 c.1) s (sound, e) in
        let same : Some y ≡ Some x = sym kept.1 ∙ p in
        let is : y ≡ x = cc in
        let small : o < 32 = omega (arith, stands_declared (upto (cross_other q y) 32 s) kept.0 q o f, kept.0.small q) in
        settling_picks q y 32 s sound e o small f ∙ is

question_sound : (q : ℕ) (s : State) → Sound s → Sound (pick_question q s)
unfolding any
question_sound q s sound = (pick_question_keeps any (λ s q x o i v p e n. tt) q s (sound, tt)).0

lone_below : (n : ℕ) (s : State) → Sound s → (q : ℕ) → q < n → Lone (upto pick_question n s) q
unfolding upto
lone_below zero s sound q h = absurd (not-suc-le-zero h)
lone_below (suc n) s sound q h =
    let t = upto pick_question n s in
    let i : Sound t = upto_keeps Sound pick_question n (λ k l u j. question_sound k u j) s sound in
    elim (cases_eq q n) [
      | inl e ↦ subst (λ k. Lone (pick_question k t) q) e (lone_question q t i)
      | inr e ↦ lone_later t (pick_question n t) i (question_sound n t i) (pick_question_later n t) q (lone_below n s sound q (omega arith))
    ]

pub picks_lone : (s : State) → Sound s → (q : ℕ) → Lone (pick_lines s) q
unfolding pick_lines
picks_lone s sound q x o p e =
    let i : Sound (upto pick_question 16 s) = upto_keeps Sound pick_question 16 (λ k l u j. question_sound k u j) s sound in
    elim (cases_lt q 16) [
      | inl h ↦ lone_below 16 s sound q h x o p e
      | inr h ↦ absurd (omega (arith, i.picked q x p, i.past q (omega (arith, i.few))))
    ]

-- a state that a round leaves as it is supports what stands

module _ (b : Plain) (why : Reasons) (s : State) (still : round b why s ≡ s) where
  option_still : (r p o : ℕ) → r < 64 → has s.placed r ≡ true → p < positions_of (noted_scope s r) → o < 32 → visit_option b why r p o s ≡ s
  unfolding round visit_rule visit_position
  option_still r p o hr placed hp ho =
      let whole : visit_rule b why r s ≡ s = upto_still (visit_rule b why) (visit_rule_later b why) 64 s (omega (arith, ap (λ t. length t.log) still)) r hr in
      let rule : upto (visit_position b why r) (positions_of (noted_scope s r)) s ≡ s = ap (λ t. elim t [ true ↦ upto (visit_position b why r) (positions_of (noted_scope s r)) s | false ↦ s ]) (sym placed) ∙ whole in
      let position : visit_position b why r p s ≡ s = upto_still (visit_position b why r) (visit_position_later b why r) (positions_of (noted_scope s r)) s (omega (arith, ap (λ t. length t.log) rule)) p hp in
      upto_still (visit_option b why r p) (visit_option_later b why r p) 32 s (omega (arith, ap (λ t. length t.log) position)) o ho

  pub still_supports : (r p o : ℕ) → r < 64 → has s.placed r ≡ true → p < positions_of (noted_scope s r) → o < 32 → has (mask_at (standing_each s) (noted_scope s r) p) o ≡ true → b.supports r p o (standing_masks s (noted_scope s r)) ≡ true
  unfolding visit_option pushed
  still_supports r p o hr placed hp ho e = elim (cases_Bool (b.supports r p o (standing_masks s (noted_scope s r)))) [
    | inl f ↦ f
    | inr f ↦
        (let t : (has (mask_at (standing_each s) (noted_scope s r) p) o && not (b.supports r p o (standing_masks s (noted_scope s r)))) ≡ true = and_from _ _ e (ap not f) in
        let again : pushed s (rule_line why s r p o) ≡ s = ap (λ v. elim v [ true ↦ pushed s (rule_line why s r p o) | false ↦ s ]) (sym t) ∙ option_still r p o hr placed hp ho in
        absurd (omega (arith, ap (λ u. length u.log) again, length_push s.log (rule_line why s r p o))))
  ]

pub closed_still : (b : Plain) (why : Reasons) → Lawful b → (s : State) → Sound s → Valid b s → ((q : ℕ) → Lone s q) → round b why s ≡ s → Closed b s (standing_each s)
closed_still b why lawful s sound v lone still q o e = record {
  declared = stands_declared s sound q o e;
  agrees = λ x p. lone q x o p e;
  supported = λ r p placed here asked.
      let n = v.noted r placed in
      let is = n.scope in
      let hp : p < positions_of (noted_scope s r) = subst (λ c. p < positions_of c) (sym is) here in
      let at : has (mask_at (standing_each s) (noted_scope s r) p) o ≡ true =
      ap (λ m. has m o) (mask_here (standing_each s) (noted_scope s r) p hp) ∙ ap (λ k. has (get_or (standing_each s) k 0) o) (ap (λ c. question_at c p) is ∙ asked) ∙ e in
      let u = still_supports b why s still r p o (omega (arith, n.known, lawful.few)) placed hp (omega (arith, stands_declared s sound q o e, sound.small q)) at in
      lawful.sound r p o (masks_at (standing_each s) (b.scope r)) (subst (λ c. b.supports r p o (masks_at (standing_each s) c) ≡ true) is u);
}

-- after a settle that began with a valid log the standing options are closed, and every other closed set lies within them
pub settled_closed : (b : Plain) (why : Reasons) → Lawful b → Reasonable b why → (s : State) → Sound s → Valid b s → Closed b (settled b why s) (standing_each (settled b why s))
unfolding settled
settled_closed b why lawful reasonable s sound v =
    let i = settled_sound b why reasonable s sound in
    let j = pick_lines_sound s sound in
    closed_still b why lawful (settled b why s) i (settled_valid b why reasonable s sound v)
    (λ q. lone_later (pick_lines s) (settled b why s) j i (rounds_later b why 513 (pick_lines s)) q (picks_lone s sound q))
    (settled_still b why reasonable s sound)

pub settled_greatest : (b : Plain) (why : Reasons) → Lawful b → Reasonable b why → (s : State) → Sound s → Valid b s → Greatest b (settled b why s) (standing_each (settled b why s))
settled_greatest b why lawful reasonable s sound v = greatest b lawful (settled b why s) (settled_sound b why reasonable s sound) (settled_valid b why reasonable s sound v)
