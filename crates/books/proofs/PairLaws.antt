-- A pair of lawful books is lawful, and its reasons are reasons. Assumes nothing.
use Rattle.std.proofs.Common.{◌≡◌, ℕ, ◌+◌, ◌-◌, ◌<◌, ◌≤◌, min, true, false, not, ◌&&◌, ltb, List, length, sym, ap, ◌∙◌, subst, inl, inr, arith}
use Rattle.std.proofs.lemmas.Bool.{false≢true, cases_lt, lt-ltb, le-ltb, ltb-true, ltb-false}
use Rattle.terms.specs.Scopes.{questions_of}
use Rattle.books.specs.Plain.{Plain, Supported, Tied, Lawful, positions, no_scope}
use Rattle.terms.specs.Masks.{within_each, less_each}
use Rattle.books.specs.Reasons.{owed, no_reason, Explains, Reasonable}
use Rattle.books.specs.Pair.{numbered, pair_model, pair_reasons}
use Rattle.books.proofs.OwingLaws.{owed_parts}

-- the number of a rule

pub in_first : {X : Type 0} (n : ℕ) (first second : ℕ → X) (lacks : X) (r : ℕ) → r < 64 → r < n → numbered n first second lacks r ≡ first r
unfolding numbered
in_first {X} n first second lacks r h l =
    ap (λ b. elim b as (λ _. X) [ true ↦ elim (ltb r n) as (λ _. X) [ true ↦ first r | false ↦ second (r - n) ] | false ↦ lacks ]) (lt-ltb r 64 h)
    ∙ ap (λ b. elim b as (λ _. X) [ true ↦ first r | false ↦ second (r - n) ]) (lt-ltb r n l)

pub in_second : {X : Type 0} (n : ℕ) (first second : ℕ → X) (lacks : X) (r : ℕ) → r < 64 → n ≤ r → numbered n first second lacks r ≡ second (r - n)
unfolding numbered
in_second {X} n first second lacks r h l =
    ap (λ b. elim b as (λ _. X) [ true ↦ elim (ltb r n) as (λ _. X) [ true ↦ first r | false ↦ second (r - n) ] | false ↦ lacks ]) (lt-ltb r 64 h)
    ∙ ap (λ b. elim b as (λ _. X) [ true ↦ first r | false ↦ second (r - n) ]) (le-ltb r n l)

pub in_neither : {X : Type 0} (n : ℕ) (first second : ℕ → X) (lacks : X) (r : ℕ) → 64 ≤ r → numbered n first second lacks r ≡ lacks
unfolding numbered
in_neither {X} n first second lacks r h =
    ap (λ b. elim b as (λ _. X) [ true ↦ elim (ltb r n) as (λ _. X) [ true ↦ first r | false ↦ second (r - n) ] | false ↦ lacks ]) (le-ltb r 64 h)

-- rule r of one book is rule q of another
record Same (c d : Plain) (r q : ℕ) : Type 0 where
  pub known : ltb r c.rules ≡ ltb q d.rules
  pub scope : c.scope r ≡ d.scope q
  pub allows : c.allows r ≡ d.allows q
  pub supports : c.supports r ≡ d.supports q

turned : {c d : Plain} {r q : ℕ} → Same c d r q → Same d c q r
turned s = record { known = sym s.known; scope = sym s.scope; allows = sym s.allows; supports = sym s.supports }

same_positions : {c d : Plain} {r q : ℕ} → Same c d r q → positions c r ≡ positions d q
same_positions s = ap (λ x. length (questions_of x)) s.scope

same_known : {c d : Plain} {r q : ℕ} → Same c d r q → q < d.rules → r < c.rules
same_known {c} {d} {r} {q} s h = ltb-true r c.rules (s.known ∙ lt-ltb q d.rules h)

same_supported : {c d : Plain} {r q : ℕ} {p o : ℕ} {masks : List ℕ} → Same c d r q → Supported d q p o masks → Supported c r p o masks
same_supported {c} {d} {r} {q} s t =
    let n = same_positions s in
    record {
      known = same_known s t.known;
      here = omega (arith, t.here);
      combination = t.combination;
      long = t.long ∙ sym n;
      options = λ j h. t.options j (omega arith);
      allowed = ap (λ f. f t.combination) s.allows ∙ t.allowed;
      takes = t.takes;
      others = λ j h. t.others j (omega arith);
    }

same_owed : {c d : Plain} {r q : ℕ} (p o : ℕ) (declared standing : List ℕ) → Same c d r q → owed c r p o declared standing ≡ owed d q p o declared standing
unfolding owed
same_owed {c} {d} {r} {q} p o declared standing s =
    ap (λ b. b && (ltb p (positions c r) && (ltb o 32 && (within_each standing declared && not (c.supports r p o standing))))) s.known
    ∙ ap (λ n. ltb q d.rules && (ltb p n && (ltb o 32 && (within_each standing declared && not (c.supports r p o standing))))) (same_positions s)
    ∙ ap (λ f. ltb q d.rules && (ltb p (positions d q) && (ltb o 32 && (within_each standing declared && not (f p o standing))))) s.supports

same_explains : {c d : Plain} {r q : ℕ} {p o : ℕ} {declared standing reason : List ℕ} → Same c d r q → Explains d q p o declared standing reason → Explains c r p o declared standing reason
same_explains {p = p} {o = o} {declared = declared} {reason = reason} s t =
    let n = same_positions s in
    record {
      four = t.four;
      crossed = t.crossed;
      elsewhere = t.elsewhere;
      past = λ j h. t.past j (omega arith);
      lacks = ap (λ f. f p o (less_each declared reason)) s.supports ∙ t.lacks;
    }

module _ (a b : Plain) where
  first_same : (r : ℕ) → r < 64 → r < a.rules → Same (pair_model a b) a r r
  unfolding pair_model
  first_same r h l =
      record {
        known = lt-ltb r (min 64 (a.rules + b.rules)) (omega arith) ∙ sym (lt-ltb r a.rules l);
        scope = in_first a.rules a.scope b.scope no_scope r h l;
        allows = in_first a.rules a.allows b.allows (λ t. false) r h l;
        supports = in_first a.rules a.supports b.supports (λ p o masks. false) r h l;
      }

  second_same : (r : ℕ) → r < 64 → a.rules ≤ r → Same (pair_model a b) b r (r - a.rules)
  unfolding pair_model
  second_same r h l =
      record {
        known =
            elim (cases_lt (r - a.rules) b.rules) [
              | inl k ↦ lt-ltb r (min 64 (a.rules + b.rules)) (omega arith) ∙ sym (lt-ltb (r - a.rules) b.rules k)
              | inr k ↦ le-ltb r (min 64 (a.rules + b.rules)) (omega arith) ∙ sym (le-ltb (r - a.rules) b.rules k)
            ];
        scope = in_second a.rules a.scope b.scope no_scope r h l;
        allows = in_second a.rules a.allows b.allows (λ t. false) r h l;
        supports = in_second a.rules a.supports b.supports (λ p o masks. false) r h l;
      }

  -- a rule from 64 up is not there
  high_scope : (r : ℕ) → 64 ≤ r → (pair_model a b).scope r ≡ no_scope
  unfolding pair_model
  high_scope r h = in_neither a.rules a.scope b.scope no_scope r h

  high_supports : (r : ℕ) → 64 ≤ r → (pair_model a b).supports r ≡ (λ p o masks. false)
  unfolding pair_model
  high_supports r h = in_neither a.rules a.supports b.supports (λ p o masks. false) r h

  pair_below : (r : ℕ) → r < (pair_model a b).rules → r < 64
  unfolding pair_model
  pair_below r h = omega arith

  few_64 : (pair_model a b).rules ≤ 64
  unfolding pair_model
  few_64 = omega arith

  pub pair_lawful : Lawful a → Lawful b → Lawful (pair_model a b)
  pair_lawful la lb =
      record {
        few = few_64;
        tied = λ r h. tied_pair r h;
        lacks = λ r h. lacks_pair r h;
        sound = λ r p o masks e. sound_pair r p o masks e;
        complete = λ r p o masks s. complete_pair r p o masks s;
      }
    where
      tied_pair : (r : ℕ) → r < (pair_model a b).rules → Tied (questions_of ((pair_model a b).scope r))
      tied_pair r h =
          let k = pair_below r h in
          elim (cases_lt r a.rules) [
            | inl l ↦ (let s = first_same r k l in subst (λ x. Tied (questions_of x)) (sym s.scope) (la.tied r l))
            | inr l ↦
                (let s = second_same r k l in
                subst (λ x. Tied (questions_of x)) (sym s.scope) (lb.tied (r - a.rules) (same_known (turned s) h)))
          ]

      lacks_pair : (r : ℕ) → (pair_model a b).rules ≤ r → (pair_model a b).scope r ≡ no_scope
      lacks_pair r h =
          elim (cases_lt r 64) [
            | inl k ↦
                elim (cases_lt r a.rules) [
                  | inl l ↦ (let s = first_same r k l in absurd (false≢true (sym (le-ltb r (pair_model a b).rules h) ∙ s.known ∙ lt-ltb r a.rules l)))
                  | inr l ↦
                      (let s = second_same r k l in
                      s.scope ∙ lb.lacks (r - a.rules) (ltb-false (r - a.rules) b.rules (sym s.known ∙ le-ltb r (pair_model a b).rules h)))
                ]
            | inr k ↦ high_scope r k
          ]

      sound_pair : (r p o : ℕ) (masks : List ℕ) → (pair_model a b).supports r p o masks ≡ true → Supported (pair_model a b) r p o masks
      sound_pair r p o masks e =
          elim (cases_lt r 64) [
            | inl k ↦
                elim (cases_lt r a.rules) [
                  | inl l ↦ (let s = first_same r k l in same_supported s (la.sound r p o masks (ap (λ f. f p o masks) (sym s.supports) ∙ e)))
                  | inr l ↦ (let s = second_same r k l in same_supported s (lb.sound (r - a.rules) p o masks (ap (λ f. f p o masks) (sym s.supports) ∙ e)))
                ]
            | inr k ↦ absurd (false≢true (sym (ap (λ f. f p o masks) (high_supports r k)) ∙ e))
          ]

      complete_pair : (r p o : ℕ) (masks : List ℕ) → Supported (pair_model a b) r p o masks → (pair_model a b).supports r p o masks ≡ true
      complete_pair r p o masks t =
          let k = pair_below r t.known in
          elim (cases_lt r a.rules) [
            | inl l ↦ (let s = first_same r k l in ap (λ f. f p o masks) s.supports ∙ la.complete r p o masks (same_supported (turned s) t))
            | inr l ↦ (let s = second_same r k l in ap (λ f. f p o masks) s.supports ∙ lb.complete (r - a.rules) p o masks (same_supported (turned s) t))
          ]

  module _ (f g : ℕ → ℕ → ℕ → List ℕ → List ℕ → List ℕ) where
    pub reason_first : (r p o : ℕ) (declared standing : List ℕ) → r < 64 → r < a.rules → pair_reasons a.rules f g r p o declared standing ≡ f r p o declared standing
    unfolding pair_reasons
    reason_first r p o declared standing h l = ap (λ x. x p o declared standing) (in_first a.rules f g (λ p o declared standing. no_reason) r h l)

    pub reason_second : (r p o : ℕ) (declared standing : List ℕ) → r < 64 → a.rules ≤ r → pair_reasons a.rules f g r p o declared standing ≡ g (r - a.rules) p o declared standing
    unfolding pair_reasons
    reason_second r p o declared standing h l = ap (λ x. x p o declared standing) (in_second a.rules f g (λ p o declared standing. no_reason) r h l)

    pub reason_neither : (r p o : ℕ) (declared standing : List ℕ) → 64 ≤ r → pair_reasons a.rules f g r p o declared standing ≡ no_reason
    unfolding pair_reasons
    reason_neither r p o declared standing h = ap (λ x. x p o declared standing) (in_neither a.rules f g (λ p o declared standing. no_reason) r h)

    pub pair_reasonable : Reasonable a f → Reasonable b g → Reasonable (pair_model a b) (pair_reasons a.rules f g)
    pair_reasonable ra rb = record { explains = explains_pair; otherwise = otherwise_pair }
      where
        explains_pair : (r p o : ℕ) (declared standing : List ℕ) → owed (pair_model a b) r p o declared standing ≡ true → Explains (pair_model a b) r p o declared standing (pair_reasons a.rules f g r p o declared standing)
        explains_pair r p o declared standing e =
            let k = pair_below r (owed_parts (pair_model a b) r p o declared standing e).0 in
            elim (cases_lt r a.rules) [
              | inl l ↦
                  (let s = first_same r k l in
                  subst (Explains (pair_model a b) r p o declared standing) (sym (reason_first r p o declared standing k l))
                  (same_explains s (ra.explains r p o declared standing (sym (same_owed p o declared standing s) ∙ e))))
              | inr l ↦
                  (let s = second_same r k l in
                  subst (Explains (pair_model a b) r p o declared standing) (sym (reason_second r p o declared standing k l))
                  (same_explains s (rb.explains (r - a.rules) p o declared standing (sym (same_owed p o declared standing s) ∙ e))))
            ]

        otherwise_pair : (r p o : ℕ) (declared standing : List ℕ) → owed (pair_model a b) r p o declared standing ≡ false → pair_reasons a.rules f g r p o declared standing ≡ no_reason
        otherwise_pair r p o declared standing e =
            elim (cases_lt r 64) [
              | inl k ↦
                  elim (cases_lt r a.rules) [
                    | inl l ↦
                        (let s = first_same r k l in
                        reason_first r p o declared standing k l ∙ ra.otherwise r p o declared standing (sym (same_owed p o declared standing s) ∙ e))
                    | inr l ↦
                        (let s = second_same r k l in
                        reason_second r p o declared standing k l ∙ rb.otherwise (r - a.rules) p o declared standing (sym (same_owed p o declared standing s) ∙ e))
                  ]
              | inr k ↦ reason_neither r p o declared standing k
            ]
