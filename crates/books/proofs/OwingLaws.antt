-- When a reason is owed, test by test, and what masks hold less a reason. Assumes nothing.
use Rattle.std.proofs.Common.{length, min, arith, length-take, ◌≡◌, ℕ, ◌<◌, ◌≤◌, true, false, not, ◌&&◌, ltb, List, get_or, sym, refl, ap, ◌∙◌}
use Rattle.std.proofs.lemmas.Bool.{and_left, and_right, and_parts, lt-ltb, le-ltb, ltb-true, not-true}
use Rattle.terms.specs.Masks.{has, less_each, within_each}
use Rattle.terms.proofs.MaskLaws.{get_or-less_each, has-less}
use Rattle.terms.specs.Scopes.{questions_of}
use Rattle.terms.specs.declared.scope.Scope.{Scope}
use Rattle.books.specs.Plain.{Plain, positions}
use Rattle.books.specs.Reasons.{owed}
use Rattle.books.proofs.Conjunctions.{fails, holds}

-- masks less others, at each position
pub has-less_each : (ms ns : List ℕ) (j x : ℕ) → has (get_or (less_each ms ns) j 0) x ≡ (has (get_or ms j 0) x && not (has (get_or ns j 0) x))
has-less_each ms ns j x = ap (λ m. has m x) (get_or-less_each ms ns j) ∙ has-less (get_or ms j 0) (get_or ns j 0) x

-- how many questions there are, however they are counted
pub counted : (s : Scope) → length s.questions ≡ 4 → min s.count 4 ≡ length (questions_of s)
counted s h = omega (arith, length-take s.count s.questions)

module _ (b : Plain) (r p o : ℕ) (declared standing : List ℕ) where
  pub no_rule : b.rules ≤ r → false ≡ owed b r p o declared standing
  unfolding owed
  no_rule h = fails (ltb r b.rules) _ (le-ltb r b.rules h)

  pub no_position : positions b r ≤ p → false ≡ owed b r p o declared standing
  unfolding owed
  no_position h = sym (and_right (ltb r b.rules) _ (and_left (ltb p (positions b r)) _ (le-ltb p (positions b r) h)))

  pub no_option : 32 ≤ o → false ≡ owed b r p o declared standing
  unfolding owed
  no_option h = sym (and_right (ltb r b.rules) _ (and_right (ltb p (positions b r)) _ (and_left (ltb o 32) _ (le-ltb o 32 h))))

  pub undeclared : within_each standing declared ≡ false → false ≡ owed b r p o declared standing
  unfolding owed
  undeclared e = sym (and_right (ltb r b.rules) _ (and_right (ltb p (positions b r)) _ (and_right (ltb o 32) _ (and_left (within_each standing declared) _ e))))

  pub unsupported : r < b.rules → p < positions b r → o < 32 → within_each standing declared ≡ true → not (b.supports r p o standing) ≡ owed b r p o declared standing
  unfolding owed
  unsupported h l k e =
      holds (ltb r b.rules) _ _ (lt-ltb r b.rules h)
      (holds (ltb p (positions b r)) _ _ (lt-ltb p (positions b r) l) (holds (ltb o 32) _ _ (lt-ltb o 32 k) (holds (within_each standing declared) _ _ e refl)))

  pub owed_parts : owed b r p o declared standing ≡ true → (r < b.rules) × (p < positions b r) × (o < 32) × (within_each standing declared ≡ true) × (b.supports r p o standing ≡ false)
  unfolding owed
  owed_parts e =
      let x = and_parts (ltb r b.rules) _ e in
      let y = and_parts (ltb p (positions b r)) _ x.1 in
      let z = and_parts (ltb o 32) _ y.1 in
      let w = and_parts (within_each standing declared) _ z.1 in
      (ltb-true r b.rules x.0, ltb-true p (positions b r) y.0, ltb-true o 32 z.0, w.0, not-true _ w.1)
