-- Rules that want a distance between two options. Assumes nothing.
use Rattle.std.specs.Prelude.{ℕ, Bool, ◌&&◌, List, ℤ, pos, negsuc, ◌+ℤ◌, Option, int_le}
use Rattle.terms.specs.declared.refusal.Refusal.{Refusal}
use Rattle.terms.specs.declared.refusal.Refusal.TheVariants.{DistanceOutOfRange}
use Rattle.gaps.specs.declared.gap.GapRule.{GapRule}
use Rattle.books.specs.Plain.{Plain, no_scope}
use Rattle.books.specs.Questions.{refused_unless}
use Rattle.books.specs.Twos.{two_fault, rules_model, rules_reasons}

-- a and b are at least k apart: a + k ≤ b
abbrev pub keeps : ℤ → ℕ → ℕ → Bool
keeps k a b = int_le (pos a +ℤ k) (pos b)

-- from -31 to 31
abbrev pub in_reach : ℤ → Bool
in_reach k = int_le (negsuc 30) k && int_le k (pos 31)

-- rule number r has a distance that is out of range
abbrev pub far : GapRule → ℕ → Option Refusal
far g r = refused_unless (in_reach g.distance) (DistanceOutOfRange r)

-- a rule that is not there
abbrev pub no_gap : GapRule
no_gap = record { scope = no_scope; distance = pos 0 }

-- the first fault of the rules handed in
unfoldable pub gap_fault : List GapRule → Option Refusal
gap_fault = two_fault (λ g. g.scope) far

unfoldable pub gap_model : List GapRule → Plain
gap_model = rules_model (λ g. g.scope) (λ g. keeps g.distance) no_gap

unfoldable pub gap_reasons : List GapRule → ℕ → ℕ → ℕ → List ℕ → List ℕ → List ℕ
gap_reasons = rules_reasons (λ g. g.scope) (λ g. keeps g.distance) no_gap
