-- What each call on the record does, from plain values. Assumes nothing.
use Rattle.std.specs.Prelude.{ℕ, suc, ◌-◌, Bool, true, cond, not, ◌&&◌, ◌||◌, List, [], ◌∷◌, ◌++◌, length, take, drop, replicate, is_some, Some, None, Option, ◌==◌, nat_lt, slice_index, slice_index_or, slice_set}
use Rattle.terms.specs.Masks.{has, with, less_each, declared_each, within_each, with_rule}
use Rattle.terms.specs.Scopes.{questions_of, masks_at}
use Rattle.terms.specs.declared.line.Line.{Line}
use Rattle.terms.specs.declared.scope.Scope.{Scope}
use Rattle.terms.specs.declared.refusal.Refusal.{Refusal}
use Rattle.terms.specs.declared.refusal.Refusal.TheVariants.{QuestionCount, SizeOutOfRange, NoSuchQuestion, NoSuchOption, NoSuchRule, RuleOffSheet, PlacementStands, PickStands, TooFewLines}
use Rattle.record.specs.State.{State, unscoped}
use Rattle.record.specs.Told.{refuse}

-- opening

-- the first size that is 0 or above 32, counted from question q
unfoldable pub size_fault : ℕ → List ℕ → Option Refusal
size_fault q [] = None
size_fault q (n ∷ ns) = refuse (n == 0 || nat_lt 32 n) (SizeOutOfRange q) (size_fault (suc q) ns)

unfoldable pub open_fault : List ℕ → Option Refusal
open_fault sizes = refuse (length sizes == 0 || nat_lt 16 (length sizes)) QuestionCount (size_fault 0 sizes)

-- no picks, no placed rules, an empty log
unfoldable pub opened : List ℕ → State
opened sizes = record {
  count = length sizes;
  sizes = sizes ++ replicate (16 - length sizes) 0;
  picks = replicate 16 None;
  placed = 0;
  scopes = replicate 64 unscoped;
  crossed = replicate 16 0;
  log = [];
}

-- noting rules and picks

unfoldable pub all_below : ℕ → List ℕ → Bool
all_below n [] = true
all_below n (q ∷ qs) = nat_lt q n && all_below n qs

-- a sheet has room for the rules 0 to 63
unfoldable pub place_fault : State → ℕ → Scope → Option Refusal
place_fault s r scope =
    refuse (not (nat_lt r 64)) (NoSuchRule r)
    (refuse (not (all_below s.count (questions_of scope))) (RuleOffSheet r)
    (refuse (has s.placed r) (PlacementStands r) None))

unfoldable pub noted_rule : State → ℕ → Scope → State
noted_rule s r scope = record {
  count = s.count;
  sizes = s.sizes;
  picks = s.picks;
  placed = with_rule s.placed r;
  scopes = slice_set s.scopes r scope;
  crossed = s.crossed;
  log = s.log;
}

unfoldable pub pick_fault : State → ℕ → ℕ → Option Refusal
pick_fault s q o =
    refuse (not (nat_lt q s.count)) (NoSuchQuestion q)
    (refuse (not (nat_lt o (slice_index s.sizes q))) (NoSuchOption q)
    (refuse (is_some (slice_index_or s.picks q None)) (PickStands q) None))

unfoldable pub noted_pick : State → ℕ → ℕ → State
noted_pick s q o = record {
  count = s.count;
  sizes = s.sizes;
  picks = slice_set s.picks q (Some o);
  placed = s.placed;
  scopes = s.scopes;
  crossed = s.crossed;
  log = s.log;
}

-- crossing

-- the crossed options at the positions of a placed rule
unfoldable pub crossed_at : State → ℕ → List ℕ
crossed_at s r = cond (has s.placed r) (masks_at s.crossed (slice_index_or s.scopes r unscoped)) (0 ∷ 0 ∷ 0 ∷ 0 ∷ [])

-- a line may come next: its head is declared and stands, and its reason holds only crossed options of its rule's questions
unfoldable pub admissible : State → Line → Bool
admissible s l =
    nat_lt l.option (slice_index s.sizes l.question)
    && (not (has (slice_index s.crossed l.question) l.option) && within_each l.reason (crossed_at s l.rule))

-- the line is written and its head crossed
unfoldable pub pushed : State → Line → State
pushed s l = record {
  count = s.count;
  sizes = s.sizes;
  picks = s.picks;
  placed = s.placed;
  scopes = s.scopes;
  crossed = slice_set s.crossed l.question (with (slice_index s.crossed l.question) l.option);
  log = s.log ++ l ∷ [];
}

-- looking

unfoldable pub standing_each : State → List ℕ
standing_each s = less_each (declared_each s.count s.sizes) s.crossed

-- lines written over a buffer from its first place: the first that fit, and later places untouched
unfoldable pub overlaid : List Line → List Line → List Line
overlaid log buffer = take (length buffer) log ++ drop (length log) buffer

unfoldable pub copy_fault : List Line → List Line → Option Refusal
copy_fault log buffer = refuse (nat_lt (length buffer) (length log)) TooFewLines None
