-- What holds of every sheet at all times. Assumes nothing.
use Rattle.std.specs.Prelude.{◌≡◌, ℕ, ◌<◌, ◌≤◌, Bool, true, false, ◌&&◌, List, length, get_or, take, Some, None, Option, nat_lt, slice_index, slice_index_or}
use Rattle.terms.specs.Masks.{has}
use Rattle.terms.specs.Scopes.{positions_of, question_at}
use Rattle.terms.specs.declared.line.Line.{Line}
use Rattle.terms.specs.declared.scope.Scope.{Scope}
use Rattle.record.specs.State.{State, no_line, unscoped, headed, total}

-- each question has 1 to 32 options, and past the last there are none
abbrev pub Large : ℕ → List ℕ → Type 0
Large count sizes = (q : ℕ) → q < count → 1 ≤ slice_index sizes q

abbrev pub Small : List ℕ → Type 0
Small sizes = (q : ℕ) → slice_index sizes q ≤ 32

abbrev pub Past : ℕ → List ℕ → Type 0
Past count sizes = (q : ℕ) → count ≤ q → slice_index sizes q ≡ 0

-- a pick is one of its question's options
abbrev pub Picked : List ℕ → List (Option ℕ) → Type 0
Picked sizes picks = (q o : ℕ) → slice_index_or picks q None ≡ Some o → o < slice_index sizes q

-- the crossed options are exactly the heads of the log
abbrev pub Heads : List ℕ → List Line → Type 0
Heads crossed log = (q o : ℕ) → has (slice_index crossed q) o ≡ headed log q o

-- a head is one of its question's options
abbrev pub Declared : List ℕ → List Line → Type 0
Declared sizes log = (k : ℕ) → k < length log → (get_or log k no_line).option < slice_index sizes (get_or log k no_line).question

-- no head twice
abbrev pub Once : List Line → Type 0
Once log = (k : ℕ) → k < length log → headed (take k log) (get_or log k no_line).question (get_or log k no_line).option ≡ false

abbrev pub implies : Bool → Bool → Bool
implies true b = b
implies false b = true

-- option x at position j is one that a rule's reason may hold, after the lines of `earlier`: the rule is placed, has that position,
-- and x heads one of those lines at the question there
unfoldable pub grounded : ℕ → List Scope → List Line → ℕ → ℕ → ℕ → Bool
grounded placed scopes earlier r j x =
    has placed r && (nat_lt j (positions_of (slice_index_or scopes r unscoped)) && headed earlier (question_at (slice_index_or scopes r unscoped) j) x)

-- a reason holds only heads of earlier lines, at the positions of its placed rule
abbrev pub Backed : ℕ → List Scope → List Line → Type 0
Backed placed scopes log =
    (k j x : ℕ) → implies (has (slice_index (get_or log k no_line).reason j) x) (grounded placed scopes (take k log) (get_or log k no_line).rule j x) ≡ true

-- all of it, of a state
pub record Sound (s : State) : Type 0 where
  pub some : 1 ≤ s.count
  pub few : s.count ≤ 16
  pub sixteen : length s.crossed ≡ 16
  pub large : Large s.count s.sizes
  pub small : Small s.sizes
  pub past : Past s.count s.sizes
  pub picked : Picked s.sizes s.picks
  pub heads : Heads s.crossed s.log
  pub declared : Declared s.sizes s.log
  pub once : Once s.log
  pub backed : Backed s.placed s.scopes s.log
  -- as many lines as crossed options
  pub counted : total s.crossed ≡ length s.log
