-- What a verb and the words after it say, or the first mistake in them. Assumes nothing.
use Rattle.std.specs.Prelude.{ℕ, List, [], ◌∷◌, ℤ, Some, None, Ok, Err, Option, Result}
use Rattle.std.specs.Option.{ok_or}
use Rattle.wording.specs.declared.verb.Verb.{Verb}
use Rattle.wording.specs.declared.verb.Verb.TheVariants as verb
use Rattle.wording.specs.Figures.{both, byte_of, distance_of, numbers_after}
use Rattle.reading.specs.declared.command.Command.{Command}
use Rattle.reading.specs.declared.command.Command.TheVariants.{Differ, Call}
use Rattle.terms.specs.declared.call.Call.TheVariants.{Place, Pick, Settle, Standing, Overview}
use Rattle.reading.specs.Scopes.{scope_of}
use Rattle.reading.specs.Plain.{Said, gap, opens, said, Mistake, no_byte, no_distance, word_count}

-- the command, where there is no number
abbrev pub of_none : Command → List ℕ → Option Command
of_none command [] = Some command
of_none command (n ∷ ns) = None

-- the command of the one number
abbrev pub of_one : (ℕ → Command) → List ℕ → Option Command
of_one f [] = None
of_one f (n ∷ []) = Some (f n)
of_one f (n ∷ m ∷ ns) = None

-- the command of the two numbers
abbrev pub of_two : (ℕ → ℕ → Command) → List ℕ → Option Command
of_two f [] = None
of_two f (n ∷ []) = None
of_two f (n ∷ m ∷ []) = Some (f n m)
of_two f (n ∷ m ∷ k ∷ ns) = None

abbrev pub command_of : Verb → List ℕ → Option Command
command_of verb.Table ns = None
command_of verb.Gap ns = None
command_of verb.Differ ns = of_two (λ low high. Differ (scope_of (low ∷ high ∷ []))) ns
command_of verb.Open ns = None
command_of verb.Place ns = of_one (λ rule. Call (Place rule)) ns
command_of verb.Pick ns = of_two (λ question option. Call (Pick question option)) ns
command_of verb.Settle ns = of_none (Call Settle) ns
command_of verb.Standing ns = of_one (λ question. Call (Standing question)) ns
command_of verb.Overview ns = of_none (Call Overview) ns

-- what follows from a value, or the mistake in place of it
abbrev pub if_right : {X Y : Type 0} → Result X Mistake → (X → Result Y Mistake) → Result Y Mistake
if_right (Ok x) f = f x
if_right (Err m) f = Err m

abbrev pub number_of : List ℕ → Result ℕ Mistake
number_of w = ok_or (byte_of w) (no_byte w)

abbrev pub signed_of : List ℕ → Result ℤ Mistake
signed_of w = ok_or (distance_of w) (no_distance w)

abbrev pub numbers_of : List (List ℕ) → Result (List ℕ) Mistake
numbers_of ws = both (λ ns. ns) no_byte (numbers_after [] ws)

-- a verb that only numbers follow
abbrev pub simple_of : Verb → List (List ℕ) → Result Said Mistake
simple_of v ws = if_right (numbers_of ws) (λ ns. both said (λ m. m) (ok_or (command_of v ns) word_count))

-- a gap: two questions and a distance, and nothing else
abbrev pub gap_of : List (List ℕ) → Result Said Mistake
gap_of [] = Err word_count
gap_of (a ∷ []) = Err word_count
gap_of (a ∷ b ∷ []) = Err word_count
gap_of (a ∷ b ∷ k ∷ []) =
    if_right (number_of a) (λ low. if_right (number_of b) (λ high. if_right (signed_of k) (λ distance.
    Ok (gap (scope_of (low ∷ high ∷ [])) distance))))
gap_of (a ∷ b ∷ k ∷ w ∷ ws) = Err word_count

abbrev pub open_of : List (List ℕ) → Result Said Mistake
open_of ws = both opens (λ m. m) (numbers_of ws)
