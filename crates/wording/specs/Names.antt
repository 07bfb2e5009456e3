-- The words that commands begin with, and how their lines are written. Assumes nothing.
use Rattle.std.specs.Prelude.{ℕ, true, false, List, [], ◌∷◌, Some, None, codes, Option}
use Rattle.std.specs.Str.{bytes_eq}
use Rattle.wording.specs.declared.verb.Verb.{Verb}
use Rattle.wording.specs.declared.verb.Verb.TheVariants.{Table, Gap, Differ, Open, Place, Pick, Settle, Standing, Overview}

abbrev pub name_of : Verb → List ℕ
name_of Table = codes "table"
name_of Gap = codes "gap"
name_of Differ = codes "differ"
name_of Open = codes "open"
name_of Place = codes "place"
name_of Pick = codes "pick"
name_of Settle = codes "settle"
name_of Standing = codes "standing"
name_of Overview = codes "overview"

-- the first of the verbs that the word names
unfoldable pub verb_among : List Verb → List ℕ → Option Verb
verb_among [] w = None
verb_among (v ∷ vs) w = elim (bytes_eq w (name_of v)) [ true ↦ Some v | false ↦ verb_among vs w ]

abbrev pub every_verb : List Verb
every_verb = Table ∷ Gap ∷ Differ ∷ Open ∷ Place ∷ Pick ∷ Settle ∷ Standing ∷ Overview ∷ []

unfoldable pub verb_of : List ℕ → Option Verb
verb_of w = verb_among every_verb w

abbrev pub form_of : Verb → List ℕ
form_of Table = codes "table QUESTION.. : OPTION.., OPTION.."
form_of Gap = codes "gap QUESTION QUESTION DISTANCE"
form_of Differ = codes "differ QUESTION QUESTION"
form_of Open = codes "open SIZE.."
form_of Place = codes "place RULE"
form_of Pick = codes "pick QUESTION OPTION"
form_of Settle = codes "settle"
form_of Standing = codes "standing QUESTION"
form_of Overview = codes "overview"

-- named where a line begins with another word
abbrev pub verb_names : List ℕ
verb_names = codes "table, gap, differ, open, place, pick, settle, standing or overview"
