-- The calls of a sitting. Assumes nothing.
use Rattle.std.specs.Prelude.{ℕ, List, [], ◌∷◌, Ok, Err, codes, Result}
use Rattle.books.specs.Plain.{Plain}
use Rattle.record.specs.State.{State}
use Rattle.sheet.specs.Seen.{Seen}
use Rattle.sheet.specs.Settle.{Reasons}
use Rattle.telling.specs.declared.told.Told.{Told}
use Rattle.calls.specs.Answers.{answer_of, after_call}
use Rattle.calls.specs.Texts.{told_text}
use Rattle.terms.specs.declared.call.Call.{Call}
use Rattle.lines.specs.Marks.{Noted}
use Rattle.reading.specs.Plain.{Said, table, gap, differ, opens, call, Heard, says, wrong}
use Rattle.reading.specs.Readings.{heard_of}
use Rattle.reading.specs.Faults.{fault_text}
use Rattle.sitting.specs.Tales.{Tale, tale, answered, faulted}

-- a sheet, and what was told so far
pub record Scene : Type 0 where
  pub state : State
  pub tale : Tale

-- the same of the code's values, with the book that the sheet is on
pub record Played (B : Type 0) : Type 0 where
  pub book : B
  pub scene : Scene

abbrev pub played : {B : Type 0} → Seen B → Told → Played B
played s t = record { book = s.book; scene = record { state = s.state; tale = tale t } }

-- where a scene goes on, the book stays
abbrev pub going_on : {B : Type 0} → (Scene → Scene) → Played B → Played B
going_on f p = record { book = p.book; scene = f p.scene }

-- the call that a line says, or what is wrong with a line that says none
abbrev pub closed_text : List ℕ
closed_text = codes "the book is closed; expected: a call on the sheet"

abbrev pub call_in : Said → Result Call (List ℕ)
call_in (table scope rows) = Err closed_text
call_in (gap scope distance) = Err closed_text
call_in (differ scope) = Err closed_text
call_in (opens sizes) = Err (codes "a sheet is open already; expected: a call on it")
call_in (call c) = Ok c

abbrev pub called : Plain → Reasons → Noted → Result Call (List ℕ) → Scene → Scene
called b why n (Ok c) s = record { state = after_call b why c s.state; tale = answered n.text (told_text (answer_of b why c s.state)) s.tale }
called b why n (Err what) s = record { state = s.state; tale = faulted n.number what s.tale }

abbrev pub obeyed : Plain → Reasons → Noted → Heard → Scene → Scene
obeyed b why n (says said) s = called b why n (call_in said) s
obeyed b why n (wrong mistake expected) s = record { state = s.state; tale = faulted n.number (fault_text mistake expected) s.tale }

-- the calls in the order written, each on the sheet as the last left it
unfoldable pub all_obeyed : Plain → Reasons → List Noted → Scene → Scene
all_obeyed b why [] s = s
all_obeyed b why (n ∷ ns) s = all_obeyed b why ns (obeyed b why n (heard_of n.text) s)
