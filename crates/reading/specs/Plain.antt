-- What a line says, and what is wrong with it, as plain values: the code's own hold vectors and references. Assumes nothing.
use Rattle.std.specs.Prelude.{◌≡◌, ℕ, List, ℤ, Ok, Err, vec_items, Result}
use Rattle.terms.specs.declared.call.Call.{Call}
use Rattle.terms.specs.declared.scope.Scope.{Scope}
use Rattle.reading.specs.declared.command.Command.{Command}
use Rattle.reading.specs.declared.command.Command.TheVariants as command
use Rattle.reading.specs.declared.fault.Fault.{Fault}
use Rattle.reading.specs.declared.fault.Unread.{Unread}
use Rattle.reading.specs.declared.fault.Unread.TheVariants as unread
use Rattle.reading.specs.declared.fault.Wrong.{Wrong}
use Rattle.reading.specs.declared.fault.Wrong.TheVariants.{NoSuchCommand, NoByte, NoDistance, WordCount, NoColon, RowLength}

pub data Said : Type 0 where
  table : Scope → List ℕ → Said
  gap : Scope → ℤ → Said
  differ : Scope → Said
  opens : List ℕ → Said
  call : Call → Said

abbrev pub said : Command → Said
said (command.Table scope rows) = table scope (vec_items rows)
said (command.Gap scope distance) = gap scope distance
said (command.Differ scope) = differ scope
said (command.Open sizes) = opens (vec_items sizes)
said (command.Call c) = call c

pub data Mistake : Type 0 where
  no_such_command : List ℕ → Mistake
  no_byte : List ℕ → Mistake
  no_distance : List ℕ → Mistake
  word_count : Mistake
  no_colon : Mistake
  row_length : ℕ → Mistake

abbrev pub mistake : Wrong → Mistake
mistake (NoSuchCommand word) = no_such_command word.now
mistake (NoByte word) = no_byte word.now
mistake (NoDistance word) = no_distance word.now
mistake WordCount = word_count
mistake NoColon = no_colon
mistake (RowLength row) = row_length row

-- what a line says, or what is wrong with it and what was expected
pub data Heard : Type 0 where
  says : Said → Heard
  wrong : Mistake → List ℕ → Heard

abbrev pub heard : Result Command Fault → Heard
heard (Ok c) = says (said c)
heard (Err f) = wrong (mistake f.wrong) f.expected.now

-- a result of the code is this one, unless memory ran out
abbrev pub Comes : {X Y : Type 0} → (X → Y) → Result X Unread → Result Y Mistake → Type 0
Comes f (Ok x) e = Ok (f x) ≡ e
Comes f (Err (unread.Wrong w)) e = Err (mistake w) ≡ e
Comes f (Err (unread.Memory spent)) e = Unit {0}
