-- A whole sitting, from its text to what is told. Assumes nothing.
use Rattle.std.specs.Prelude.{ℕ, Bool, true, false, List, [], ◌∷◌, ◌++◌, length, Some, None, vec_items, codes, decimal, Option}
use Rattle.terms.specs.declared.scope.Scope.{Scope}
use Rattle.terms.specs.declared.refusal.Refusal.{Refusal}
use Rattle.books.specs.Plain.{Plain}
use Rattle.books.specs.Pair.{pair_fault, pair_model, pair_reasons}
use Rattle.tables.specs.declared.table.TableRule.{TableRule}
use Rattle.tables.specs.Table.{table_model, table_reasons}
use Rattle.gaps.specs.declared.gap.GapRule.{GapRule}
use Rattle.gaps.specs.Gap.{gap_model, gap_reasons}
use Rattle.differs.specs.Differ.{differ_model, differ_reasons}
use Rattle.ledger.specs.Ledgers.{ledger_fault}
use Rattle.ledger.specs.declared.ledger.Ledger.{Ledger}
use Rattle.record.specs.Calls.{open_fault, opened}
use Rattle.sheet.specs.Settle.{Reasons}
use Rattle.lines.specs.Marks.{Noted, entries_of}
use Rattle.reading.specs.Plain.{Said, table, gap, differ, opens, call, Heard, says, wrong}
use Rattle.reading.specs.Readings.{heard_of}
use Rattle.reading.specs.Faults.{fault_text}
use Rattle.terms.specs.Denials.{denied_text}
use Rattle.sitting.specs.Tales.{Tale, lined, answered, faulted}
use Rattle.sitting.specs.Scenes.{Scene, all_obeyed}
use Rattle.sitting.specs.Closings.{closing_told}

-- opening a sheet

-- whether a sheet was opened, which ends the sitting, and what was told by then
pub record Opening : Type 0 where
  pub done : Bool
  pub tale : Tale

abbrev pub opened_text : ℕ → ℕ → List ℕ
opened_text questions rules = decimal questions ++ (codes " questions, " ++ (decimal rules ++ codes " rules"))

-- the calls made on a new sheet, and its closing
abbrev pub attended : Plain → Reasons → List ℕ → List Noted → Tale → Tale
attended b why sizes ns t =
    let s : Scene = all_obeyed b why ns (record { state = opened sizes; tale = t }) in
    closing_told b s.state s.tale

abbrev pub unless_denied : Option Refusal → Plain → Reasons → Noted → List ℕ → List Noted → Tale → Opening
unless_denied (Some e) b why n sizes ns t = record { done = false; tale = answered n.text (denied_text e) t }
unless_denied None b why n sizes ns t = record { done = true; tale = attended b why sizes ns (answered n.text (opened_text (length sizes) b.rules) t) }

-- on one book
unfoldable pub on_book : Plain → Reasons → Noted → List ℕ → List Noted → Tale → Opening
on_book b why n sizes ns t = unless_denied (open_fault sizes) b why n sizes ns t

-- a book that is refused is a fault of the line that would open a sheet on it
abbrev pub refused_book : Noted → Refusal → Tale → Opening
refused_book n e t = record { done = false; tale = faulted n.number (denied_text e) t }

abbrev pub unless_refused : Option Refusal → Noted → Tale → Opening → Opening
unless_refused (Some e) n t opening = refused_book n e t
unless_refused None n t opening = opening

-- on two books as one, and on three
unfoldable pub on_two : Plain → Reasons → Plain → Reasons → Noted → List ℕ → List Noted → Tale → Opening
on_two a why_a b why_b n sizes ns t =
    unless_refused (pair_fault a b) n t (on_book (pair_model a b) (pair_reasons a.rules why_a why_b) n sizes ns t)

unfoldable pub on_three : Plain → Reasons → Plain → Reasons → Plain → Reasons → Noted → List ℕ → List Noted → Tale → Opening
on_three a why_a b why_b c why_c n sizes ns t =
    unless_refused (pair_fault b c) n t (on_two a why_a (pair_model b c) (pair_reasons b.rules why_b why_c) n sizes ns t)

-- the rules of the book, as they were gathered
pub record Rules : Type 0 where
  pub rows : List ℕ
  pub tables : List TableRule
  pub gaps : List GapRule
  pub differs : List Scope

-- tables are numbered first, then gaps, then differs
unfoldable pub on_rules : Rules → Noted → List ℕ → List Noted → Tale → Opening
on_rules l n sizes ns t =
    unless_refused (ledger_fault l.rows l.tables l.gaps l.differs) n t
    (on_three (table_model l.rows l.tables) (table_reasons l.rows l.tables) (gap_model l.gaps) (gap_reasons l.gaps) (differ_model l.differs) (differ_reasons l.differs) n sizes ns t)

-- making the book

abbrev pub rules_of : Ledger → Rules
rules_of l = record { rows = vec_items l.rows; tables = vec_items l.tables; gaps = vec_items l.gaps; differs = vec_items l.differs }

abbrev pub no_rules : Rules
no_rules = record { rows = []; tables = []; gaps = []; differs = [] }

-- the rules with the one that a line says; a line that says none changes nothing
abbrev pub with_rule : Said → Rules → Rules
with_rule (table scope rows) l =
    record {
      rows = l.rows ++ rows;
      tables = l.tables ++ record { scope = scope; first = length l.rows; count = length rows } ∷ [];
      gaps = l.gaps;
      differs = l.differs;
    }
with_rule (gap scope distance) l = record { rows = l.rows; tables = l.tables; gaps = l.gaps ++ record { scope = scope; distance = distance } ∷ []; differs = l.differs }
with_rule (differ scope) l = record { rows = l.rows; tables = l.tables; gaps = l.gaps; differs = l.differs ++ scope ∷ [] }
with_rule (opens sizes) l = l
with_rule (call c) l = l

abbrev pub rule_noted : Noted → Tale → Tale
rule_noted n t = answered n.text (codes "noted") t

abbrev pub too_early : Noted → Tale → Tale
too_early n t = faulted n.number (codes "no sheet is open; expected: a rule of the book, or open SIZE..") t

-- what is told of a line of the book; the calls have to wait for a sheet
abbrev pub note_told : Noted → Said → Tale → Tale
note_told n (table scope rows) t = rule_noted n t
note_told n (gap scope distance) t = rule_noted n t
note_told n (differ scope) t = rule_noted n t
note_told n (opens sizes) t = too_early n t
note_told n (call c) t = too_early n t

-- one line after another

-- whether the sitting is over, the rules by now, and what was told
pub record Turn : Type 0 where
  pub done : Bool
  pub rules : Rules
  pub tale : Tale

abbrev pub note_turn : Rules → Noted → Said → Tale → Turn
note_turn l n said t = record { done = false; rules = with_rule said l; tale = note_told n said t }

abbrev pub said_turn : Rules → Noted → Said → List Noted → Tale → Turn
said_turn l n (table scope rows) ns t = note_turn l n (table scope rows) t
said_turn l n (gap scope distance) ns t = note_turn l n (gap scope distance) t
said_turn l n (differ scope) ns t = note_turn l n (differ scope) t
said_turn l n (opens sizes) ns t = record { done = (on_rules l n sizes ns t).done; rules = l; tale = (on_rules l n sizes ns t).tale }
said_turn l n (call c) ns t = note_turn l n (call c) t

-- a line, with those that follow it
abbrev pub turn : Rules → Noted → Heard → List Noted → Tale → Turn
turn l n (says said) ns t = said_turn l n said ns t
turn l n (wrong mistake expected) ns t = record { done = false; rules = l; tale = faulted n.number (fault_text mistake expected) t }

unfoldable pub lines_told : Rules → List Noted → Tale → Tale
lines_told l [] t = lined (codes "no sheet was opened") t
lines_told l (n ∷ ns) t =
    let u : Turn = turn l n (heard_of n.text) ns t in
    elim u.done [ true ↦ u.tale | false ↦ lines_told u.rules ns u.tale ]

abbrev pub nothing_told : Tale
nothing_told = record { text = []; sound = true }

unfoldable pub sitting_told : List ℕ → Tale
sitting_told text = lines_told no_rules (entries_of text) nothing_told
