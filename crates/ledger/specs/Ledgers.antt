-- The rules that were gathered, as one book. Assumes nothing.
use Rattle.std.specs.Prelude.{ℕ, ◌+◌, min, List, length, Option}
use Rattle.std.specs.Option.{option_map}
use Rattle.terms.specs.declared.scope.Scope.{Scope}
use Rattle.terms.specs.declared.refusal.Refusal.{Refusal}
use Rattle.terms.specs.declared.refusal.Refusal.TheVariants.{QuestionCount, SizeOutOfRange, TooManyRules, BadQuestions, BadRows, DistanceOutOfRange, NoSuchQuestion, NoSuchOption, NoSuchRule, RuleOffSheet, PlacementStands, PickStands, OptionStands, TooFewLines, FileTooLong, TooFewBytes, NotALogFile, HeaderOutOfRange, LineCountWrong, OtherDocket, MalformedLine, PickLineUnfounded, RuleLineUnfounded, ReasonUnfounded, OptionSupported, CrossedAlready, TooManyTries, ShutUnfounded, TryLeftOpen}
use Rattle.tables.specs.declared.table.TableRule.{TableRule}
use Rattle.gaps.specs.declared.gap.GapRule.{GapRule}
use Rattle.books.specs.Questions.{first_of}
use Rattle.tables.specs.Table.{table_fault}
use Rattle.gaps.specs.Gap.{gap_fault}
use Rattle.differs.specs.Differ.{differ_fault}

-- the refusal of a part of the book, with its rule numbered as in the whole
abbrev pub renumber : ℕ → Refusal → Refusal
renumber before QuestionCount = QuestionCount
renumber before (SizeOutOfRange question) = SizeOutOfRange question
renumber before TooManyRules = TooManyRules
renumber before (BadQuestions rule) = BadQuestions (min (rule + before) 255)
renumber before (BadRows rule) = BadRows rule
renumber before (DistanceOutOfRange rule) = DistanceOutOfRange (min (rule + before) 255)
renumber before (NoSuchQuestion question) = NoSuchQuestion question
renumber before (NoSuchOption question) = NoSuchOption question
renumber before (NoSuchRule rule) = NoSuchRule rule
renumber before (RuleOffSheet rule) = RuleOffSheet rule
renumber before (PlacementStands rule) = PlacementStands rule
renumber before (PickStands question) = PickStands question
renumber before (OptionStands question) = OptionStands question
renumber before TooFewLines = TooFewLines
renumber before FileTooLong = FileTooLong
renumber before TooFewBytes = TooFewBytes
renumber before NotALogFile = NotALogFile
renumber before (HeaderOutOfRange byte) = HeaderOutOfRange byte
renumber before LineCountWrong = LineCountWrong
renumber before OtherDocket = OtherDocket
renumber before (MalformedLine line) = MalformedLine line
renumber before (PickLineUnfounded line) = PickLineUnfounded line
renumber before (RuleLineUnfounded line) = RuleLineUnfounded line
renumber before (ReasonUnfounded line) = ReasonUnfounded line
renumber before (OptionSupported line) = OptionSupported line
renumber before (CrossedAlready line) = CrossedAlready line
renumber before (TooManyTries line) = TooManyTries line
renumber before (ShutUnfounded line) = ShutUnfounded line
renumber before TryLeftOpen = TryLeftOpen

-- tables are tested first, then gaps, then differs
abbrev pub ledger_fault : List ℕ → List TableRule → List GapRule → List Scope → Option Refusal
ledger_fault rows tables gaps differs =
    first_of (table_fault rows tables)
    (first_of (option_map (renumber (length tables)) (gap_fault gaps)) (option_map (renumber (min (length tables + length gaps) 255)) (differ_fault differs)))
