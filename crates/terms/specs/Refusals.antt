-- The table of refusals: the number and the place of each. Assumes nothing.
use Rattle.std.specs.Prelude.{ℕ, Some, None, Ok, Err, Option, Result}
use Rattle.terms.specs.declared.refusal.Refusal.{Refusal}
use Rattle.terms.specs.declared.refusal.Refusal.TheVariants.{QuestionCount, SizeOutOfRange, TooManyRules, BadQuestions, BadRows, DistanceOutOfRange, NoSuchQuestion, NoSuchOption, NoSuchRule, RuleOffSheet, PlacementStands, PickStands, OptionStands, TooFewLines, FileTooLong, TooFewBytes, NotALogFile, HeaderOutOfRange, LineCountWrong, OtherDocket, MalformedLine, PickLineUnfounded, RuleLineUnfounded, ReasonUnfounded, OptionSupported, CrossedAlready, TooManyTries, ShutUnfounded, TryLeftOpen}

abbrev pub number_of : Refusal → ℕ
number_of QuestionCount = 1
number_of (SizeOutOfRange question) = 2
number_of TooManyRules = 3
number_of (BadQuestions rule) = 4
number_of (BadRows rule) = 5
number_of (DistanceOutOfRange rule) = 6
number_of (NoSuchQuestion question) = 7
number_of (NoSuchOption question) = 8
number_of (NoSuchRule rule) = 9
number_of (RuleOffSheet rule) = 10
number_of (PlacementStands rule) = 11
number_of (PickStands question) = 12
number_of (OptionStands question) = 13
number_of TooFewLines = 14
number_of FileTooLong = 15
number_of TooFewBytes = 16
number_of NotALogFile = 17
number_of (HeaderOutOfRange byte) = 18
number_of LineCountWrong = 19
number_of OtherDocket = 20
number_of (MalformedLine line) = 21
number_of (PickLineUnfounded line) = 22
number_of (RuleLineUnfounded line) = 23
number_of (ReasonUnfounded line) = 24
number_of (OptionSupported line) = 25
number_of (CrossedAlready line) = 26
number_of (TooManyTries line) = 27
number_of (ShutUnfounded line) = 28
number_of TryLeftOpen = 29

abbrev pub place_of : Refusal → ℕ
place_of QuestionCount = 0
place_of (SizeOutOfRange question) = question
place_of TooManyRules = 0
place_of (BadQuestions rule) = rule
place_of (BadRows rule) = rule
place_of (DistanceOutOfRange rule) = rule
place_of (NoSuchQuestion question) = question
place_of (NoSuchOption question) = question
place_of (NoSuchRule rule) = rule
place_of (RuleOffSheet rule) = rule
place_of (PlacementStands rule) = rule
place_of (PickStands question) = question
place_of (OptionStands question) = question
place_of TooFewLines = 0
place_of FileTooLong = 0
place_of TooFewBytes = 0
place_of NotALogFile = 0
place_of (HeaderOutOfRange byte) = byte
place_of LineCountWrong = 0
place_of OtherDocket = 0
place_of (MalformedLine line) = line
place_of (PickLineUnfounded line) = line
place_of (RuleLineUnfounded line) = line
place_of (ReasonUnfounded line) = line
place_of (OptionSupported line) = line
place_of (CrossedAlready line) = line
place_of (TooManyTries line) = line
place_of (ShutUnfounded line) = line
place_of TryLeftOpen = 0

-- what a call says: nothing where it is granted, else its refusal
abbrev pub told : {A : Type 0} → Result A Refusal → Option Refusal
told (Ok a) = None
told (Err e) = Some e
