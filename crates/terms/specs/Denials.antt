-- What a refusal says. Assumes nothing.
use Rattle.std.specs.Prelude.{ℕ, List, ◌++◌, codes, decimal}
use Rattle.terms.specs.Refusals.{number_of, place_of}
use Rattle.terms.specs.declared.refusal.Refusal.{Refusal}
use Rattle.terms.specs.declared.refusal.Refusal.TheVariants.{QuestionCount, SizeOutOfRange, TooManyRules, BadQuestions, BadRows, DistanceOutOfRange, NoSuchQuestion, NoSuchOption, NoSuchRule, RuleOffSheet, PlacementStands, PickStands, OptionStands, TooFewLines, FileTooLong, TooFewBytes, NotALogFile, HeaderOutOfRange, LineCountWrong, OtherDocket, MalformedLine, PickLineUnfounded, RuleLineUnfounded, ReasonUnfounded, OptionSupported, CrossedAlready, TooManyTries, ShutUnfounded, TryLeftOpen}

abbrev pub refusal_text : Refusal → List ℕ
refusal_text QuestionCount = codes "there is no question, or there are more than 16"
refusal_text (SizeOutOfRange question) = codes "a size is 0 or above 32"
refusal_text TooManyRules = codes "the book would have more than 64 rules"
refusal_text (BadQuestions rule) = codes "a rule has too few questions or too many, one above 15, or one twice"
refusal_text (BadRows rule) = codes "a table's row has an option above 31 or a byte past its last question, or is not in the list"
refusal_text (DistanceOutOfRange rule) = codes "a gap's distance is not from -31 to 31"
refusal_text (NoSuchQuestion question) = codes "the question is not on the sheet"
refusal_text (NoSuchOption question) = codes "the option is not below its question's size"
refusal_text (NoSuchRule rule) = codes "the rule is not in the book"
refusal_text (RuleOffSheet rule) = codes "the rule has a question that is not on the sheet"
refusal_text (PlacementStands rule) = codes "the rule is placed already, or is not there to be lifted"
refusal_text (PickStands question) = codes "the question has a pick already, or has none to take back"
refusal_text (OptionStands question) = codes "the option stands"
refusal_text TooFewLines = codes "more lines are needed than were handed in"
refusal_text FileTooLong = codes "a log file holds at most 2000 lines"
refusal_text TooFewBytes = codes "the bytes to write into are too few"
refusal_text NotALogFile = codes "the file is too short, or has another mark or version"
refusal_text (HeaderOutOfRange byte) = codes "a field of the header is outside its range"
refusal_text LineCountWrong = codes "the line count is above 2000 or disagrees with the length"
refusal_text OtherDocket = codes "the file is for another docket"
refusal_text (MalformedLine line) = codes "the line has another kind, a question or option off the docket, or an unused field that is not 0"
refusal_text (PickLineUnfounded line) = codes "the question has no pick, or is picked as that option"
refusal_text (RuleLineUnfounded line) = codes "the rule is not placed or lacks that question"
refusal_text (ReasonUnfounded line) = codes "the reason names an option not crossed, its own position, or one past the last"
refusal_text (OptionSupported line) = codes "the option has support under the declared options less the reason"
refusal_text (CrossedAlready line) = codes "the option is crossed already"
refusal_text (TooManyTries line) = codes "a try opens while 16 are open"
refusal_text (ShutUnfounded line) = codes "no try is open, another one is the innermost, or no question is empty"
refusal_text TryLeftOpen = codes "a try is open at the end"

-- a refusal by its number, its place and what it says
abbrev pub refused_text : ℕ → ℕ → List ℕ → List ℕ
refused_text number place text = codes "refused " ++ (decimal number ++ (codes " at " ++ (decimal place ++ (codes ": " ++ text))))

unfoldable pub denied_text : Refusal → List ℕ
denied_text e = refused_text (number_of e) (place_of e) (refusal_text e)
