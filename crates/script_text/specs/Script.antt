-- Scripts: the lines that there are, where each may stand, and the one text of each.
use Rattle.std.specs.Prelude.{◌≡◌, ◌≢◌, ℕ, ◌<◌, ◌≤◌, ◌^◌, Bool, true, false, IsTrue, not, List, [], ◌∷◌, ◌++◌}
use Rattle.std.specs.Prelude.{length, Option, Some, None, is_none}
use Rattle.std.specs.List.{flat_map, AllByRecursion}
use Rattle.journal_model.specs.declared.commands.Command.TheVariants.{Create, Unlock, Lock, Protect, Fixate}
use Rattle.journal_model.specs.declared.commands.Command.TheVariants.{Destroy, Recover}
use Rattle.script_text.specs.declared.arguments.Argument.TheVariants as argument
use Rattle.script_text.specs.declared.arguments.Arguments.{Arguments}
use Rattle.script_text.specs.declared.forms.Keyword.{Keyword}
use Rattle.script_text.specs.declared.forms.Keyword.TheVariants as keyword
use Rattle.script_text.specs.declared.script.Line.{Line}
use Rattle.script_text.specs.declared.script.Line.TheVariants.{Seed, Do, Turns, All, Stop, Restart}
use Rattle.script_text.specs.Words.{decimal, joined}
use Rattle.script_text.specs.Arguments.{argument_words, AllFit, three_given, two_given, one_given}
use Rattle.script_text.specs.Arguments.{none_given}
use Rattle.script_text.specs.Forms.{word_of, kinds_of}

-- a line as a row of the table of words: its word, and its arguments
abbrev pub row_of : Line → Keyword × Arguments
row_of (Seed bytes) = (keyword.Seed, one_given (argument.Bytes bytes))
row_of (Do (Create user)) = (keyword.Create, one_given (argument.Number user))
row_of (Do (Unlock user secret)) = (keyword.Unlock, two_given (argument.Number user) (argument.Bytes secret))
row_of (Do (Lock user)) = (keyword.Lock, one_given (argument.Number user))
row_of (Do (Protect user known fresh)) =
    (keyword.Protect, three_given (argument.Number user) (argument.Bytes known) (argument.Bytes fresh))
row_of (Do (Fixate user)) = (keyword.Fixate, one_given (argument.Number user))
row_of (Do (Destroy user)) = (keyword.Destroy, one_given (argument.Number user))
row_of (Do Recover) = (keyword.Recover, none_given)
row_of (Turns actor count) = (keyword.Turn, two_given (argument.Actor actor) (argument.Number count))
row_of All = (keyword.All, none_given)
row_of (Stop cut) = (keyword.Stop, record (one_given (argument.Number cut.keep)) { fills = cut.fills })
row_of (Restart level) = (keyword.Restart, one_given (argument.Number level))

-- the words of a line
abbrev pub line_words : Line → List (List ℕ)
line_words line = word_of (row_of line).0 ∷ argument_words (kinds_of (row_of line).0) (row_of line).1

-- the one text of a line, without its line feed
abbrev pub spelling : Line → List ℕ
spelling line = joined (line_words line)

-- the text of lines, each ended by a line feed
abbrev pub text_of : List Line → List ℕ
text_of lines = flat_map (λ line. spelling line ++ 10 ∷ []) lines

-- a script may have this line: its arguments are of the kinds that its word wants
abbrev pub IsLine : Line → Type 0
IsLine line = AllFit (kinds_of (row_of line).0) (row_of line).1

-- whether it is a line that stops
abbrev pub is_stop : Option Line → Bool
is_stop (Some (Stop cut)) = true
is_stop before = false

-- whether a line may stand behind this one: a seed behind none, a restart behind a stop, and all others behind no stop
abbrev pub may_follow : Option Line → Line → Bool
may_follow before (Seed bytes) = is_none before
may_follow before (Restart level) = is_stop before
may_follow before line = not (is_stop before)

-- each line may stand behind the one before it
abbrev pub AreInOrder : Option Line → List Line → Type 0
AreInOrder before [] = Unit {0}
AreInOrder before (line ∷ lines) = IsTrue (may_follow before line) × AreInOrder (Some line) lines

-- the most lines that a script has
abbrev pub most_lines : ℕ
most_lines = 16384

-- these lines may be a script
abbrev pub IsPlaced : List Line → Type 0
IsPlaced lines = (length lines ≤ most_lines) × AllByRecursion IsLine lines × AreInOrder None lines

-- the bytes are the text of these lines
abbrev pub IsScript : List ℕ → List Line → Type 0
IsScript bytes lines = IsPlaced lines × (bytes ≡ text_of lines)

-- the bytes are the text of no script
abbrev pub IsNoScript : List ℕ → Type 0
IsNoScript bytes = (lines : List Line) → ¬ (IsScript bytes lines)

-- the seed of a script, which is empty where no line gives one
abbrev pub seed_of : List Line → List ℕ
seed_of (Seed bytes ∷ lines) = bytes
seed_of lines = []

-- the word is the text of no number of 32 bits
abbrev pub IsNoNumber : List ℕ → Type 0
IsNoNumber word = (n : ℕ) → n < 2 ^ 32 → word ≢ decimal n

-- a text has at most one reading
abbrev pub OneReading : Type 0
OneReading = (one other : List Line) → IsPlaced one → IsPlaced other → text_of one ≡ text_of other → one ≡ other
