-- What a script's lines ask of a Book.
use Rattle.std.specs.Prelude.{◌≡◌, ◌≢◌, ℕ, MatchBool, List, [], ◌∷◌, ◌++◌, flat_map, Option, Some, IfSome, Contains}
use Rattle.std.specs.FinMap as map
use Rattle.journal_model.specs.declared.commands.Actor.{Actor}
use Rattle.journal_model.specs.declared.commands.Command.{Command}
use Rattle.journal_model.specs.declared.commands.Command.TheVariants.{Recover}
use Rattle.journal_model.specs.declared.entries.Order.{Order}
use Rattle.journal_model.specs.declared.entries.Order.TheVariants.{Stop as StopOrder}
use Rattle.script_text.specs.declared.script.Line.{Line}
use Rattle.script_text.specs.declared.script.Line.TheVariants.{Seed, Do, Turns, All, Stop, Restart}
use Rattle.script_text.specs.Script.{is_stop, seed_of}
use Rattle.journal_model.specs.declared.phase.Phase.{Phase}
use Rattle.journal_model.specs.declared.phase.Phase.TheVariants.{Halted}
use Rattle.bench.specs.Bench.{BenchState, Senses}
use Rattle.vold_book.specs.State.{BookState}
use Rattle.vold_book.specs.Whole.{IsWhole}
use Rattle.vold_book.specs.Parts.{new_tracker}
use Rattle.vold_run.specs.Calls.{CountsCalls}
use Rattle.vold_run.specs.Fits.{ComesBy, LineFits, LinesFit, history_of, nothing}
use Rattle.vold_run.specs.Rounds.{NothingLeft}

-- the command that a line gives, if it gives one: a restart gives a recovery
abbrev pub command_of : Line → List Command
command_of (Seed bytes) = []
command_of (Do command) = command ∷ []
command_of (Turns actor count) = []
command_of All = []
command_of (Stop cut) = []
command_of (Restart level) = Recover ∷ []

-- the commands of lines, in order
abbrev pub commands_of : List Line → List Command
commands_of lines = flat_map command_of lines

-- the stop of a line that stops
abbrev pub order_of : Line → List Order
order_of (Seed bytes) = []
order_of (Do command) = []
order_of (Turns actor count) = []
order_of All = []
order_of (Stop cut) = StopOrder cut ∷ []
order_of (Restart level) = []

-- the stops of lines, in order
abbrev pub orders_of : List Line → List Order
orders_of lines = flat_map order_of lines

-- a line that lets every actor work leaves nothing to do
abbrev pub LeavesNothing : {B : Type 0} → Line → BookState B → Type 0
LeavesNothing line book = line ≡ All → NothingLeft book

-- where the last line lets every actor work, nothing is left to do
abbrev pub EndsIdle : {B : Type 0} → List Line → BookState B → Type 0
EndsIdle lines book = (before : List Line) (last : Line) → lines ≡ before ++ last ∷ [] → LeavesNothing last book

-- the line before the next one, where `before` stands before the first
abbrev pub last_of : Option Line → List Line → Option Line
last_of before [] = before
last_of before (line ∷ lines) = last_of (Some line) lines

-- the machine stands still exactly behind a line that stops it
abbrev pub StandsStill : Option Line → Phase → Type 0
StandsStill before phase = MatchBool (is_stop before) (phase ≡ Halted) (phase ≢ Halted)

-- each number of a queue comes before those behind it
abbrev pub IsInOrder : Actor → List ℕ → Type 0
IsInOrder actor [] = Unit {0}
IsInOrder actor (number ∷ numbers) =
    ((other : ℕ) → Contains numbers other → ComesBy actor number other) × IsInOrder actor numbers

-- a Book between the lines of a script
pub record IsBetweenLines {D E F : Type 0} (senses : Senses D E F) (book : BookState (BenchState D E F)) : Type 0 where
  pub whole : IsWhole senses book
  pub level : book.tracker.level ≡ 1
  pub order : (actor : Actor) → IfSome (map.get book.docket.waiting actor) (IsInOrder actor)

-- what turns leave of a Book: they give no command, and neither stop the machine nor start it again
pub record IsKept {D E F : Type 0} (senses : Senses D E F) (before after : BookState (BenchState D E F)) : Type 0 where
  pub commands : after.docket.commands ≡ before.docket.commands
  pub orders : after.ledger.orders ≡ before.ledger.orders
  pub seed : after.seed ≡ before.seed
  pub counted : CountsCalls senses before after
  pub still : before.tracker.phase ≢ Halted → after.tracker.phase ≢ Halted
  pub between : IsBetweenLines senses after

-- the machine is as the line wants it: a restart wants it to stand still, each other line that it doesn't
abbrev pub IsReadyFor : Line → Phase → Type 0
IsReadyFor (Seed bytes) phase = phase ≢ Halted
IsReadyFor (Do command) phase = phase ≢ Halted
IsReadyFor (Turns actor count) phase = phase ≢ Halted
IsReadyFor All phase = phase ≢ Halted
IsReadyFor (Stop cut) phase = phase ≢ Halted
IsReadyFor (Restart level) phase = phase ≡ Halted

-- a line is done
pub record IsLineDone {D E F : Type 0} (senses : Senses D E F) (line : Line)
    (before after : BookState (BenchState D E F)) : Type 0 where
  pub commands : after.docket.commands ≡ before.docket.commands ++ command_of line
  pub orders : after.ledger.orders ≡ before.ledger.orders ++ order_of line
  pub seed : after.seed ≡ before.seed
  pub fits : LineFits line (history_of before) (history_of after)
  pub counted : CountsCalls senses before after
  pub idle : LeavesNothing line after
  pub still : StandsStill (Some line) after.tracker.phase
  pub between : IsBetweenLines senses after

-- lines are done, where `prior` is the line before them
pub record AreLinesDone {D E F : Type 0} (senses : Senses D E F) (prior : Option Line) (lines : List Line)
    (before after : BookState (BenchState D E F)) : Type 0 where
  pub commands : after.docket.commands ≡ before.docket.commands ++ commands_of lines
  pub orders : after.ledger.orders ≡ before.ledger.orders ++ orders_of lines
  pub seed : after.seed ≡ before.seed
  pub fits : LinesFit lines (history_of before) (history_of after)
  pub counted : CountsCalls senses before after
  pub idle : EndsIdle lines after
  pub still : StandsStill (last_of prior lines) after.tracker.phase
  pub between : IsBetweenLines senses after

-- a Book as it is opened for these lines, with nothing given out and nothing done
pub record IsFresh {B : Type 0} (book : BookState B) (lines : List Line) : Type 0 where
  pub history : history_of book ≡ nothing
  pub waiting : book.docket.waiting ≡ map.empty
  pub orders : book.ledger.orders ≡ []
  pub seed : book.seed ≡ seed_of lines
  pub tracker : book.tracker ≡ new_tracker
