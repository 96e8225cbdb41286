-- How a run ends: what was done, and what the sink took.
use Rattle.std.specs.Prelude.{◌≡◌, ℕ, ◌⊎◌, List, Option, Some, None}
use Rattle.std.specs.Io.KnownBytes.{append_known}
use Rattle.vold_io.specs.Transfers.{AddsFront}
use Rattle.script_text.specs.declared.script.Line.{Line}
use Rattle.script_text.specs.declared.status.Status.{Status}
use Rattle.script_text.specs.declared.status.Status.TheVariants.{Done, Usage, BadScript}
use Rattle.script_text.specs.declared.status.Status.TheVariants.{ReadFault, WriteFault, NoMemory}
use Rattle.script_text.specs.Script.{seed_of}
use Rattle.script_text.specs.Status.{message_of}
use Rattle.bench.specs.Bench.{BenchState, Senses}
use Rattle.vold_book.specs.State.{BookState, seen}
use Rattle.vold_book.specs.Whole.{AllAsGiven}
use Rattle.vold_book.specs.Stands.{IsLooked}
use Rattle.vold_run.specs.Calls.{CountsCalls}
use Rattle.vold_run.specs.Fits.{LinesFit, history_of, nothing}
use Rattle.vold_run.specs.Input.{IsCause, ScriptCame}
use Rattle.vold_run.specs.Lines.{commands_of, orders_of, EndsIdle}
use Rattle.vold_run.specs.Shown.{Shows}

-- this status, or one that comes in place of any: the text could not be written, or memory ran out
abbrev pub InPlaceOf : Status → Status → Type 0
InPlaceOf wanted status = (status ≡ wanted) ⊎ (status ≡ WriteFault) ⊎ (status ≡ NoMemory)

-- the lines are done on a Book that was as `start`, and the text shows it
pub record IsDone {D E F : Type 0} (senses : Senses D E F) (start : BookState (BenchState D E F)) (lines : List Line)
    (book : BookState (BenchState D E F)) (text : List ℕ) : Type 0 where
  -- the numbered commands are those of the lines, in order, and what began with a number is the command of that number
  pub commands : book.docket.commands ≡ commands_of lines
  pub began : AllAsGiven (commands_of lines) book.ledger.entries
  -- who moved in which line
  pub fits : LinesFit lines nothing (history_of book)
  pub idle : EndsIdle lines book
  -- the seed is the script's, and the stops are those of its lines
  pub seed : book.seed ≡ seed_of lines
  pub orders : book.ledger.orders ≡ orders_of lines
  -- the Book as it was before the last looks at its devices; until then its calls were counted as they were made
  pub worked : BookState (BenchState D E F)
  pub counted : CountsCalls senses start worked
  pub looked : IsLooked senses worked book
  pub shown : Shows (seen senses worked) (seen senses book) text

-- the lines are done, and the sink took the whole text that shows it
pub record Prints {D E F : Type 0} (senses : Senses D E F) (start : BookState (BenchState D E F)) (lines : List Line)
    (book : BookState (BenchState D E F)) (taken taken' : Option (List ℕ)) : Type 0 where
  pub text : List ℕ
  pub done : IsDone senses start lines book text
  pub written : taken' ≡ append_known taken text

-- the same, but the sink took a front of the text
pub record PrintsFront {D E F : Type 0} (senses : Senses D E F) (start : BookState (BenchState D E F))
    (lines : List Line) (book : BookState (BenchState D E F)) (taken taken' : Option (List ℕ)) : Type 0 where
  pub text : List ℕ
  pub done : IsDone senses start lines book text
  pub front : AddsFront text taken taken'

-- how the work on a Book ends
abbrev pub WorkEnds : {D E F : Type 0} → Senses D E F → BookState (BenchState D E F) → List Line
    → BookState (BenchState D E F) → Option (List ℕ) → Option (List ℕ) → Status → Type 0
WorkEnds senses start lines book taken taken' Done = Prints senses start lines book taken taken'
WorkEnds senses start lines book taken taken' WriteFault = PrintsFront senses start lines book taken taken'
WorkEnds senses start lines book taken taken' NoMemory =
    (taken' ≡ taken) ⊎ PrintsFront senses start lines book taken taken'
WorkEnds senses start lines book taken taken' Usage = ⊥
WorkEnds senses start lines book taken taken' BadScript = ⊥
WorkEnds senses start lines book taken taken' ReadFault = ⊥

-- how a run of lines ends: without a Book only where memory ran out
abbrev pub LinesEnd : {D E F : Type 0} → Senses D E F → BookState (BenchState D E F) → List Line → Option (List ℕ)
    → Option (List ℕ) → Status → Option (BookState (BenchState D E F)) → Type 0
LinesEnd senses start lines taken taken' status (Some book) = WorkEnds senses start lines book taken taken' status
LinesEnd senses start lines taken taken' status None = (status ≡ NoMemory) × (taken' ≡ taken)

-- what the sink took of a text, by the status
abbrev pub Takes : Status → List ℕ → Option (List ℕ) → Option (List ℕ) → Type 0
Takes Done text taken taken' = taken' ≡ append_known taken text
Takes Usage text taken taken' = taken' ≡ append_known taken text
Takes BadScript text taken taken' = taken' ≡ append_known taken text
Takes ReadFault text taken taken' = taken' ≡ append_known taken text
Takes WriteFault text taken taken' = AddsFront text taken taken'
Takes NoMemory text taken taken' = AddsFront text taken taken'

-- the script came whole, its lines are done on a Book that was opened with the script's seed, and the sink took the
-- whole text that shows it
pub record RunPrints {D E F : Type 0} (senses : Senses D E F) (start : List ℕ → BookState (BenchState D E F))
    (before after taken taken' : Option (List ℕ)) (book : BookState (BenchState D E F)) : Type 0 where
  pub lines : List Line
  pub came : ScriptCame before after lines
  pub printed : Prints senses (start (seed_of lines)) lines book taken taken'

-- the same, but the sink took a front of the text
pub record RunPrintsFront {D E F : Type 0} (senses : Senses D E F) (start : List ℕ → BookState (BenchState D E F))
    (before after taken taken' : Option (List ℕ)) (book : BookState (BenchState D E F)) : Type 0 where
  pub lines : List Line
  pub came : ScriptCame before after lines
  pub printed : PrintsFront senses (start (seed_of lines)) lines book taken taken'

-- there are no lines to do, and the sink took a front of the message that tells why
pub record TellsFront (words : List (List ℕ)) (before after : Option (List ℕ)) (faults faults' : ℕ)
    (taken taken' : Option (List ℕ)) : Type 0 where
  pub cause : Status
  pub why : IsCause words before after faults faults' cause
  pub front : AddsFront (message_of cause) taken taken'

-- a status whose message is written
abbrev pub HasMessage : Status → Type 0
HasMessage status = (status ≡ Usage) ⊎ (status ≡ BadScript) ⊎ (status ≡ ReadFault)

-- what was to be written, of which the sink took a front: with a Book what shows it, else the message that tells why
-- there is none
abbrev pub WritesFront : {D E F : Type 0} → Senses D E F → (List ℕ → BookState (BenchState D E F)) → List (List ℕ)
    → (before after : Option (List ℕ)) → (faults faults' : ℕ) → (taken taken' : Option (List ℕ))
    → Option (BookState (BenchState D E F)) → Type 0
WritesFront senses start words before after faults faults' taken taken' None =
    TellsFront words before after faults faults' taken taken'
WritesFront senses start words before after faults faults' taken taken' (Some book) =
    RunPrintsFront senses start before after taken taken' book
