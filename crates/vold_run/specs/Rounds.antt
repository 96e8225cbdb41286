-- Rounds of turns, and a Book on which nothing waits or runs of which the machine takes turns.
use Rattle.std.specs.Prelude.{◌≡◌, ◌<◌, Bool, true, false}
use Rattle.journal_model.specs.declared.commands.Actor.{Actor}
use Rattle.bench.specs.Bench.{BenchState, Senses}
use Rattle.vold_book.specs.State.{BookState, seen}
use Rattle.vold_book.specs.Whole.{turns_left}
use Rattle.docket.specs.Docket.{IsBusy}
use Rattle.journal_model.specs.Machine.{TakesTurn}
use Rattle.vold_run.specs.Fits.{RoundFits, history_of}

-- no actor runs a command, and nothing waits for one; while the machine is down this is said of the recovery alone
abbrev pub NothingLeft : {B : Type 0} → BookState B → Type 0
NothingLeft book = (actor : Actor) → IsBusy book.docket actor → ¬ (TakesTurn book.tracker.phase actor)

-- how a round ends: it was made, and fewer turns are left; or the machine took no turn, and nothing changed
abbrev pub RoundEnds : {D E F : Type 0} → Senses D E F → BookState (BenchState D E F) → BookState (BenchState D E F)
    → Bool → Type 0
RoundEnds senses before after true =
    RoundFits (history_of before) (history_of after)
    × (turns_left (seen senses after) < turns_left (seen senses before))
RoundEnds senses before after false = NothingLeft before × (after ≡ before)
