-- Who moved in which line: how the lines of a script, the entries of a journal and the devices' calls fit together.
-- What waits and what runs is read off the commands that were given and the journal.
use Rattle.std.specs.Prelude.{◌≡◌, ℕ, zero, suc, ◌+◌, ◌≤◌, ◌⊎◌, List, [], ◌∷◌, ◌++◌}
use Rattle.std.specs.Prelude.{Option, Some, None, IsSomeAnd, Contains, slice_get}
use Rattle.std.specs.declared.cmp.Ordering.TheVariants.{Less, Equal}
use Rattle.std.specs.FinMap as map
use Rattle.tree_model.specs.declared.blobs.Blob.{Blob}
use Rattle.tree_model.specs.declared.ops.Cut.{Cut}
use Rattle.tree_model.specs.declared.places.Class.{Class}
use Rattle.journal_model.specs.declared.commands.Actor.{Actor}
use Rattle.journal_model.specs.declared.commands.Actor.TheVariants.{Boot, Cp, User}
use Rattle.journal_model.specs.declared.commands.Command.{Command}
use Rattle.journal_model.specs.declared.commands.Command.TheVariants.{Recover}
use Rattle.journal_model.specs.declared.commands.Reply.{Reply}
use Rattle.journal_model.specs.declared.entries.Change.{Change}
use Rattle.journal_model.specs.declared.entries.Entry.{Entry}
use Rattle.journal_model.specs.declared.entries.Entry.TheVariants.{Began, Changed, Synced, Installed, Evicted}
use Rattle.journal_model.specs.declared.entries.Entry.TheVariants.{Swept, Stopped, Restarted, Replied}
use Rattle.journal_model.specs.Actor.{actor_cmp}
use Rattle.journal_model.specs.Command.{actor_of}
use Rattle.journal_model.specs.Machine.{TakesTurn, machine_after, numbers_begun}
use Rattle.script_text.specs.declared.script.Line.{Line}
use Rattle.script_text.specs.declared.script.Line.TheVariants.{Seed, Do, Turns, All, Stop, Restart}
use Rattle.vold_book.specs.State.{BookState}
use Rattle.sorted_map.specs.Maps.{IsAfter}

-- the commands that were given, by number, the journal, and the actor of each call of a device, in order
pub record History : Type 0 where
  pub commands : List Command
  pub entries : List Entry
  pub calls : List Actor

-- before the first line
abbrev pub nothing : History
nothing = record { commands = []; entries = []; calls = [] }

abbrev pub history_of : {B : Type 0} → BookState B → History
history_of book = record {
  commands = book.docket.commands;
  entries = book.ledger.entries;
  calls = book.ledger.callers;
}

-- the number was given to a command of the actor, which didn't begin
abbrev pub Waits : History → Actor → ℕ → Type 0
Waits history actor number =
    IsSomeAnd (slice_get history.commands number) (λ command. actor_of command ≡ actor)
    × ¬ (Contains (numbers_begun history.entries) number)

-- a command of the actor began with the number, and neither got its reply nor was lost in a stop
abbrev pub Runs : History → Actor → ℕ → Type 0
Runs history actor number =
    IsSomeAnd (map.get (machine_after history.entries).running number) (λ running. actor_of running.command ≡ actor)

-- the actor has something to do
abbrev pub HasWork : History → Actor → Type 0
HasWork history actor = (number : ℕ) × (Runs history actor number ⊎ Waits history actor number)

-- the actor has something to do, and the machine takes its turns
pub record IsAtWork (history : History) (actor : Actor) : Type 0 where
  pub works : HasWork history actor
  pub allowed : TakesTurn (machine_after history.entries).phase actor

-- no actor is
abbrev pub NoWork : History → Type 0
NoWork history = (actor : Actor) → ¬ (IsAtWork history actor)

-- the first actor at work after another, or of all
pub record IsNextAtWork (history : History) (after : Option Actor) (next : Actor) : Type 0 where
  pub works : IsAtWork history next
  pub later : IsAfter actor_cmp after next
  pub first : (other : Actor) → IsAtWork history other → IsAfter actor_cmp after other
      → (actor_cmp next other ≡ Less) ⊎ (actor_cmp next other ≡ Equal)

abbrev pub NoneAtWork : History → Option Actor → Type 0
NoneAtWork history after = (other : Actor) → IsAtWork history other → IsAfter actor_cmp after other → ⊥

-- which of an actor's numbers begins before another: the lower one, but of the recoveries that restarts gave the
-- newest
abbrev pub ComesBy : Actor → ℕ → ℕ → Type 0
ComesBy Boot number other = other ≤ number
ComesBy Cp number other = number ≤ other
ComesBy (User user) number other = number ≤ other

-- an actor that runs nothing begins the first number that waits for it, without a call
pub record BeginsNext (before : History) (actor : Actor) (after : History) : Type 0 where
  pub number : ℕ
  pub command : Command
  pub idle : (other : ℕ) → ¬ (Runs before actor other)
  pub waits : Waits before actor number
  pub first : (other : ℕ) → Waits before actor other → ComesBy actor number other
  pub given : slice_get before.commands number ≡ Some command
  pub left : after ≡ record before { entries = before.entries ++ Began number actor command ∷ [] }

-- what a call adds to the journal: nothing, that it was synced, a change by the running command, that a key was
-- installed or evicted, or that a blob was deleted from the keystore
abbrev pub IsNoted : ℕ → List Entry → Type 0
IsNoted number more = (more ≡ []) ⊎ ((more ≡ Synced ∷ []) ⊎ (((change : Change) × (more ≡ Changed number change ∷ []))
    ⊎ (((user : ℕ) × (class : Class) × ((more ≡ Installed user class ∷ []) ⊎ (more ≡ Evicted user class ∷ [])))
    ⊎ ((blob : Blob) × (more ≡ Swept blob ∷ [])))))

-- the command that the actor runs makes one call of a device
pub record CallsOnce (before : History) (actor : Actor) (after : History) : Type 0 where
  pub number : ℕ
  pub more : List Entry
  pub runs : Runs before actor number
  pub noted : IsNoted number more
  pub left : after ≡ record before { entries = before.entries ++ more; calls = before.calls ++ actor ∷ [] }

-- the command that the actor runs gets its reply, without a call
pub record RepliesOnce (before : History) (actor : Actor) (after : History) : Type 0 where
  pub number : ℕ
  pub reply : Reply
  pub runs : Runs before actor number
  pub left : after ≡ record before { entries = before.entries ++ Replied number reply ∷ [] }

-- one turn of an actor
abbrev pub TurnFits : History → Actor → History → Type 0
TurnFits before actor after =
    BeginsNext before actor after ⊎ (CallsOnce before actor after ⊎ RepliesOnce before actor after)

-- turns of these actors, each the next at work after the one before
abbrev pub TurnsFit : List Actor → History → Option Actor → History → Option Actor → Type 0
TurnsFit [] before last after last' = (after ≡ before) × (last' ≡ last)
TurnsFit (actor ∷ actors) before last after last' =
    IsNextAtWork before last actor
    × ((between : History) × TurnFits before actor between × TurnsFit actors between (Some actor) after last')

-- a round: one turn of each actor at work, in the order of actors
pub record RoundFits (before after : History) : Type 0 where
  pub actors : List Actor
  pub last : Option Actor
  pub turns : TurnsFit actors before None after last
  pub ended : NoneAtWork after last

-- so many rounds
abbrev pub RoundsFit : ℕ → History → History → Type 0
RoundsFit zero before after = after ≡ before
RoundsFit (suc count) before after = (between : History) × RoundFits before between × RoundsFit count between after

-- rounds until no actor is at work
pub record AllFits (before after : History) : Type 0 where
  pub count : ℕ
  pub rounds : RoundsFit count before after
  pub ended : NoWork after

-- a turn that an actor is given: it makes one where it is at work, and else nothing happens
abbrev pub MayTurn : Actor → History → History → Type 0
MayTurn actor before after =
    (IsAtWork before actor × TurnFits before actor after) ⊎ (¬ (IsAtWork before actor) × (after ≡ before))

-- so many turns that an actor is given
abbrev pub TurnsOf : Actor → ℕ → History → History → Type 0
TurnsOf actor zero before after = after ≡ before
TurnsOf actor (suc count) before after =
    (between : History) × MayTurn actor before between × TurnsOf actor count between after

-- the machine stops: no turn is made, and where no pending operation is kept the changes are those that were durable
pub record StopFits (cut : Cut) (before after : History) : Type 0 where
  pub kept : ℕ
  pub left : after ≡ record before { entries = before.entries ++ Stopped kept ∷ [] }
  pub none : cut.keep ≡ 0 → kept ≡ (machine_after before.entries).kept

-- what a line does: a command is given; an actor gets so many turns; every actor works until none is at work; the
-- machine stops; it starts again, and a recovery is given
abbrev pub LineFits : Line → History → History → Type 0
LineFits (Seed bytes) before after = after ≡ before
LineFits (Do command) before after = after ≡ record before { commands = before.commands ++ command ∷ [] }
LineFits (Turns actor count) before after = TurnsOf actor count before after
LineFits All before after = AllFits before after
LineFits (Stop cut) before after = StopFits cut before after
LineFits (Restart level) before after = after ≡ record before {
  commands = before.commands ++ Recover ∷ [];
  entries = before.entries ++ Restarted ((machine_after before.entries).boot + 1) level ∷ [];
}

-- what the lines do, one after another
abbrev pub LinesFit : List Line → History → History → Type 0
LinesFit [] before after = after ≡ before
LinesFit (line ∷ lines) before after =
    (between : History) × LineFits line before between × LinesFit lines between after
