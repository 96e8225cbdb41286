-- Durable changes stay: in every later legal journal, and from the reply on that told of them.
use Rattle.std.specs.Prelude.{◌≡◌, ℕ, ◌≤◌, List, [], ◌∷◌, ◌++◌, take, Some, None, Contains}
use Rattle.std.specs.FinMap as map
use Rattle.tree_model.specs.declared.places.Slot.{Slot}
use Rattle.journal_model.specs.declared.commands.Command.{Command}
use Rattle.journal_model.specs.declared.commands.Command.TheVariants.{Create, Protect}
use Rattle.journal_model.specs.declared.commands.Reply.{Reply}
use Rattle.journal_model.specs.declared.commands.Reply.TheVariants.{Done}
use Rattle.journal_model.specs.declared.entries.Change.{Change}
use Rattle.journal_model.specs.declared.entries.Change.TheVariants.{Create as Created, Add as Added}
use Rattle.journal_model.specs.declared.entries.Entry.{Entry}
use Rattle.journal_model.specs.declared.entries.Entry.TheVariants.{Replied}
use Rattle.journal_model.specs.Machine.{Machine, Running, kind_of_reply, Outcome, machine_after, MayCome, IsLegal}

abbrev pub durable_changes : Machine → List Change
durable_changes machine = take machine.kept machine.log

-- one list begins with another
abbrev pub IsFront : {A : Type 0} → List A → List A → Type 0
IsFront {A} front whole = (rest : List A) × (whole ≡ front ++ rest)

-- the durable changes of one machine come first among those of another, which are no fewer
pub record Survive (before after : Machine) : Type 0 where
  pub fewer : before.kept ≤ after.kept
  pub first : IsFront (durable_changes before) (durable_changes after)

abbrev pub LawOfSurvival : Type 0
LawOfSurvival = (entries more : List Entry) → IsLegal (entries ++ more)
    → Survive (machine_after entries) (machine_after (entries ++ more))

-- the change of a command that makes one is among the durable ones
abbrev pub MadeDurably : Machine → Running → Command → Type 0
MadeDurably machine running (Create user) =
    Contains (durable_changes machine) (Created user (record { boot = machine.boot; index = running.index }))
MadeDurably machine running (Protect user given fresh) = (slot : Slot) × (running.changes ≡ Added user slot fresh ∷ [])
    × Contains (durable_changes machine) (Added user slot fresh)
MadeDurably machine running command = Unit {0}

-- and so it is of a command that was not refused and is told that it did its work
abbrev pub LawOfAnswered : Type 0
LawOfAnswered = (entries : List Entry) (number : ℕ) (running : Running) →
    let machine = machine_after entries in
    map.get machine.running number ≡ Some running → running.verdict ≡ None
    → MayCome entries machine (Replied number Done) → MadeDurably machine running running.command

-- a running command was not refused, and may be told by this reply what came of its work
pub record IsAcknowledged (entries : List Entry) (number : ℕ) (running : Running) (reply : Reply) : Type 0 where
  pub runs : map.get (machine_after entries).running number ≡ Some running
  pub accepted : running.verdict ≡ None
  pub outcome : kind_of_reply reply ≡ Outcome
  pub may : MayCome entries (machine_after entries) (Replied number reply)

-- each change of such a command is among the durable ones
abbrev pub LawOfAcknowledged : Type 0
LawOfAcknowledged = (entries : List Entry) (number : ℕ) (running : Running) (reply : Reply) → IsLegal entries
    → IsAcknowledged entries number running reply
    → (change : Change) → Contains running.changes change
    → Contains (durable_changes (machine_after entries)) change
