-- What each turn of a task that fixates a user's slots shows, in every sound share in which the user has the slots
-- that the task knows.
use Rattle.std.specs.Prelude.{◌≡◌, ◌<◌, ℕ, [], Option, Some, None}
use Rattle.tree_model.specs.declared.places.Slot.TheVariants.{Current}
use Rattle.journal_model.specs.Machine.{Fixes}
use Rattle.journal_model.specs.Users.{Record, HasOnly}
use Rattle.user_world.specs.Changes.{change_of}
use Rattle.user_world.specs.OwnWorlds.{own_record}
use Rattle.user_world.specs.Turns.{StepShows}
use Rattle.key_directory.specs.Vaults.{Vault, sealed}
use Rattle.task_turns.specs.Names.{Gains}
use Rattle.task_turns.specs.Shares.{Share, Slots, Has, IsSound}
use Rattle.task_turns.specs.Turns.{operated}
use Rattle.fixate_task.specs.declared.task.Doing.{Doing}
use Rattle.fixate_task.specs.Task.{Fixing, after, left_of, op_of, change_by}

-- the operation may be made, makes its change, which a fixation on the kept slot allows, and keeps every part that a
-- stop can leave, whatever directories are opened with; it makes no directory name another blob; and the user has the
-- slots that the task knows then, with fewer turns left
pub record DoingShows (task : Fixing) (user : ℕ) (share : Share) (doing : Doing) : Type 0 where
  pub step : (vault : Vault) → StepShows (sealed vault) user share.own
      (record { op = op_of doing; note = Some (change_by doing) }) []
  pub allowed : (known : Record) → own_record share.own ≡ Some known
      → Fixes user known task.kept (change_of user (change_by doing))
  pub gained : Gains share.own (op_of doing) []
  pub rests : Has (Slots (after task).kept (after task).others) (operated share (op_of doing) (Some (change_by doing)))
  pub falls : left_of (after task) < left_of task

-- by what it does next: nothing exactly where the current slot is the user's one
abbrev pub FixTurns : Fixing → Option Doing → Type 0
FixTurns task None = (share : Share) (known : Record) → Has (Slots task.kept task.others) share
    → own_record share.own ≡ Some known → HasOnly known Current
FixTurns task (Some doing) = (user : ℕ) (share : Share) → IsSound user share
    → Has (Slots task.kept task.others) share → DoingShows task user share doing
