-- What a user's step shows of that user's world, and which of its changes are logged and durable.
use Rattle.std.specs.Prelude.{◌≡◌, ℕ, List, Option, Some, None}
use Rattle.tree_model.specs.declared.sites.LocalOp.{LocalOp}
use Rattle.tree_model.specs.declared.sites.LocalOp.TheVariants.{MakeDir, RemoveDir}
use Rattle.tree_model.specs.Parts.{local_kind, LocalFits}
use Rattle.journal_model.specs.declared.entries.Change.{Change}
use Rattle.journal_model.specs.Machine.{Running as Began, with_change}
use Rattle.journal_model.specs.Users.{owner_of}
use Rattle.user_world.specs.declared.changes.LocalChange.{LocalChange}
use Rattle.user_world.specs.Changes.{change_of, local_of, noted_kind}
use Rattle.user_world.specs.Meaning.{Meaning}
use Rattle.user_world.specs.OwnWorlds.{Step, OwnWorld, own_view, with_step, Keeps}
use Rattle.user_world.specs.Facts.{Fact, Logged, Durable, Holds, AllHold}

-- a step may be made, makes the change that it notes, keeps every image, and leads to what the next stage rests on
pub record StepShows (meaning : Meaning) (user : ℕ) (own : OwnWorld) (step : Step) (next : List Fact) : Type 0 where
  pub fits : LocalFits (own_view own) step.op
  pub noted : local_kind (own_view own) step.op ≡ noted_kind step.note
  pub keeps : Keeps meaning user own step
  pub leads : AllHold next (with_step own step)

-- the changes of the user's world that are logged, and that they are durable
abbrev pub IsLogged : ℕ → OwnWorld → Change → Type 0
IsLogged user own change = (owner_of change ≡ user) × Holds (Logged (local_of change)) own

abbrev pub AreDurable : ℕ → OwnWorld → Option ℕ → Type 0
AreDurable user own of = (of ≡ Some user) × Holds Durable own

-- the command with the change that a call of it made
abbrev pub with_note : ℕ → Began → Option LocalChange → Began
with_note user began None = began
with_note user began (Some change) = with_change began (change_of user change)

-- how a call changes the number of directories, as a number added and a number taken
abbrev pub adds_local : LocalOp → ℕ
adds_local (MakeDir site) = 1
adds_local op = 0

abbrev pub takes_local : LocalOp → ℕ
takes_local (RemoveDir site) = 1
takes_local op = 0
