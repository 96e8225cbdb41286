-- The turns of a store task as turns of its user's command, and what the command rests on between them.
use Rattle.std.specs.Prelude.{◌≡◌, ℕ, ◌+◌, List, [], ◌∷◌, ◌++◌, Option, Some, None}
use Rattle.tree_model.specs.declared.blobs.Blob.{Blob}
use Rattle.tree_model.specs.declared.places.Slot.TheVariants.{Current}
use Rattle.tree_model.specs.declared.sites.Site.TheVariants.{Ce, Temp}
use Rattle.tree_model.specs.Dir.{Files}
use Rattle.tree_model.specs.Parts.{Part}
use Rattle.journal_model.specs.Machine.{Running as Began}
use Rattle.user_world.specs.Facts.{Fact, Still, Here, Always}
use Rattle.task_turns.specs.Shares.{ShareFact, Own}
use Rattle.task_turns.specs.Turns.{Rest}
use Rattle.store_task.specs.declared.stages.Progress.{Progress}
use Rattle.store_task.specs.declared.stages.Progress.TheVariants.{Settled}
use Rattle.tree_model.specs.declared.sites.LocalOp.{LocalOp}
use Rattle.tree_model.specs.declared.sites.LocalOp.TheVariants.{RenameDir}
use Rattle.user_world.specs.declared.changes.LocalChange.{LocalChange}
use Rattle.task_turns.specs.declared.calls.Call.TheVariants.{Op as OpCall, Sync as SyncCall}
use Rattle.task_turns.specs.declared.calls.Call.TheVariants.{Generate as GenerateCall, Encrypt as EncryptCall}
use Rattle.task_turns.specs.declared.next.Next.{Next}
use Rattle.task_turns.specs.declared.next.Next.TheVariants.{Call as CallNext, Work as WorkNext}
use Rattle.store_task.specs.declared.turns.Doing.{Doing}
use Rattle.store_task.specs.declared.turns.Doing.TheVariants.{Work, Generate, Encrypt, Tree, Sync}
use Rattle.store_task.specs.Task.{Task, facts_of, held_by, held_of, left_of, makes_of, draws_of, progress_of, temp_of}
use Rattle.store_task.specs.Turns.{StoreTurns, StoreAsks}
use Rattle.user_tasks.specs.Turns.{quiet_turn}

-- a part with no device directory, and no credential directory but the current one
abbrev pub part : Option Files → Option Files → Part
part current temp (Ce Current) = current
part current temp Temp = temp
part current temp site = None

-- what stands in the user's part, and once it was synced in every part that a stop can leave
abbrev pub whole_at : Progress → Part → Fact
whole_at Settled part = Always part
whole_at progress part = Here part

-- what is known of the whole part, by the current credential directory and the temporary one: of a user who isn't
-- there what stands in it, and of one who is there that nothing is pending once it was synced
abbrev pub still_at : Progress → List ShareFact
still_at Settled = Own Still ∷ []
still_at progress = []

abbrev pub whole_facts : Option (Option Files) → Progress → Option Files → List ShareFact
whole_facts None progress temp = still_at progress
whole_facts (Some current) progress temp = Own (whole_at progress (part current temp)) ∷ []

-- a command while a store task of its works: what else it rests on, the current credential directory where that is all
-- of the user's part, the blobs that it held before, what the machine has of it, and what is left to do behind the
-- store task
pub record Frame : Type 1 where
  pub user : ℕ
  pub base : List ShareFact
  pub current : Option (Option Files)
  pub before : List Blob
  pub serves : ℕ → Began → Type 0
  pub turns : ℕ
  pub makes : ℕ
  pub draws : ℕ

-- how many turns a store task has at most; one that makes a directory counts twice
abbrev pub turns_of : Task → ℕ
turns_of task = left_of task + makes_of task

-- where such a command rests
abbrev pub rest_in : Frame → Task → Rest
rest_in frame task = record {
  user = frame.user;
  facts = frame.base ++ (whole_facts frame.current (progress_of task.stage) (temp_of task) ++ facts_of task);
  held = frame.before ++ held_of task;
  serves = frame.serves;
  left = turns_of task + frame.turns;
  makes = makes_of task + frame.makes;
  draws = draws_of task + frame.draws;
}

-- a rename brings what the directory names, and makes the change
abbrev pub op_turn : ℕ → LocalOp → Option Blob → Option LocalChange → Next
op_turn user (RenameDir from to) named change = CallNext (OpCall user (RenameDir from to) named) change
op_turn user op named change = quiet_turn (OpCall user op None)

abbrev pub turn_of : ℕ → Doing → Option Blob → Option LocalChange → Next
turn_of user (Work job) named change = WorkNext job
turn_of user (Generate tag app_id) named change = quiet_turn (GenerateCall tag app_id)
turn_of user (Encrypt blob app_id nonce key) named change = quiet_turn (EncryptCall blob app_id nonce key)
turn_of user (Tree op) named change = op_turn user op named change
turn_of user Sync named change = quiet_turn SyncCall

-- the turn is one that the store task shows, of a task that holds the blob which its directory names
pub record IsStoreTurn (user : ℕ) (task : Task) (change : Option LocalChange) (next : Next) : Type 0 where
  pub doing : Doing
  pub shows : StoreTurns task (Some doing)
  pub asks : StoreAsks task (Some doing)
  pub named : Option Blob
  pub holds : held_by named ≡ held_of task
  pub is : next ≡ turn_of user doing named change
