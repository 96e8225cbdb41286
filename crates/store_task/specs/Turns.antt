-- What each turn of a task shows, in every share in which the facts hold that the task rests on.
use Rattle.std.specs.Prelude.{◌≡◌, ◌≢◌, ◌⊎◌, ℕ, ◌+◌, ◌<◌, ◌≤◌, false, List, length, Option, Some, None}
use Rattle.tree_model.specs.declared.blobs.Blob.{Blob}
use Rattle.tree_model.specs.declared.sites.Site.{Site}
use Rattle.tree_model.specs.declared.sites.Site.TheVariants.{Temp}
use Rattle.tree_model.specs.declared.sites.LocalOp.{LocalOp}
use Rattle.tree_model.specs.declared.sites.LocalOp.TheVariants.{RenameDir}
use Rattle.tree_model.specs.Parts.{LocalFits}
use Rattle.tree_model.specs.Sites.{site_of, touches}
use Rattle.seal_model.specs.Sealed.{sealed_text}
use Rattle.keystore_model.specs.declared.entry.StoreEntry.{StoreEntry}
use Rattle.keystore_model.specs.declared.entry.Tag.{Tag}
use Rattle.keystore_model.specs.Store.{entry_of}
use Rattle.step_core.specs.declared.jobs.Job.{Job}
use Rattle.step_core.specs.Jobs.{output_of}
use Rattle.user_world.specs.declared.changes.LocalChange.{LocalChange}
use Rattle.user_world.specs.OwnWorlds.{own_view}
use Rattle.user_world.specs.Turns.{adds_local}
use Rattle.task_turns.specs.declared.calls.Answer.{Answer}
use Rattle.task_turns.specs.declared.calls.Answer.TheVariants.{Output, Blob as IsBlob, Sealed, Done}
use Rattle.store_task.specs.declared.turns.Doing.{Doing}
use Rattle.store_task.specs.declared.turns.Doing.TheVariants.{Work, Generate, Encrypt, Tree, Sync}
use Rattle.task_turns.specs.Shares.{Share, AllHas}
use Rattle.task_turns.specs.Turns.{operated, synced, with_entry}
use Rattle.store_task.specs.declared.stages.Stage.TheVariants.{First}
use Rattle.store_task.specs.declared.stages.Progress.TheVariants.{Settled, Stored}
use Rattle.store_task.specs.Task.{Task, IsAnswer, HasEnded, facts_of, left_of, makes_of, progress_of, after}
use Rattle.store_task.specs.Task.{first_job}

-- the answer is one to what the task does next; with it the task has fewer turns left, and what it rests on then
-- holds in a share
pub record Leads (task : Task) (answer : Answer) (share : Share) : Type 0 where
  pub answers : IsAnswer task answer
  pub falls : left_of (after task answer) < left_of task
  pub facts : AllHas (facts_of (after task answer)) share

-- a job has the task's number, and leads on with the output that its input defines
pub record WorkShows (task : Task) (share : Share) (job : Job) : Type 0 where
  pub number : job.number ≡ task.job
  pub leads : Leads task (Output (output_of job.input)) share

-- an entry is made of the task's tag, and leads on with each blob that has none, whatever its key
pub record GenerateShows (task : Task) (share : Share) (tag : Tag) (app_id : List ℕ) : Type 0 where
  pub tagged : tag ≡ task.spec.tag
  pub leads : (blob : Blob) (key : List ℕ) → length blob ≡ 32 → entry_of share.vault.entries blob ≡ None
      → Leads task (IsBlob blob) (with_entry share blob tag app_id key)

-- the blob has an entry of this app id at the store's level, and what it seals leads on
pub record EncryptShows (task : Task) (share : Share) (blob : Blob) (app_id nonce key : List ℕ) : Type 0 where
  pub entry : StoreEntry
  pub live : entry_of share.vault.entries blob ≡ Some entry
  pub bound : entry.app_id ≡ app_id
  pub current : entry.level ≡ share.vault.level
  pub leads : Leads task (Sealed (sealed_text entry.key nonce key)) share

-- the operation leaves each site but the temporary one; the directory is neither synced nor in its place then
pub record StaysAside (task : Task) (op : LocalOp) : Type 0 where
  pub apart : (site : Site) → site ≢ Temp → touches op site ≡ false
  pub unsynced : progress_of (after task Done).stage ≢ Settled
  pub goes_on : progress_of (after task Done).stage ≢ Stored

-- the operation renames the temporary directory, which was synced, to the task's place
pub record PutsInPlace (task : Task) (op : LocalOp) : Type 0 where
  pub renames : op ≡ RenameDir Temp (site_of task.spec.target)
  pub synced : progress_of task.stage ≡ Settled

-- an operation fits the device's conditions, makes no more directories than are left to make, and leads on, whatever
-- change is noted with it
pub record TreeShows (task : Task) (share : Share) (op : LocalOp) : Type 0 where
  pub fits : LocalFits (own_view share.own) op
  pub owned : StaysAside task op ⊎ PutsInPlace task op
  pub makes : makes_of (after task Done) + adds_local op ≤ makes_of task
  pub leads : (note : Option LocalChange) → Leads task Done (operated share op note)

-- a sync leaves the directory synced, and leads on
pub record SyncShows (task : Task) (share : Share) : Type 0 where
  pub settles : progress_of (after task Done).stage ≡ Settled
  pub leads : Leads task Done (synced share)

abbrev pub DoingShows : Task → Share → Doing → Type 0
DoingShows task share (Work job) = WorkShows task share job
DoingShows task share (Generate tag app_id) = GenerateShows task share tag app_id
DoingShows task share (Encrypt blob app_id nonce key) = EncryptShows task share blob app_id nonce key
DoingShows task share (Tree op) = TreeShows task share op
DoingShows task share Sync = SyncShows task share

-- what it does next shows what it has to, in every share in which it rests; it does nothing exactly where it has ended
abbrev pub StoreTurns : Task → Option Doing → Type 0
StoreTurns task None = HasEnded task
StoreTurns task (Some doing) = ¬ (HasEnded task)
    × ((share : Share) → AllHas (facts_of task) share → DoingShows task share doing)

-- the task has not begun, and the job is the one that it begins with
pub record AsksFirst (task : Task) (job : Job) : Type 0 where
  pub first : task.stage ≡ First
  pub is : job ≡ first_job task

abbrev pub AsksIn : Task → Doing → Type 0
AsksIn task (Work job) = AsksFirst task job
AsksIn task (Generate tag app_id) = Unit {0}
AsksIn task (Encrypt blob app_id nonce key) = Unit {0}
AsksIn task (Tree op) = Unit {0}
AsksIn task Sync = Unit {0}

-- it asks for a job only as it begins, and for its first one
abbrev pub StoreAsks : Task → Option Doing → Type 0
StoreAsks task None = Unit {0}
StoreAsks task (Some doing) = AsksIn task doing
