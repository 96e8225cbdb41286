-- What each turn of a task that opens a key shows, in every sound share in which the facts hold that it rests on.
use Rattle.std.specs.Prelude.{◌≡◌, ℕ, ◌<◌, List, length, Option, Some, None, is_some, true}
use Rattle.tree_model.specs.declared.blobs.Blob.{Blob}
use Rattle.tree_model.specs.declared.places.Slot.{Slot}
use Rattle.tree_model.specs.declared.sites.Site.TheVariants.{Ce}
use Rattle.tree_model.specs.Dir.{Files}
use Rattle.step_core.specs.declared.jobs.Job.{Job}
use Rattle.step_core.specs.Jobs.{output_of}
use Rattle.user_world.specs.OwnWorlds.{own_view}
use Rattle.tree_model.specs.Named.{named_at}
use Rattle.key_directory.specs.Opened.{answer_in, sealed_at}
use Rattle.task_turns.specs.declared.calls.Answer.{Answer}
use Rattle.task_turns.specs.declared.calls.Answer.TheVariants.{Directory, Decrypted, Output}
use Rattle.task_turns.specs.Shares.{Share, AllHas, IsSound}
use Rattle.task_turns.specs.Turns.{HasWholeKey}
use Rattle.open_task.specs.declared.stages.Doing.{Doing}
use Rattle.open_task.specs.declared.stages.Doing.TheVariants.{Read, Work, Decrypt}
use Rattle.open_task.specs.Task.{Opening, IsAnswer, HasEnded, facts_of, left_of, asks_of, after}

-- the answer is one to what the task does next; with it the task has fewer turns left, and what it rests on then
-- holds in the share
pub record Leads (task : Opening) (answer : Answer) (share : Share) : Type 0 where
  pub answers : IsAnswer task answer
  pub falls : left_of (after task answer) < left_of task
  pub facts : AllHas (facts_of (after task answer)) share

-- the slot is there, and its directory leads on
pub record ReadShows (task : Opening) (share : Share) (slot : Slot) : Type 0 where
  pub there : is_some (own_view share.own (Ce slot)) ≡ true
  pub leads : (files : Files) → own_view share.own (Ce slot) ≡ Some files → Leads task (Directory files) share

-- a job has the task's number, and leads on with the output that its input defines
pub record WorkShows (task : Opening) (share : Share) (job : Job) : Type 0 where
  pub number : job.number ≡ task.job
  pub leads : Leads task (Output (output_of job.input)) share

-- a sealed key is one of 92 bytes, and what the keystore answers leads on
pub record DecryptShows (task : Opening) (share : Share) (blob : Blob) (app_id sealed : List ℕ) : Type 0 where
  pub long : length sealed ≡ 92
  pub leads : Leads task (Decrypted (answer_in share.vault blob app_id sealed)) share

abbrev pub DoingShows : Opening → Share → Doing → Type 0
DoingShows task share (Read slot) = ReadShows task share slot
DoingShows task share (Work job) = WorkShows task share job
DoingShows task share (Decrypt blob app_id sealed) = DecryptShows task share blob app_id sealed

-- what it does next shows what it has to, in every sound share in which it rests; it does nothing exactly where it has
-- ended
abbrev pub OpenTurns : Opening → Option Doing → Type 0
OpenTurns task None = HasEnded task
OpenTurns task (Some doing) = ¬ (HasEnded task)
    × ((share : Share) → IsSound task.user share → AllHas (facts_of task) share → DoingShows task share doing)

-- the sealed key of the directory is opened under the entry of the blob that it names
pub record Decrypts (files : Files) (app_id : List ℕ) (doing : Doing) : Type 0 where
  pub blob : Blob
  pub names : named_at (Some files) ≡ Some blob
  pub is : doing ≡ Decrypt blob app_id (sealed_at files)

-- a job that it asks for: it may hear the output, and asks for fewer jobs then
pub record AsksFor (task : Opening) (job : Job) : Type 0 where
  pub whole : HasWholeKey job.input
  pub hears : IsAnswer task (Output (output_of job.input))
  pub fewer : asks_of (after task (Output (output_of job.input))) < asks_of task

abbrev pub AsksIn : Opening → Doing → Type 0
AsksIn task (Work job) = AsksFor task job
AsksIn task doing = Unit {0}

abbrev pub OpenAsks : Opening → Option Doing → Type 0
OpenAsks task None = Unit {0}
OpenAsks task (Some doing) = AsksIn task doing
