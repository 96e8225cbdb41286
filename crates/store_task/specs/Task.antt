-- A task that stores a directory, as data: the files that it wrote so far, the facts that it rests on, and what it is
-- after an answer.
use Rattle.std.specs.Prelude.{◌≡◌, ◌≢◌, ℕ, Bool, cond, List, [], ◌∷◌, length, Option, Some, None, is_some}
use Rattle.std.specs.FinMap as map
use Rattle.tree_model.specs.declared.blobs.Blob.{Blob}
use Rattle.tree_model.specs.declared.files.FileName.TheVariants.{Version, EncryptedKey, Blob as BlobFile, Discard}
use Rattle.tree_model.specs.declared.sites.Site.{Site}
use Rattle.tree_model.specs.declared.sites.Site.TheVariants.{Temp}
use Rattle.tree_model.specs.Dir.{Files}
use Rattle.tree_model.specs.Sites.{site_of}
use Rattle.tree_model.specs.Tree.{user_of}
use Rattle.journal_model.specs.Hashes.{app_id_of, wrap_key_of}
use Rattle.seal_model.specs.Sealed.{sealed_text}
use Rattle.step_core.specs.declared.jobs.JobOutput.{JobOutput}
use Rattle.step_core.specs.declared.jobs.JobOutput.TheVariants.{AppId as IsAppId, Sealed as IsSealed, Opened}
use Rattle.step_core.specs.declared.jobs.JobInput.{JobInput}
use Rattle.step_core.specs.declared.jobs.JobInput.TheVariants.{AppId, Seal}
use Rattle.step_core.specs.declared.jobs.Job.{Job}
use Rattle.user_world.specs.Facts.{HereAt, AlwaysAt}
use Rattle.key_directory.specs.Shape.{version_bytes}
use Rattle.store_task.specs.declared.turns.StoreSpec.{StoreSpec}
use Rattle.task_turns.specs.declared.calls.Answer.{Answer}
use Rattle.task_turns.specs.declared.calls.Answer.TheVariants.{Output, Blob as IsBlob, Sealed, Done}
use Rattle.store_task.specs.declared.stages.Stage.{Stage}
use Rattle.store_task.specs.declared.stages.Stage.TheVariants.{First, Tied, Generated, Storing}
use Rattle.store_task.specs.declared.stages.Progress.{Progress}
use Rattle.store_task.specs.declared.stages.Progress.TheVariants.{Absent, Made, Versioned, Discardable, Named, Keyed}
use Rattle.store_task.specs.declared.stages.Progress.TheVariants.{Settled, Stored}
use Rattle.task_turns.specs.Shares.{ShareFact, Own, KeyFor, SealedFor, Same}

pub record Task : Type 0 where
  pub spec : StoreSpec
  -- the number of its one job
  pub job : ℕ
  pub stage : Stage

-- a directory has a blob exactly where its secret is empty, and a blob has 32 bytes
abbrev pub IsBoundBy : List ℕ → Option Blob → Type 0
IsBoundBy secret None = secret ≢ []
IsBoundBy secret (Some blob) = (secret ≡ []) × (length blob ≡ 32)

-- an app id is sought where the secret is empty
abbrev pub IsStage : List ℕ → Stage → Type 0
IsStage secret First = Unit {0}
IsStage secret (Tied app_id) = secret ≡ []
IsStage secret (Generated app_id blob) = IsBoundBy secret (Some blob)
IsStage secret (Storing blob sealed progress) = IsBoundBy secret blob

pub record IsTask (task : Task) : Type 0 where
  pub key : length task.spec.key ≡ 64
  pub nonce : length task.spec.nonce ≡ 12
  pub discard : length task.spec.discard ≡ 16384
  pub owner : user_of task.spec.target ≡ task.spec.tag.user
  pub target : site_of task.spec.target ≢ Temp
  pub stage : IsStage task.spec.secret task.stage

-- the files, one after another
abbrev pub with_version : Files
with_version = map.insert map.empty Version version_bytes

abbrev pub with_discard : List ℕ → Files
with_discard discard = map.insert with_version Discard discard

abbrev pub with_blob : List ℕ → Option Blob → Files
with_blob discard None = with_discard discard
with_blob discard (Some blob) = map.insert (with_discard discard) BlobFile blob

abbrev pub all_files : List ℕ → Option Blob → List ℕ → Files
all_files discard blob sealed = map.insert (with_blob discard blob) EncryptedKey sealed

-- nothing is at the target, and the temporary directory is these files
abbrev pub filling : Site → Files → List ShareFact
filling target files = Own (HereAt Temp (Some files)) ∷ Own (HereAt target None) ∷ []

-- what the task knows of its places
abbrev pub places_at : Site → List ℕ → Option Blob → List ℕ → Progress → List ShareFact
places_at target discard blob sealed Absent = Own (HereAt Temp None) ∷ Own (HereAt target None) ∷ []
places_at target discard blob sealed Made = filling target map.empty
places_at target discard blob sealed Versioned = filling target with_version
places_at target discard blob sealed Discardable = filling target (with_discard discard)
places_at target discard blob sealed Named = filling target (with_blob discard blob)
places_at target discard blob sealed Keyed = filling target (all_files discard blob sealed)
places_at target discard blob sealed Settled =
    Own (AlwaysAt Temp (Some (all_files discard blob sealed))) ∷ Own (AlwaysAt target None)
    ∷ filling target (all_files discard blob sealed)
places_at target discard blob sealed Stored =
    Own (HereAt Temp None) ∷ Own (HereAt target (Some (all_files discard blob sealed))) ∷ []

-- how the key was sealed: under the entry of the blob, or under the secret's wrapping key
abbrev pub sealing : StoreSpec → Option Blob → List ℕ → ShareFact
sealing spec None sealed =
    Same sealed (sealed_text (wrap_key_of (app_id_of spec.discard spec.secret)) spec.nonce spec.key)
sealing spec (Some blob) sealed =
    SealedFor blob (app_id_of spec.discard []) spec.tag spec.nonce spec.key sealed

abbrev pub facts_at : StoreSpec → Stage → List ShareFact
facts_at spec First = places_at (site_of spec.target) spec.discard None [] Absent
facts_at spec (Tied app_id) =
    Same app_id (app_id_of spec.discard []) ∷ places_at (site_of spec.target) spec.discard None [] Absent
facts_at spec (Generated app_id blob) =
    Same app_id (app_id_of spec.discard []) ∷ KeyFor blob app_id spec.tag
    ∷ places_at (site_of spec.target) spec.discard None [] Absent
facts_at spec (Storing blob sealed progress) =
    sealing spec blob sealed ∷ places_at (site_of spec.target) spec.discard blob sealed progress

-- the facts that a task rests on between two turns
abbrev pub facts_of : Task → List ShareFact
facts_of task = facts_at task.spec task.stage

-- the blob whose entry the task rests on
abbrev pub held_by : Option Blob → List Blob
held_by None = []
held_by (Some blob) = blob ∷ []

abbrev pub held_at : Stage → List Blob
held_at First = []
held_at (Tied app_id) = []
held_at (Generated app_id blob) = held_by (Some blob)
held_at (Storing blob sealed progress) = held_by blob

abbrev pub held_of : Task → List Blob
held_of task = held_at task.stage

-- how far the directory is: it isn't there before its key is sealed
abbrev pub progress_of : Stage → Progress
progress_of First = Absent
progress_of (Tied app_id) = Absent
progress_of (Generated app_id blob) = Absent
progress_of (Storing blob sealed progress) = progress

-- the temporary directory, as far as it was written
abbrev pub temp_in : List ℕ → Option Blob → List ℕ → Progress → Option Files
temp_in discard blob sealed Absent = None
temp_in discard blob sealed Made = Some map.empty
temp_in discard blob sealed Versioned = Some with_version
temp_in discard blob sealed Discardable = Some (with_discard discard)
temp_in discard blob sealed Named = Some (with_blob discard blob)
temp_in discard blob sealed Keyed = Some (all_files discard blob sealed)
temp_in discard blob sealed Settled = Some (all_files discard blob sealed)
temp_in discard blob sealed Stored = None

abbrev pub temp_at : List ℕ → Stage → Option Files
temp_at discard First = None
temp_at discard (Tied app_id) = None
temp_at discard (Generated app_id blob) = None
temp_at discard (Storing blob sealed progress) = temp_in discard blob sealed progress

abbrev pub temp_of : Task → Option Files
temp_of task = temp_at task.spec.discard task.stage

-- how many turns it has left at most
abbrev pub left_in : Progress → ℕ
left_in Absent = 7
left_in Made = 6
left_in Versioned = 5
left_in Discardable = 4
left_in Named = 3
left_in Keyed = 2
left_in Settled = 1
left_in Stored = 0

abbrev pub left_at : Stage → ℕ
left_at First = 10
left_at (Tied app_id) = 9
left_at (Generated app_id blob) = 8
left_at (Storing blob sealed progress) = left_in progress

abbrev pub left_of : Task → ℕ
left_of task = left_at task.stage

-- how many directories it still makes, and how many entries, at most
abbrev pub makes_in : Progress → ℕ
makes_in Absent = 1
makes_in progress = 0

abbrev pub makes_of : Task → ℕ
makes_of task = makes_in (progress_of task.stage)

abbrev pub draws_at : Stage → ℕ
draws_at First = 1
draws_at (Tied app_id) = 1
draws_at (Generated app_id blob) = 0
draws_at (Storing blob sealed progress) = 0

abbrev pub draws_of : Task → ℕ
draws_of task = draws_at task.stage

-- the directory is stored
abbrev pub HasEnded : Task → Type 0
HasEnded task = left_of task ≡ 0

-- how far the directory is after one more operation or sync
abbrev pub progress_after : Bool → Progress → Progress
progress_after bound Absent = Made
progress_after bound Made = Versioned
progress_after bound Versioned = Discardable
progress_after bound Discardable = cond bound Named Keyed
progress_after bound Named = Keyed
progress_after bound Keyed = Settled
progress_after bound Settled = Stored
progress_after bound Stored = Stored

-- a job's output gives the app id or the sealed key
abbrev pub after_job : JobOutput → Stage
after_job (IsAppId app_id) = Tied app_id
after_job (IsSealed sealed) = Storing None sealed Absent
after_job (Opened key) = First

abbrev pub after_first : Answer → Stage
after_first (Output output) = after_job output
after_first answer = First

abbrev pub after_tied : List ℕ → Answer → Stage
after_tied app_id (IsBlob blob) = Generated app_id blob
after_tied app_id answer = Tied app_id

abbrev pub after_generated : List ℕ → Blob → Answer → Stage
after_generated app_id blob (Sealed sealed) = Storing (Some blob) sealed Absent
after_generated app_id blob answer = Generated app_id blob

abbrev pub after_storing : Option Blob → List ℕ → Progress → Answer → Stage
after_storing blob sealed progress Done = Storing blob sealed (progress_after (is_some blob) progress)
after_storing blob sealed progress answer = Storing blob sealed progress

-- what answers nothing changes nothing
abbrev pub stage_after : Stage → Answer → Stage
stage_after First answer = after_first answer
stage_after (Tied app_id) answer = after_tied app_id answer
stage_after (Generated app_id blob) answer = after_generated app_id blob answer
stage_after (Storing blob sealed progress) answer = after_storing blob sealed progress answer

abbrev pub after : Task → Answer → Task
after task answer = record task { stage = stage_after task.stage answer }

-- the task with another key to store
abbrev pub with_key : Task → List ℕ → Task
with_key task key = record task { spec = record task.spec { key = key } }

-- the output that the secret's kind of sealing begins with
abbrev pub IsOutput : List ℕ → JobOutput → Type 0
IsOutput secret (IsAppId app_id) = secret ≡ []
IsOutput secret (IsSealed sealed) = secret ≢ []
IsOutput secret (Opened key) = ⊥

abbrev pub AnswersFirst : List ℕ → Answer → Type 0
AnswersFirst secret (Output output) = IsOutput secret output
AnswersFirst secret answer = ⊥

-- a blob has 32 bytes
abbrev pub AnswersGenerate : Answer → Type 0
AnswersGenerate (IsBlob blob) = length blob ≡ 32
AnswersGenerate answer = ⊥

abbrev pub AnswersEncrypt : Answer → Type 0
AnswersEncrypt (Sealed sealed) = Unit {0}
AnswersEncrypt answer = ⊥

abbrev pub AnswersDone : Progress → Answer → Type 0
AnswersDone progress Done = progress ≢ Stored
AnswersDone progress answer = ⊥

abbrev pub AnswersStage : List ℕ → Stage → Answer → Type 0
AnswersStage secret First answer = AnswersFirst secret answer
AnswersStage secret (Tied app_id) answer = AnswersGenerate answer
AnswersStage secret (Generated app_id blob) answer = AnswersEncrypt answer
AnswersStage secret (Storing blob sealed progress) answer = AnswersDone progress answer

-- the answer is one to what the task does next
abbrev pub IsAnswer : Task → Answer → Type 0
IsAnswer task answer = AnswersStage task.spec.secret task.stage answer

-- the job that it begins with, by its secret
abbrev pub first_input : List ℕ → List ℕ → List ℕ → List ℕ → JobInput
first_input discard nonce key [] = AppId discard []
first_input discard nonce key (byte ∷ bytes) = Seal discard (byte ∷ bytes) nonce key

abbrev pub first_job : Task → Job
first_job task = record {
  number = task.job;
  input = first_input task.spec.discard task.spec.nonce task.spec.key task.spec.secret;
}

-- how many jobs it asks for next
abbrev pub asks_at : Stage → ℕ
asks_at First = 1
asks_at stage = 0

abbrev pub asks_of : Task → ℕ
asks_of task = asks_at task.stage
