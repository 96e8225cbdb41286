-- A task that opens a user's credential key, as data: the facts that it rests on, and what it is after an answer.
use Rattle.std.specs.Prelude.{◌≡◌, ◌≢◌, ℕ, ◌+◌, ◌*◌, List, [], ◌∷◌, length, Option, Some, None}
use Rattle.tree_model.specs.declared.places.Slot.{Slot}
use Rattle.tree_model.specs.declared.places.Slot.TheVariants.{Current}
use Rattle.tree_model.specs.declared.sites.Site.TheVariants.{Ce}
use Rattle.tree_model.specs.Dir.{Files}
use Rattle.journal_model.specs.Hashes.{app_id_of}
use Rattle.step_core.specs.declared.jobs.Job.{Job}
use Rattle.step_core.specs.declared.jobs.JobInput.{JobInput}
use Rattle.step_core.specs.declared.jobs.JobInput.TheVariants.{AppId, Unseal}
use Rattle.step_core.specs.declared.jobs.JobOutput.{JobOutput}
use Rattle.step_core.specs.declared.jobs.JobOutput.TheVariants.{AppId as IsAppId, Sealed as IsSealed}
use Rattle.step_core.specs.declared.jobs.JobOutput.TheVariants.{Opened as IsOpened}
use Rattle.user_world.specs.Facts.{HereAt}
use Rattle.key_directory.specs.Opened.{FitsFiles, key_in_answer, sealed_at, discard_at}
use Rattle.task_turns.specs.declared.calls.Answer.{Answer}
use Rattle.task_turns.specs.declared.calls.Answer.TheVariants.{Directory, Decrypted, Output}
use Rattle.task_turns.specs.Shares.{ShareFact, Own, Same, LeftToTry, Opens}
use Rattle.open_task.specs.declared.stages.Stage.{Stage}
use Rattle.open_task.specs.declared.stages.Stage.TheVariants.{Reading, Read, Tied, Opened}

pub record Opening : Type 0 where
  pub user : ℕ
  pub secret : List ℕ
  -- the number of its jobs
  pub job : ℕ
  -- the slots that are left to try, in their order; the first is the one at hand
  pub left : List Slot
  pub stage : Stage

-- a directory that was read is of the slot at hand, and may open with the secret
abbrev pub IsStage : List ℕ → List Slot → Stage → Type 0
IsStage secret left Reading = Unit {0}
IsStage secret left (Read files) = (left ≢ []) × FitsFiles files secret
IsStage secret left (Tied files app_id) = (left ≢ []) × FitsFiles files secret × (secret ≡ [])
IsStage secret left (Opened key) = Unit {0}

abbrev pub IsOpening : Opening → Type 0
IsOpening task = IsStage task.secret task.left task.stage

-- the directory stands in the slot at hand
abbrev pub at_hand : List Slot → Files → List ShareFact → List ShareFact
at_hand [] files facts = facts
at_hand (slot ∷ slots) files facts = Own (HereAt (Ce slot) (Some files)) ∷ facts

-- that slot; of no slots, the current one
abbrev pub slot_at_hand : List Slot → Slot
slot_at_hand [] = Current
slot_at_hand (slot ∷ slots) = slot

-- the facts that a task rests on between two turns
abbrev pub facts_at : List ℕ → List Slot → Stage → List ShareFact
facts_at secret left Reading = LeftToTry secret left ∷ []
facts_at secret left (Read files) = LeftToTry secret left ∷ at_hand left files []
facts_at secret left (Tied files app_id) =
    LeftToTry secret left ∷ at_hand left files (Same app_id (app_id_of (discard_at files) []) ∷ [])
facts_at secret left (Opened key) = Opens secret (slot_at_hand left) key ∷ []

abbrev pub facts_of : Opening → List ShareFact
facts_of task = facts_at task.secret task.left task.stage

-- the slots behind the one at hand
abbrev pub older : List Slot → List Slot
older [] = []
older (slot ∷ slots) = slots

-- how many turns it has left at most: three for each slot
abbrev pub left_at : List Slot → Stage → ℕ
left_at left Reading = 3 * length left
left_at left (Read files) = 3 * length (older left) + 2
left_at left (Tied files app_id) = 3 * length (older left) + 1
left_at left (Opened key) = 0

abbrev pub left_of : Opening → ℕ
left_of task = left_at task.left task.stage

-- the key of the first slot that opens
abbrev pub key_in : Stage → Option (List ℕ)
key_in (Opened key) = Some key
key_in stage = None

-- it opened a slot, or no slot is left
abbrev pub HasEnded : Opening → Type 0
HasEnded task = left_of task ≡ 0

-- the stage with a key, or for the next slot
abbrev pub opened : Option (List ℕ) → Stage
opened None = Reading
opened (Some key) = Opened key

abbrev pub after_job : Files → JobOutput → Stage
after_job files (IsAppId app_id) = Tied files app_id
after_job files (IsOpened key) = opened key
after_job files (IsSealed sealed) = Read files

-- what answers nothing changes nothing
abbrev pub stage_after : Stage → Answer → Stage
stage_after Reading (Directory files) = Read files
stage_after (Read files) (Output output) = after_job files output
stage_after (Tied files app_id) (Decrypted answer) = opened (key_in_answer answer)
stage_after stage answer = stage

-- the slots that are left at a stage: where the task reads again, it goes on with the next one
abbrev pub left_for : List Slot → Stage → List Slot
left_for left Reading = older left
left_for left stage = left

abbrev pub with_stage : Opening → Stage → Opening
with_stage task stage = record task { left = left_for task.left stage; stage = stage }

-- how many slots are passed over on the way to a stage
abbrev pub skips : Stage → ℕ
skips Reading = 1
skips stage = 0

abbrev pub after : Opening → Answer → Opening
after task answer = with_stage task (stage_after task.stage answer)

-- the output that a directory's kind wants
abbrev pub IsOutput : List ℕ → JobOutput → Type 0
IsOutput [] (IsAppId app_id) = Unit {0}
IsOutput (byte ∷ bytes) (IsOpened key) = Unit {0}
IsOutput secret output = ⊥

abbrev pub AnswersReading : List ℕ → List Slot → Answer → Type 0
AnswersReading secret left (Directory files) = (left ≢ []) × FitsFiles files secret
AnswersReading secret left answer = ⊥

abbrev pub AnswersRead : List ℕ → Answer → Type 0
AnswersRead secret (Output output) = IsOutput secret output
AnswersRead secret answer = ⊥

abbrev pub AnswersTied : Answer → Type 0
AnswersTied (Decrypted answer) = Unit {0}
AnswersTied answer = ⊥

abbrev pub AnswersStage : List ℕ → List Slot → Stage → Answer → Type 0
AnswersStage secret left Reading answer = AnswersReading secret left answer
AnswersStage secret left (Read files) answer = AnswersRead secret answer
AnswersStage secret left (Tied files app_id) answer = AnswersTied answer
AnswersStage secret left (Opened key) answer = ⊥

-- the answer is one to what the task does next
abbrev pub IsAnswer : Opening → Answer → Type 0
IsAnswer task answer = AnswersStage task.secret task.left task.stage answer

-- the job that a directory wants which was read
abbrev pub input_of : List ℕ → Files → JobInput
input_of [] files = AppId (discard_at files) []
input_of (byte ∷ bytes) files = Unseal (discard_at files) (byte ∷ bytes) (sealed_at files)

abbrev pub job_of : Opening → Files → Job
job_of task files = record { number = task.job; input = input_of task.secret files }

-- how many jobs it asks for next
abbrev pub asks_at : Stage → ℕ
asks_at (Read files) = 1
asks_at stage = 0

abbrev pub asks_of : Opening → ℕ
asks_of task = asks_at task.stage
