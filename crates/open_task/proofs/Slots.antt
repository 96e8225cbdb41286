-- The slots that are left to try, as what is left of a list from an index on, and what an answer leaves of a task.
use Rattle.std.proofs.Common.{◌≡◌, ◌≢◌, ℕ, zero, suc, ◌+◌, ◌<◌, List, [], ◌∷◌, length, drop, refl, sym, ap, ◌∙◌, subst}
use Rattle.std.proofs.Common.{◌≤◌, add-one, arith}
use Rattle.std.specs.Prelude.{Option, Some, None}
use Rattle.std.specs.List.{slice_get}
use Rattle.std.specs.Option.{unwrap_or}
use Rattle.tree_model.specs.declared.places.Slot.{Slot}
use Rattle.tree_model.specs.declared.places.Slot.TheVariants.{Current}
use Rattle.tree_model.specs.Dir.{Files}
use Rattle.step_core.specs.declared.jobs.JobOutput.{JobOutput}
use Rattle.step_core.specs.declared.jobs.JobOutput.TheVariants.{AppId as IsAppId, Sealed as IsSealed}
use Rattle.step_core.specs.declared.jobs.JobOutput.TheVariants.{Opened as IsOpened}
use Rattle.key_directory.specs.Opened.{FitsFiles, key_in_answer}
use Rattle.task_turns.specs.declared.calls.Answer.{Answer}
use Rattle.task_turns.specs.declared.calls.Answer.TheVariants.{Directory, Decrypted, Output}
use Rattle.open_task.specs.declared.stages.Stage.{Stage}
use Rattle.open_task.specs.declared.stages.Stage.TheVariants.{Reading, Read, Tied, Opened}
use Rattle.open_task.specs.Task.{Opening, IsStage, IsOpening, IsOutput, AnswersStage, older, opened, after_job, skips}
use Rattle.open_task.specs.Task.{IsAnswer, after, stage_after, with_stage, slot_at_hand}

-- the element at an index is the first of what is left from there on
pub first-left : (slots : List Slot) (at : ℕ) (slot : Slot) → slice_get slots at ≡ Some slot
    → drop at slots ≡ slot ∷ older (drop at slots)
first-left [] zero slot is = cc
first-left [] (suc at) slot is = cc
first-left (first ∷ slots) zero slot is = let same : first ≡ slot = cc in ap (λ s. s ∷ slots) same
first-left (first ∷ slots) (suc at) slot is = first-left slots at slot is

pub none-left : (slots : List Slot) (at : ℕ) → slice_get slots at ≡ None → drop at slots ≡ []
none-left [] zero is = refl
none-left [] (suc at) is = refl
none-left (first ∷ slots) zero is = cc
none-left (first ∷ slots) (suc at) is = none-left slots at is

pub slot-left : (slots : List Slot) (at : ℕ) → unwrap_or (slice_get slots at) Current ≡ slot_at_hand (drop at slots)
slot-left [] zero = refl
slot-left [] (suc at) = refl
slot-left (first ∷ slots) zero = refl
slot-left (first ∷ slots) (suc at) = slot-left slots at

-- what is left from the next index on
pub older-left : (slots : List Slot) (at : ℕ) → older (drop at slots) ≡ drop (suc at) slots
older-left [] zero = refl
older-left [] (suc at) = refl
older-left (first ∷ slots) zero = refl
older-left (first ∷ slots) (suc at) = older-left slots at

same-index : (slots : List Slot) (at : ℕ) → drop (at + 0) slots ≡ drop at slots
same-index slots at = ap (λ next. drop next slots) (omega arith)

-- where something is left, the index is one of the list
pub index-within : (slots : List Slot) (at : ℕ) → drop at slots ≢ [] → at < length slots
index-within [] zero some = absurd (some refl)
index-within [] (suc at) some = absurd (some refl)
index-within (first ∷ slots) zero some = omega arith
index-within (first ∷ slots) (suc at) some = let less = index-within slots at some in omega arith

-- the task at a stage, once so many slots were passed over
pub skipped : (task : Opening) (slots : List Slot) (at : ℕ) (stage : Stage) → task.left ≡ drop at slots
    → record task { left = drop (at + skips stage) slots; stage = stage } ≡ with_stage task stage
skipped task slots at Reading is =
    ap (λ left. record task { left = left; stage = Reading })
    (ap (λ next. drop next slots) (add-one at) ∙ sym (older-left slots at) ∙ ap older (sym is))
skipped task slots at (Read files) is =
    ap (λ left. record task { left = left; stage = Read files }) (same-index slots at ∙ sym is)
skipped task slots at (Tied files app_id) is =
    ap (λ left. record task { left = left; stage = Tied files app_id }) (same-index slots at ∙ sym is)
skipped task slots at (Opened key) is =
    ap (λ left. record task { left = left; stage = Opened key }) (same-index slots at ∙ sym is)

-- an answer to what a task does next leaves a task
module _ (task : Opening) where
  opens-well : (key : Option (List ℕ)) → IsOpening (with_stage task (opened key))
  opens-well None = tt
  opens-well (Some key) = tt

  worked : (files : Files) (secret : List ℕ) (left : List Slot) (output : JobOutput) → left ≢ []
      → FitsFiles files secret → IsOutput secret output
      → IsOpening (with_stage (record task { secret = secret; left = left }) (after_job files output))
  worked files [] left (IsAppId app_id) some fits is = (some, fits, refl)
  worked files [] left (IsOpened key) some fits is = absurd is
  worked files [] left (IsSealed sealed) some fits is = absurd is
  worked files (byte ∷ bytes) left (IsAppId app_id) some fits is = absurd is
  worked files (byte ∷ bytes) left (IsOpened None) some fits is = tt
  worked files (byte ∷ bytes) left (IsOpened (Some key)) some fits is = tt
  worked files (byte ∷ bytes) left (IsSealed sealed) some fits is = absurd is

pub goes-on : (task : Opening) (stage : Stage) (answer : Answer) → IsStage task.secret task.left stage
    → AnswersStage task.secret task.left stage answer → IsOpening (with_stage task (stage_after stage answer))
goes-on task Reading (Directory files) is answers = answers
goes-on task Reading answer is answers = absurd answers
goes-on task (Read files) (Output output) is answers =
    worked task files task.secret task.left output is.0 is.1 answers
goes-on task (Read files) answer is answers = absurd answers
goes-on task (Tied files app_id) (Decrypted told) is answers = opens-well task (key_in_answer told)
goes-on task (Tied files app_id) answer is answers = absurd answers
goes-on task (Opened key) answer is answers = absurd answers

-- it goes on with a next slot only where one is at hand
pub some-left : (secret : List ℕ) (left : List Slot) (stage : Stage) (answer : Answer) → IsStage secret left stage
    → AnswersStage secret left stage answer → stage_after stage answer ≡ Reading → left ≢ []
some-left secret left Reading (Directory files) is answers reads = answers.0
some-left secret left Reading answer is answers reads = absurd answers
some-left secret left (Read files) answer is answers reads = is.0
some-left secret left (Tied files app_id) answer is answers reads = is.0
some-left secret left (Opened key) answer is answers reads = absurd answers

-- so the index stays in its range
pub index-fits : (slots : List Slot) (at : ℕ) (stage : Stage) (most : ℕ) → at ≤ most → length slots ≤ most
    → (stage ≡ Reading → drop at slots ≢ []) → at + skips stage ≤ most
index-fits slots at Reading most within few some = let less = index-within slots at (some refl) in omega arith
index-fits slots at (Read files) most within few some = omega arith
index-fits slots at (Tied files app_id) most within few some = omega arith
index-fits slots at (Opened key) most within few some = omega arith

-- the task once it heard an answer
module _ (task : Opening) (slots : List Slot) (at skip : ℕ) (stage : Stage) (answer : Answer)
    (left : task.left ≡ drop at slots) (becomes : stage ≡ stage_after task.stage answer)
    (over : skip ≡ skips stage) where
  pub heard-after : record task { left = drop (at + skip) slots; stage = stage } ≡ after task answer
  heard-after =
      ap (λ n. record task { left = drop (at + n) slots; stage = stage }) over
      ∙ skipped task slots at stage left ∙ ap (with_stage task) becomes

  pub heard-well : IsOpening task → IsAnswer task answer
      → IsOpening (record task { left = drop (at + skip) slots; stage = stage })
  heard-well is answers = subst IsOpening (sym heard-after) (goes-on task task.stage answer is answers)
