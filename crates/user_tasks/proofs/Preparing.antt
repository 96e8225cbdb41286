-- What an answer leaves of the blobs that a store task holds and of the entries that it still makes.
use Rattle.std.proofs.Common.{◌≡◌, ◌≢◌, ℕ, ◌+◌, ◌≤◌, List, [], ◌∷◌, ◌++◌, refl, sym, ◌∙◌, arith}
use Rattle.std.specs.Prelude.{None}
use Rattle.tree_model.specs.declared.blobs.Blob.{Blob}
use Rattle.step_core.specs.declared.jobs.JobOutput.{JobOutput}
use Rattle.step_core.specs.declared.jobs.JobOutput.TheVariants.{AppId as IsAppId, Sealed as IsSealed, Opened}
use Rattle.task_turns.specs.declared.calls.Answer.TheVariants.{Done, Blob as IsBlob, Sealed, Output}
use Rattle.store_task.specs.declared.stages.Stage.{Stage}
use Rattle.store_task.specs.declared.stages.Stage.TheVariants.{First, Tied, Generated, Storing}
use Rattle.store_task.specs.declared.stages.Progress.{Progress}
use Rattle.store_task.specs.declared.stages.Progress.TheVariants.{Absent, Settled, Stored}
use Rattle.store_task.specs.Task.{AnswersStage, stage_after, held_at, draws_at, progress_of, temp_at}

-- an answer before the directory is begun: the blobs that are held then, and the entries that it made
pub record Prepares (discard : List ℕ) (stage then : Stage) (gains : List Blob) (draws : ℕ) : Type 0 where
  pub absent : progress_of stage ≡ Absent
  pub nothing : temp_at discard stage ≡ None
  pub then_absent : progress_of then ≡ Absent
  pub then_nothing : temp_at discard then ≡ None
  pub held : held_at then ≡ held_at stage ++ gains
  pub spent : draws_at then + draws ≤ draws_at stage

module _ (discard secret : List ℕ) where
  pub after-output : (stage : Stage) (output : JobOutput) → AnswersStage secret stage (Output output)
      → Prepares discard stage (stage_after stage (Output output)) [] 0
  after-output First (IsAppId app_id) answers = record {
    absent = refl;
    nothing = refl;
    then_absent = refl;
    then_nothing = refl;
    held = refl;
    spent = omega arith;
  }
  after-output First (IsSealed text) answers = record {
    absent = refl;
    nothing = refl;
    then_absent = refl;
    then_nothing = refl;
    held = refl;
    spent = omega arith;
  }
  after-output First (Opened key) answers = absurd answers
  after-output (Tied app_id) output answers = absurd answers
  after-output (Generated app_id blob) output answers = absurd answers
  after-output (Storing blob text progress) output answers = absurd answers

  pub after-blob : (stage : Stage) (blob : Blob) → AnswersStage secret stage (IsBlob blob)
      → Prepares discard stage (stage_after stage (IsBlob blob)) (blob ∷ []) 1
  after-blob First blob answers = absurd answers
  after-blob (Tied app_id) blob answers = record {
    absent = refl;
    nothing = refl;
    then_absent = refl;
    then_nothing = refl;
    held = refl;
    spent = omega arith;
  }
  after-blob (Generated app_id other) blob answers = absurd answers
  after-blob (Storing other text progress) blob answers = absurd answers

  pub after-sealed : (stage : Stage) (text : List ℕ) → AnswersStage secret stage (Sealed text)
      → Prepares discard stage (stage_after stage (Sealed text)) [] 0
  after-sealed First text answers = absurd answers
  after-sealed (Tied app_id) text answers = absurd answers
  after-sealed (Generated app_id blob) text answers = record {
    absent = refl;
    nothing = refl;
    then_absent = refl;
    then_nothing = refl;
    held = refl;
    spent = omega arith;
  }
  after-sealed (Storing blob other progress) text answers = absurd answers

  -- an operation or a sync makes no entry
  pub done-held : (stage : Stage) → AnswersStage secret stage Done → held_at (stage_after stage Done) ≡ held_at stage
  done-held First answers = absurd answers
  done-held (Tied app_id) answers = absurd answers
  done-held (Generated app_id blob) answers = absurd answers
  done-held (Storing blob text progress) answers = refl

  pub done-draws : (stage : Stage) → AnswersStage secret stage Done
      → draws_at (stage_after stage Done) ≡ draws_at stage
  done-draws First answers = absurd answers
  done-draws (Tied app_id) answers = absurd answers
  done-draws (Generated app_id blob) answers = absurd answers
  done-draws (Storing blob text progress) answers = refl

-- the progress is another one where it is known
pub absent-unsettled : (progress : Progress) → progress ≡ Absent → progress ≢ Settled
absent-unsettled progress is e = let same : Absent ≡ Settled = sym is ∙ e in cc

pub absent-goes_on : (progress : Progress) → progress ≡ Absent → progress ≢ Stored
absent-goes_on progress is e = let same : Absent ≡ Stored = sym is ∙ e in cc

pub settled-goes_on : (progress : Progress) → progress ≡ Settled → progress ≢ Stored
settled-goes_on progress is e = let same : Settled ≡ Stored = sym is ∙ e in cc
