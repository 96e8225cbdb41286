-- Plans of a create that are wrong, and that no create can show: each is refuted in a scene in which the create rests.
use Rattle.std.specs.Prelude.{◌≡◌, ◌≢◌, ℕ, false, List, [], length, Option, Some, None}
use Rattle.tree_model.specs.declared.blobs.Blob.{Blob}
use Rattle.tree_model.specs.declared.places.Class.{Class}
use Rattle.tree_model.specs.declared.places.Class.TheVariants.{De as ForDe, Ce as ForCe}
use Rattle.tree_model.specs.declared.places.Slot.TheVariants.{Current}
use Rattle.tree_model.specs.declared.sites.Site.{Site}
use Rattle.tree_model.specs.declared.sites.Site.TheVariants.{De, Ce, Temp}
use Rattle.tree_model.specs.declared.sites.LocalOp.TheVariants.{RenameDir}
use Rattle.seal_model.specs.Sealed.{sealed_text}
use Rattle.journal_model.specs.declared.commands.Reply.TheVariants.{Done}
use Rattle.journal_model.specs.declared.entries.Birth.{Birth}
use Rattle.journal_model.specs.Made.{key_of, nonce_of, discardable_of}
use Rattle.user_world.specs.declared.changes.LocalChange.TheVariants.{Born}
use Rattle.task_turns.specs.declared.calls.Call.TheVariants.{Op as OpCall, Add}
use Rattle.task_turns.specs.declared.next.Next.TheVariants.{Call as CallNext, Reply as ReplyNext}
use Rattle.store_task.specs.declared.turns.StoreSpec.{StoreSpec}
use Rattle.store_task.specs.declared.stages.Progress.{Progress}
use Rattle.store_task.specs.declared.stages.Progress.TheVariants.{Settled, Stored}
use Rattle.store_task.specs.declared.stages.Stage.TheVariants.{Storing}
use Rattle.store_task.specs.Task.{Task}
use Rattle.user_tasks.specs.declared.creates.Stage.{Stage}
use Rattle.user_tasks.specs.declared.creates.Stage.TheVariants.{StoringDe, Created, InstallingDe}
use Rattle.user_tasks.specs.Create.{Creating}
use Rattle.user_tasks.specs.Made.{target_of}
use Rattle.user_tasks.specs.declared.looks.Looks.{Looks}
use Rattle.user_tasks.specs.Tasks.{UserTurns}
use Rattle.user_tasks.specs.declared.tasks.UserTask.TheVariants.{Create as OfCreate}

-- whose create it is, and the blobs of the entries that it made
pub record Plan : Type 0 where
  pub seed : List ℕ
  pub user : ℕ
  pub birth : Birth
  pub ce_blob : Blob
  pub de_blob : Blob
  pub ce_long : length ce_blob ≡ 32
  pub de_long : length de_blob ≡ 32
  pub differ : de_blob ≢ ce_blob

-- what is stored of its keys
abbrev pub spec_of : Plan → Class → StoreSpec
spec_of plan class = record {
  target = target_of plan.user class;
  tag = record { user = plan.user; class = class };
  key = key_of plan.seed class plan.user plan.birth;
  secret = [];
  nonce = nonce_of plan.seed class plan.user plan.birth;
  discard = discardable_of plan.seed class plan.user plan.birth;
}

-- a key, sealed under an entry whose own key has no bytes
abbrev pub text_of : Plan → Class → List ℕ
text_of plan class = sealed_text [] (spec_of plan class).nonce (spec_of plan class).key

abbrev pub blob_of : Plan → Class → Blob
blob_of plan ForCe = plan.ce_blob
blob_of plan ForDe = plan.de_blob

abbrev pub task_at : Plan → Class → Progress → Task
task_at plan class progress = record {
  spec = spec_of plan class;
  job = 0;
  stage = Storing (Some (blob_of plan class)) (text_of plan class) progress;
}

-- the create once the credential key's directory is at its place, and the other is so far
abbrev pub create_at : Plan → Progress → Stage → Creating
create_at plan progress stage = record {
  user = plan.user;
  birth = plan.birth;
  ce = task_at plan ForCe Stored;
  de = task_at plan ForDe progress;
  stage = stage;
}

-- a turn that is told that this is in the way, and no more
abbrev pub finding : Option Site → Looks
finding in_the_way = record { in_the_way = in_the_way; durable = false; due = None }

-- the reply comes before the last sync
abbrev pub RepliesBeforeSync : Type 0
RepliesBeforeSync =
    (plan : Plan) → UserTurns (OfCreate (create_at plan Stored Created)) (finding (Some (Ce Current))) (ReplyNext Done)
    → ⊥

-- the device key's directory is left out
abbrev pub LeavesOutDevice : Type 0
LeavesOutDevice =
    (plan : Plan) → UserTurns (OfCreate (create_at plan Settled StoringDe)) (finding (Some Temp)) (ReplyNext Done) → ⊥

-- the rename that makes the user is not noted as a change
abbrev pub HidesChange : Type 0
HidesChange = (plan : Plan)
    → UserTurns (OfCreate (create_at plan Settled StoringDe)) (finding (Some Temp))
    (CallNext (OpCall plan.user (RenameDir Temp De) (Some plan.de_blob)) None)
    → ⊥

-- it doesn't tell the blob that the directory names
abbrev pub HidesBlob : Type 0
HidesBlob = (plan : Plan)
    → UserTurns (OfCreate (create_at plan Settled StoringDe)) (finding (Some Temp))
    (CallNext (OpCall plan.user (RenameDir Temp De) None) (Some (Born plan.birth)))
    → ⊥

-- it is on another user's places
abbrev pub TouchesOther : Type 0
TouchesOther = (plan : Plan) (other : ℕ) → other ≢ plan.user
    → UserTurns (OfCreate (create_at plan Settled StoringDe)) (finding (Some Temp))
    (CallNext (OpCall other (RenameDir Temp De) (Some plan.de_blob)) (Some (Born plan.birth)))
    → ⊥

-- the reply comes before the keys are installed
abbrev pub RepliesBeforeKeys : Type 0
RepliesBeforeKeys =
    (plan : Plan) → UserTurns (OfCreate (create_at plan Stored InstallingDe)) (finding (Some (Ce Current)))
    (ReplyNext Done) → ⊥

-- it installs a key that the user wasn't given
abbrev pub InstallsOther : Type 0
InstallsOther = (plan : Plan) (key : List ℕ) → key ≢ key_of plan.seed ForDe plan.user plan.birth
    → UserTurns (OfCreate (create_at plan Stored InstallingDe)) (finding (Some (Ce Current)))
    (CallNext (Add plan.user ForDe key) None)
    → ⊥
