-- A create as a task over its user's share of the devices: the facts that each stage rests on.
use Rattle.std.specs.Prelude.{◌≡◌, ◌≢◌, true, ℕ, ◌+◌, List, [], ◌∷◌, ◌++◌, Option, Some, None}
use Rattle.tree_model.specs.declared.blobs.Blob.{Blob}
use Rattle.tree_model.specs.declared.places.Class.{Class}
use Rattle.tree_model.specs.declared.places.Class.TheVariants.{De as ForDe, Ce as ForCe}
use Rattle.tree_model.specs.declared.places.Place.{Place}
use Rattle.tree_model.specs.declared.places.Place.TheVariants.{De as DePlace, Ce as CePlace}
use Rattle.tree_model.specs.declared.places.Slot.TheVariants.{Current}
use Rattle.tree_model.specs.Dir.{Files}
use Rattle.journal_model.specs.declared.commands.Command.TheVariants.{Create as CreateCommand}
use Rattle.journal_model.specs.declared.entries.Birth.{Birth}
use Rattle.journal_model.specs.declared.entries.Change.{Change}
use Rattle.journal_model.specs.declared.entries.Change.TheVariants.{Create as CreateChange}
use Rattle.journal_model.specs.Machine.{Running as Began}
use Rattle.journal_model.specs.Users.{Record, new_secrets}
use Rattle.user_world.specs.declared.changes.LocalChange.TheVariants.{Born}
use Rattle.user_world.specs.Facts.{Knows, Logged, Durable}
use Rattle.task_turns.specs.declared.calls.Answer.{Answer}
use Rattle.task_turns.specs.declared.calls.Answer.TheVariants.{Done, Installed}
use Rattle.task_turns.specs.Shares.{ShareFact, Own, Same, Given, HasKey}
use Rattle.task_turns.specs.Turns.{Rest, Tasks}
use Rattle.store_task.specs.declared.turns.StoreSpec.{StoreSpec}
use Rattle.store_task.specs.declared.stages.Progress.{Progress}
use Rattle.store_task.specs.declared.stages.Progress.TheVariants.{Stored}
use Rattle.store_task.specs.declared.stages.Stage.{Stage as StoreStage}
use Rattle.store_task.specs.declared.stages.Stage.TheVariants.{First, Tied, Generated, Storing}
use Rattle.store_task.specs.Task.{Task, IsTask, IsAnswer, after as store_after, held_by, held_of}
use Rattle.store_task.specs.Task.{makes_of, draws_of, progress_of, all_files, sealing, asks_of as store_asks_of}
use Rattle.user_tasks.specs.declared.creates.Stage.{Stage}
use Rattle.user_tasks.specs.declared.creates.Stage.TheVariants.{Clearing, StoringCe, StoringDe, Created}
use Rattle.user_tasks.specs.declared.creates.Stage.TheVariants.{InstallingDe, InstallingCe, Ended}
use Rattle.user_tasks.specs.Stores.{Frame, turns_of, rest_in}

pub record Creating : Type 0 where
  pub user : ℕ
  pub birth : Birth
  -- the tasks that store the credential key's directory and the device key's
  pub ce : Task
  pub de : Task
  pub stage : Stage

-- the task stores the user's key of this class at this place, under no secret
pub record Stores (user : ℕ) (class : Class) (target : Place) (task : Task) : Type 0 where
  pub whole : IsTask task
  pub placed : task.spec.target ≡ target
  pub tagged : task.spec.tag ≡ record { user = user; class = class }
  pub bare : task.spec.secret ≡ []

-- the credential key's directory is stored first
abbrev pub IsStage : Task → Task → Stage → Type 0
IsStage ce de Clearing = (ce.stage ≡ First) × (de.stage ≡ First)
IsStage ce de StoringCe = (progress_of ce.stage ≢ Stored) × (de.stage ≡ First)
IsStage ce de StoringDe = (progress_of ce.stage ≡ Stored) × (progress_of de.stage ≢ Stored)
IsStage ce de Created = Unit {0}
IsStage ce de InstallingDe = Unit {0}
IsStage ce de InstallingCe = Unit {0}
IsStage ce de Ended = Unit {0}

pub record IsCreating (create : Creating) : Type 0 where
  pub ce : Stores create.user ForCe (CePlace create.user Current) create.ce
  pub de : Stores create.user ForDe (DePlace create.user) create.de
  pub stage : IsStage create.ce create.de create.stage

-- the directory that was stored, and how its key is sealed
abbrev pub stored_at : StoreSpec → StoreStage → Option Files
stored_at spec First = None
stored_at spec (Tied app_id) = None
stored_at spec (Generated app_id blob) = None
stored_at spec (Storing blob sealed progress) = Some (all_files spec.discard blob sealed)

abbrev pub sealed_at : StoreSpec → StoreStage → ShareFact
sealed_at spec First = Same [] []
sealed_at spec (Tied app_id) = Same [] []
sealed_at spec (Generated app_id blob) = Same [] []
sealed_at spec (Storing blob sealed progress) = sealing spec blob sealed

-- the user isn't there yet, and both keys are the right ones
abbrev pub on_its_way : Creating → List ShareFact → List ShareFact
on_its_way create facts =
    Own (Knows None) ∷ Given create.ce.spec.key ForCe create.user create.birth
    ∷ Given create.de.spec.key ForDe create.user create.birth ∷ facts

-- a new user's record
abbrev pub new_record : Birth → Record
new_record birth = record { birth = birth; secrets = new_secrets }

-- the user is there, and both keys are the right ones
abbrev pub with_user : Creating → List ShareFact → List ShareFact
with_user create facts =
    Own (Logged (Born create.birth)) ∷ Own (Knows (Some (new_record create.birth)))
    ∷ Given create.de.spec.key ForDe create.user create.birth
    ∷ Given create.ce.spec.key ForCe create.user create.birth ∷ facts

-- the changes that it made so far, and what the machine has of its command
abbrev pub changes_at : Stage → ℕ → Birth → List Change
changes_at Created user birth = CreateChange user birth ∷ []
changes_at InstallingDe user birth = CreateChange user birth ∷ []
changes_at InstallingCe user birth = CreateChange user birth ∷ []
changes_at Ended user birth = CreateChange user birth ∷ []
changes_at stage user birth = []

pub record IsCreate (user : ℕ) (birth : Birth) (stage : Stage) (boot : ℕ) (began : Began) : Type 0 where
  pub command : began.command ≡ CreateCommand user
  pub born : birth ≡ record { boot = boot; index = began.index }
  pub changes : began.changes ≡ changes_at stage user birth

-- while the credential key's directory is stored, the other is still to come
abbrev pub ce_frame : Creating → Frame
ce_frame create = record {
  user = create.user;
  base = on_its_way create [];
  current = Some None;
  before = [];
  serves = IsCreate create.user create.birth StoringCe;
  turns = turns_of create.de + 4;
  makes = makes_of create.de;
  draws = draws_of create.de;
}

-- and then it stands, with its blob held
abbrev pub de_frame : Creating → Frame
de_frame create = record {
  user = create.user;
  base = on_its_way create (sealed_at create.ce.spec create.ce.stage ∷ []);
  current = Some (stored_at create.ce.spec create.ce.stage);
  before = held_of create.ce;
  serves = IsCreate create.user create.birth StoringDe;
  turns = 4;
  makes = 0;
  draws = 0;
}

-- where it rests once the user is there: no blob is held, since the user's directories name both
abbrev pub rest_with : Stage → Creating → List ShareFact → ℕ → Rest
rest_with stage create facts left = record {
  user = create.user;
  facts = facts;
  held = [];
  serves = IsCreate create.user create.birth stage;
  left = left;
  makes = 0;
  draws = 0;
}

-- where a create rests
abbrev pub rest_at : Stage → Creating → Rest
rest_at Clearing create = record {
  user = create.user;
  facts = on_its_way create [];
  held = [];
  serves = IsCreate create.user create.birth Clearing;
  left = turns_of create.ce + (turns_of create.de + 4);
  makes = makes_of create.ce + makes_of create.de;
  draws = draws_of create.ce + draws_of create.de;
}
rest_at StoringCe create = rest_in (ce_frame create) create.ce
rest_at StoringDe create = rest_in (de_frame create) create.de
rest_at Created create = rest_with Created create (with_user create []) 4
rest_at InstallingDe create = rest_with InstallingDe create (with_user create (Own Durable ∷ [])) 3
rest_at InstallingCe create =
    rest_with InstallingCe create (with_user create (Own Durable ∷ HasKey ForDe true ∷ [])) 2
rest_at Ended create = rest_with Ended create
    (Own (Logged (Born create.birth)) ∷ Own Durable ∷ HasKey ForDe true ∷ HasKey ForCe true ∷ []) 1

abbrev pub create_rest : Creating → Rest
create_rest create = record (rest_at create.stage create) { user = create.user }

-- the blobs of a list, in order
abbrev pub all_held : List (Option Blob) → List Blob
all_held [] = []
all_held (found ∷ rest) = held_by found ++ all_held rest

abbrev pub held_in : Creating → List Blob
held_in create = (create_rest create).held

-- once its directory is at its place, a store task makes room for the next stage
abbrev pub after_ce : Progress → Stage
after_ce Stored = StoringDe
after_ce progress = StoringCe

abbrev pub after_de : Progress → Stage
after_de Stored = Created
after_de progress = StoringDe

abbrev pub with_ce : Creating → Task → Creating
with_ce create ce = record create { ce = ce; stage = after_ce (progress_of ce.stage) }

abbrev pub with_de : Creating → Task → Creating
with_de create de = record create { de = de; stage = after_de (progress_of de.stage) }

-- what was in the way is gone, or the first job was done
abbrev pub after_clearing : Creating → Answer → Creating
after_clearing create Done = create
after_clearing create answer = with_ce create (store_after create.ce answer)

abbrev pub after_at : Stage → Creating → Answer → Creating
after_at Clearing create answer = after_clearing create answer
after_at StoringCe create answer = with_ce create (store_after create.ce answer)
after_at StoringDe create answer = with_de create (store_after create.de answer)
after_at Created create answer = record create { stage = InstallingDe }
after_at InstallingDe create answer = record create { stage = InstallingCe }
after_at InstallingCe create answer = record create { stage = Ended }
after_at Ended create answer = create

abbrev pub after : Creating → Answer → Creating
after create answer = after_at create.stage create answer

abbrev pub hears_clearing : Task → Answer → Type 0
hears_clearing ce Done = Unit {0}
hears_clearing ce answer = IsAnswer ce answer

-- the answers that it may hear
abbrev pub hears_at : Stage → Creating → Answer → Type 0
hears_at Clearing create answer = hears_clearing create.ce answer
hears_at StoringCe create answer = IsAnswer create.ce answer
hears_at StoringDe create answer = IsAnswer create.de answer
hears_at Created create answer = answer ≡ Done
hears_at InstallingDe create answer = answer ≡ Installed
hears_at InstallingCe create answer = answer ≡ Installed
hears_at Ended create answer = ⊥

abbrev pub hears : Creating → Answer → Type 0
hears create answer = hears_at create.stage create answer

-- how many jobs it asks for next
abbrev pub asks_at : Stage → Creating → ℕ
asks_at Clearing create = store_asks_of create.ce
asks_at StoringCe create = store_asks_of create.ce
asks_at StoringDe create = store_asks_of create.de
asks_at stage create = 0

abbrev pub asks_of : Creating → ℕ
asks_of create = asks_at create.stage create

abbrev pub creates : Tasks Creating
creates = record { rest_of = create_rest; hears = hears; after = after; asks = asks_of }
