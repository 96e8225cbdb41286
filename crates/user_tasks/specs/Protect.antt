-- A protect as a task over its user's share of the devices: the facts that each stage rests on.
use Rattle.std.specs.Prelude.{◌≡◌, ◌≢◌, ℕ, ◌+◌, ◌*◌, List, [], ◌∷◌, ◌++◌, Option, Some, None}
use Rattle.tree_model.specs.declared.places.Class.TheVariants.{Ce as ForCe}
use Rattle.tree_model.specs.declared.places.Place.{Place}
use Rattle.tree_model.specs.declared.places.Place.TheVariants.{Ce as CePlace}
use Rattle.tree_model.specs.declared.places.Slot.{Slot}
use Rattle.tree_model.specs.declared.places.Slot.TheVariants.{Current}
use Rattle.journal_model.specs.declared.commands.Command.TheVariants.{Protect as ProtectCommand}
use Rattle.journal_model.specs.declared.entries.Birth.{Birth}
use Rattle.journal_model.specs.declared.entries.Change.{Change}
use Rattle.journal_model.specs.declared.entries.Change.TheVariants.{Add as AddChange}
use Rattle.journal_model.specs.Machine.{Running as Began}
use Rattle.user_world.specs.declared.changes.LocalChange.{LocalChange}
use Rattle.user_world.specs.declared.changes.LocalChange.TheVariants.{Added}
use Rattle.user_world.specs.Facts.{Logged, Durable}
use Rattle.task_turns.specs.declared.calls.Answer.{Answer}
use Rattle.task_turns.specs.declared.calls.Answer.TheVariants.{Done}
use Rattle.task_turns.specs.Shares.{ShareFact, Own, Drawn, Gave, NextSlot, Opens}
use Rattle.task_turns.specs.Turns.{Rest}
use Rattle.store_task.specs.declared.stages.Progress.{Progress}
use Rattle.store_task.specs.declared.stages.Progress.TheVariants.{Stored}
use Rattle.store_task.specs.declared.stages.Stage.TheVariants.{First}
use Rattle.store_task.specs.Task.{Task, IsTask, IsAnswer, after as store_after, with_key, progress_of, makes_of}
use Rattle.store_task.specs.Task.{draws_of}
use Rattle.store_task.specs.Task.{asks_of as store_asks}
use Rattle.open_task.specs.Task.{Opening, IsAnswer as OpenAnswer, key_in, slot_at_hand, after as open_after}
use Rattle.open_task.specs.Task.{facts_of as open_facts, left_of as open_left, asks_of as open_asks}
use Rattle.user_tasks.specs.declared.protects.ProtectStage.{ProtectStage}
use Rattle.user_tasks.specs.declared.protects.ProtectStage.TheVariants.{Opening as IsOpening, Clearing, Storing, Added}
use Rattle.user_tasks.specs.declared.protects.ProtectStage.TheVariants.{Ended}
use Rattle.user_tasks.specs.Stores.{Frame, turns_of, rest_in}

pub record Protecting : Type 0 where
  -- the command's boot and index
  pub made : Birth
  -- the task that opens the key, and the one that stores it under the fresh secret
  pub opening : Opening
  pub store : Task
  pub stage : ProtectStage

abbrev pub slot_at : Place → Slot
slot_at (CePlace user slot) = slot
slot_at place = Current

-- whose it is, the slot that the key is stored in, and the secret
abbrev pub user_of : Protecting → ℕ
user_of protect = protect.opening.user

abbrev pub slot_of : Protecting → Slot
slot_of protect = slot_at protect.store.spec.target

abbrev pub fresh_of : Protecting → List ℕ
fresh_of protect = protect.store.spec.secret

-- the key's directory is stored once the key was opened
abbrev pub IsStage : Protecting → ProtectStage → Type 0
IsStage protect IsOpening = (protect.store.stage ≡ First) × (key_in protect.opening.stage ≡ None)
IsStage protect Clearing = protect.store.stage ≡ First
IsStage protect Storing = progress_of protect.store.stage ≢ Stored
IsStage protect stage = Unit {0}

pub record IsProtecting (protect : Protecting) : Type 0 where
  pub whole : IsTask protect.store
  pub placed : protect.store.spec.target ≡ CePlace (user_of protect) (slot_of protect)
  pub tagged : protect.store.spec.tag ≡ record { user = user_of protect; class = ForCe }
  pub stage : IsStage protect protect.stage

-- the change that it makes
abbrev pub change_by : Protecting → LocalChange
change_by protect = Added (slot_of protect) (fresh_of protect)

-- what the machine has of its command, and the changes that it made so far
pub record IsProtect (user : ℕ) (given fresh : List ℕ) (made : Birth) (so_far : List Change) (boot : ℕ)
    (began : Began) : Type 0 where
  pub command : began.command ≡ ProtectCommand user given fresh
  pub made_by : made ≡ record { boot = boot; index = began.index }
  pub changes : began.changes ≡ so_far

abbrev pub serves_with : Protecting → List Change → ℕ → Began → Type 0
serves_with protect changes =
    IsProtect (user_of protect) protect.opening.secret (fresh_of protect) protect.made changes

-- from its beginning on it rests on its slot, on the bytes that were made for it, and on the secret that it gave
abbrev pub begun_facts : Protecting → List ShareFact
begun_facts protect = NextSlot (slot_of protect)
    ∷ Drawn protect.store.spec.nonce protect.store.spec.discard (user_of protect) protect.made
    ∷ Gave (user_of protect) protect.opening.secret ∷ []

-- and then on the key that was opened
abbrev pub opened_facts : Protecting → List ShareFact
opened_facts protect =
    Opens protect.opening.secret (slot_at_hand protect.opening.left) protect.store.spec.key ∷ begun_facts protect

-- while the directory is stored, a sync and the reply are still to come
abbrev pub store_frame : Protecting → Frame
store_frame protect = record {
  user = user_of protect;
  base = opened_facts protect;
  current = None;
  before = [];
  serves = serves_with protect [];
  turns = 2;
  makes = 0;
  draws = 0;
}

abbrev pub rest_with : Protecting → List ShareFact → List Change → ℕ → Rest
rest_with protect facts changes left = record {
  user = user_of protect;
  facts = facts;
  held = [];
  serves = serves_with protect changes;
  left = left;
  makes = 0;
  draws = 0;
}

-- before its directory is begun
abbrev pub rest_before : Protecting → List ShareFact → ℕ → Rest
rest_before protect facts left = record (rest_with protect facts [] (left + (turns_of protect.store + 2))) {
  makes = makes_of protect.store;
  draws = draws_of protect.store;
}

-- once its directory is at its place
abbrev pub rest_added : Protecting → List ShareFact → ℕ → Rest
rest_added protect facts left = rest_with protect (Own (Logged (change_by protect)) ∷ facts)
    (AddChange (user_of protect) (slot_of protect) (fresh_of protect) ∷ []) left

abbrev pub rest_at : ProtectStage → Protecting → Rest
rest_at IsOpening protect =
    rest_before protect (begun_facts protect ++ open_facts protect.opening) (open_left protect.opening)
rest_at Clearing protect = rest_before protect (opened_facts protect) 0
rest_at Storing protect = rest_in (store_frame protect) protect.store
rest_at Added protect = rest_added protect [] 2
rest_at Ended protect = rest_added protect (Own Durable ∷ []) 1

abbrev pub protect_rest : Protecting → Rest
protect_rest protect = record (rest_at protect.stage protect) { user = user_of protect }

-- with a key it goes on to store it
abbrev pub with_opened : Option (List ℕ) → Protecting → Protecting
with_opened None protect = protect
with_opened (Some key) protect = record protect { store = with_key protect.store key; stage = Clearing }

abbrev pub after_opening : Protecting → Answer → Protecting
after_opening protect answer =
    let opening = open_after protect.opening answer in
    with_opened (key_in opening.stage) (record protect { opening = opening })

abbrev pub after_store : Progress → ProtectStage
after_store Stored = Added
after_store progress = Storing

abbrev pub after_storing : Protecting → Answer → Protecting
after_storing protect answer = let store = store_after protect.store answer in
    record protect { store = store; stage = after_store (progress_of store.stage) }

-- the temporary directory is gone, or the first job was done
abbrev pub after_clearing : Protecting → Answer → Protecting
after_clearing protect Done = protect
after_clearing protect answer = after_storing protect answer

abbrev pub after_at : ProtectStage → Protecting → Answer → Protecting
after_at IsOpening protect answer = after_opening protect answer
after_at Clearing protect answer = after_clearing protect answer
after_at Storing protect answer = after_storing protect answer
after_at Added protect answer = record protect { stage = Ended }
after_at Ended protect answer = protect

abbrev pub after : Protecting → Answer → Protecting
after protect answer = after_at protect.stage protect answer

abbrev pub hears_clearing : Task → Answer → Type 0
hears_clearing store Done = Unit {0}
hears_clearing store answer = IsAnswer store answer

-- the answers that it may hear
abbrev pub hears_at : ProtectStage → Protecting → Answer → Type 0
hears_at IsOpening protect answer = OpenAnswer protect.opening answer
hears_at Clearing protect answer = hears_clearing protect.store answer
hears_at Storing protect answer = IsAnswer protect.store answer
hears_at Added protect answer = answer ≡ Done
hears_at Ended protect answer = answer ≡ Done

abbrev pub hears : Protecting → Answer → Type 0
hears protect answer = hears_at protect.stage protect answer

-- how many jobs it asks for at most before its next call or reply: the task that stores the key asks for one in the
-- turn in which a job opened the key
abbrev pub asks_at : ProtectStage → Protecting → ℕ
asks_at IsOpening protect = 2 * open_asks protect.opening
asks_at Clearing protect = store_asks protect.store
asks_at Storing protect = store_asks protect.store
asks_at stage protect = 0

abbrev pub asks_of : Protecting → ℕ
asks_of protect = asks_at protect.stage protect
