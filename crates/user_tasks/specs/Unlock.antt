-- An unlock as a task over its user's share of the devices: what each stage rests on.
use Rattle.std.specs.Prelude.{◌≡◌, ℕ, ◌+◌, Bool, true, false, List, [], ◌∷◌, length, Option, Some, None}
use Rattle.tree_model.specs.declared.places.Class.TheVariants.{Ce as ForCe}
use Rattle.tree_model.specs.declared.places.Slot.{Slot}
use Rattle.tree_model.specs.declared.places.Slot.TheVariants.{Current}
use Rattle.journal_model.specs.declared.commands.Command.TheVariants.{Unlock as UnlockCommand}
use Rattle.journal_model.specs.Machine.{Running as Began}
use Rattle.user_world.specs.Facts.{Durable}
use Rattle.task_turns.specs.declared.calls.Answer.{Answer}
use Rattle.task_turns.specs.declared.calls.Answer.TheVariants.{Done, Installed}
use Rattle.task_turns.specs.declared.calls.Call.TheVariants.{Add}
use Rattle.task_turns.specs.declared.next.Next.{Next}
use Rattle.task_turns.specs.Shares.{ShareFact, Own, Gave, AllSlots, Slots, NewestUnder, MadeKey, HasKey}
use Rattle.task_turns.specs.Turns.{Rest}
use Rattle.open_task.specs.declared.stages.Stage.TheVariants.{Reading}
use Rattle.open_task.specs.Task.{Opening, IsAnswer, key_in, slot_at_hand, after as open_after}
use Rattle.open_task.specs.Task.{facts_of as open_facts, left_of as open_left, asks_of as open_asks}
use Rattle.fixate_task.specs.Task.{first, after as fix_after, has_ended, left_of}
use Rattle.user_tasks.specs.declared.unlocks.Unlock.{Unlock}
use Rattle.user_tasks.specs.declared.unlocks.UnlockStage.{UnlockStage}
use Rattle.user_tasks.specs.declared.unlocks.UnlockStage.TheVariants.{Opening as IsOpening, Fixing, Installing, Ending}
use Rattle.user_tasks.specs.Turns.{quiet_turn}

-- as it begins, with all the user's slots, those to try, the secret, and the number of its jobs
abbrev pub first_unlock : ℕ → List Slot → List Slot → List ℕ → ℕ → Unlock
first_unlock user slots to_try secret job = record {
  opening = record { user = user; secret = secret; job = job; left = to_try; stage = Reading };
  fixing = record { kept = Current; others = slots };
  stage = IsOpening;
  changed = false;
}

-- what the machine has of its command; while the key is being opened no slot opened yet, and it made no change
pub record IsUnlock (user : ℕ) (secret : List ℕ) (boot : ℕ) (began : Began) : Type 0 where
  pub command : began.command ≡ UnlockCommand user secret

pub record IsQuiet (opening : Opening) (boot : ℕ) (began : Began) : Type 0 where
  pub command : began.command ≡ UnlockCommand opening.user opening.secret
  pub changes : began.changes ≡ []
  pub shut : key_in opening.stage ≡ None

abbrev pub serves_at : UnlockStage → Opening → ℕ → Began → Type 0
serves_at IsOpening opening = IsQuiet opening
serves_at stage opening = IsUnlock opening.user opening.secret

-- once a slot opened it is the newest one under the secret, and the key is the one that the user was given, where no
-- tag matched by chance; in the end it is the user's one slot, as the current one, that is durable, and the key is in
-- the ring
abbrev pub facts_at : UnlockStage → Unlock → List ShareFact
facts_at IsOpening unlock =
    Gave unlock.opening.user unlock.opening.secret ∷ AllSlots unlock.fixing.others ∷ open_facts unlock.opening
facts_at (Fixing key) unlock = Slots unlock.fixing.kept unlock.fixing.others
    ∷ NewestUnder unlock.opening.user unlock.opening.secret unlock.fixing.kept
    ∷ MadeKey unlock.opening.user ForCe key ∷ []
facts_at (Installing key) unlock = Slots Current [] ∷ Own Durable
    ∷ NewestUnder unlock.opening.user unlock.opening.secret Current ∷ MadeKey unlock.opening.user ForCe key ∷ []
facts_at Ending unlock = Slots Current [] ∷ Own Durable
    ∷ NewestUnder unlock.opening.user unlock.opening.secret Current ∷ HasKey ForCe true ∷ []

abbrev pub left_at : UnlockStage → Unlock → ℕ
left_at IsOpening unlock = open_left unlock.opening + length unlock.fixing.others + 5
left_at (Fixing key) unlock = left_of unlock.fixing + 3
left_at (Installing key) unlock = 2
left_at Ending unlock = 1

abbrev pub rest_at : UnlockStage → Unlock → Rest
rest_at stage unlock = record {
  user = unlock.opening.user;
  facts = facts_at stage unlock;
  held = [];
  serves = serves_at stage unlock.opening;
  left = left_at stage unlock;
  makes = 0;
  draws = 0;
}

abbrev pub unlock_rest : Unlock → Rest
unlock_rest unlock = rest_at unlock.stage unlock

-- with a key it goes on to keep the slot that opened alone
abbrev pub with_opened : Option (List ℕ) → Unlock → Unlock
with_opened None unlock = unlock
with_opened (Some key) unlock = record unlock {
  fixing = first unlock.fixing.others (slot_at_hand unlock.opening.left);
  stage = Fixing key;
}

abbrev pub after_opening : Unlock → Answer → Unlock
after_opening unlock answer =
    let opening = open_after unlock.opening answer in
    with_opened (key_in opening.stage) (record unlock { opening = opening })

-- behind the fixation it syncs where it changed anything, or where a change of the user's isn't durable, and then
-- installs the key
abbrev pub after_step : Bool → List ℕ → Unlock → Unlock
after_step false key unlock = record unlock { fixing = fix_after unlock.fixing; changed = true }
after_step true key unlock = record unlock { stage = Installing key }

abbrev pub after_fixing : List ℕ → Unlock → Answer → Unlock
after_fixing key unlock Installed = record unlock { stage = Ending }
after_fixing key unlock answer = after_step (has_ended unlock.fixing) key unlock

abbrev pub after_at : UnlockStage → Unlock → Answer → Unlock
after_at IsOpening unlock answer = after_opening unlock answer
after_at (Fixing key) unlock answer = after_fixing key unlock answer
after_at (Installing key) unlock answer = record unlock { stage = Ending }
after_at Ending unlock answer = unlock

abbrev pub after : Unlock → Answer → Unlock
after unlock answer = after_at unlock.stage unlock answer

-- the answers that it may hear
abbrev pub hears_fixing : Answer → Type 0
hears_fixing Done = Unit {0}
hears_fixing Installed = Unit {0}
hears_fixing answer = ⊥

abbrev pub hears_at : UnlockStage → Unlock → Answer → Type 0
hears_at IsOpening unlock answer = IsAnswer unlock.opening answer
hears_at (Fixing key) unlock answer = hears_fixing answer
hears_at (Installing key) unlock answer = answer ≡ Installed
hears_at Ending unlock answer = answer ≡ Done

abbrev pub hears : Unlock → Answer → Type 0
hears unlock answer = hears_at unlock.stage unlock answer

-- how many jobs it asks for next
abbrev pub asks_at : UnlockStage → Unlock → ℕ
asks_at IsOpening unlock = open_asks unlock.opening
asks_at stage unlock = 0

abbrev pub asks_of : Unlock → ℕ
asks_of unlock = asks_at unlock.stage unlock

-- the turn that installs the key
abbrev pub adding_turn : ℕ → List ℕ → Next
adding_turn user key = quiet_turn (Add user ForCe key)
