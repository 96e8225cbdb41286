-- A fixate as a task over its user's share of the devices: what each stage rests on.
use Rattle.std.specs.Prelude.{◌≡◌, ℕ, ◌+◌, Bool, true, false, List, [], ◌∷◌}
use Rattle.tree_model.specs.declared.places.Slot.{Slot}
use Rattle.tree_model.specs.declared.places.Slot.TheVariants.{Current}
use Rattle.journal_model.specs.declared.commands.Command.TheVariants.{Fixate as FixateCommand}
use Rattle.journal_model.specs.Machine.{Running as Began}
use Rattle.user_world.specs.Facts.{Durable}
use Rattle.task_turns.specs.Shares.{ShareFact, Own, Slots, Newest}
use Rattle.task_turns.specs.Turns.{Rest}
use Rattle.fixate_task.specs.Task.{Fixing, first, after as fix_after, has_ended, left_of}
use Rattle.user_tasks.specs.declared.fixates.Fixate.{Fixate}

abbrev pub first_fixate : ℕ → List Slot → Slot → Fixate
first_fixate user slots newest = record {
  user = user;
  fixing = first slots newest;
  fixed = false;
  changed = false;
}

-- what the machine has of its command
pub record IsFixate (user : ℕ) (boot : ℕ) (began : Began) : Type 0 where
  pub command : began.command ≡ FixateCommand user

-- the kept slot is the newest one; in the end the current slot is the user's one, and that is durable
abbrev pub facts_at : Bool → Fixing → List ShareFact
facts_at false fixing = Slots fixing.kept fixing.others ∷ Newest fixing.kept ∷ []
facts_at true fixing = Slots Current [] ∷ Own Durable ∷ []

abbrev pub left_at : Bool → Fixing → ℕ
left_at false fixing = left_of fixing + 2
left_at true fixing = 1

abbrev pub fixate_rest : Fixate → Rest
fixate_rest fixate = record {
  user = fixate.user;
  facts = facts_at fixate.fixed fixate.fixing;
  held = [];
  serves = IsFixate fixate.user;
  left = left_at fixate.fixed fixate.fixing;
  makes = 0;
  draws = 0;
}

-- behind the fixation it syncs where it changed anything, or where a change of the user's isn't durable, and then the
-- slot is fixed
abbrev pub after_with : Bool → Fixate → Fixate
after_with false fixate = record fixate { fixing = fix_after fixate.fixing; changed = true }
after_with true fixate = record fixate { fixed = true }

abbrev pub after : Fixate → Fixate
after fixate = after_with (has_ended fixate.fixing) fixate
