-- A destroy as a task over its user's share of the devices: what each stage rests on.
use Rattle.std.specs.Prelude.{◌≡◌, ℕ, ◌+◌, Bool, true, false, List, [], ◌∷◌, map, length, Some, None}
use Rattle.tree_model.specs.declared.places.Class.TheVariants.{De as ForDe, Ce as ForCe}
use Rattle.tree_model.specs.declared.places.Slot.{Slot}
use Rattle.tree_model.specs.declared.sites.Site.{Site}
use Rattle.tree_model.specs.declared.sites.Site.TheVariants.{De, Ce, Temp}
use Rattle.tree_model.specs.declared.sites.LocalOp.TheVariants.{RemoveDir}
use Rattle.journal_model.specs.declared.commands.Command.TheVariants.{Destroy as DestroyCommand}
use Rattle.journal_model.specs.declared.entries.Change.{Change}
use Rattle.journal_model.specs.declared.entries.Change.TheVariants.{Destroy as DestroyChange}
use Rattle.journal_model.specs.Machine.{Running as Began}
use Rattle.user_world.specs.declared.changes.LocalChange.TheVariants.{Destroyed}
use Rattle.user_world.specs.Facts.{Knows, Logged, Still, Sites, Vacant}
use Rattle.task_turns.specs.declared.calls.Call.TheVariants.{Op as OpCall}
use Rattle.task_turns.specs.declared.next.Next.{Next}
use Rattle.task_turns.specs.declared.next.Next.TheVariants.{Call as CallNext}
use Rattle.task_turns.specs.Shares.{ShareFact, Own, SlotsFew, HasKey}
use Rattle.task_turns.specs.Turns.{Rest}
use Rattle.fixate_task.specs.Task.{without}
use Rattle.user_tasks.specs.declared.destroys.DestroyStage.{DestroyStage}
use Rattle.user_tasks.specs.declared.destroys.DestroyStage.TheVariants.{EvictingCe, EvictingDe, Clearing, Removing}
use Rattle.user_tasks.specs.declared.destroys.DestroyStage.TheVariants.{Sweeping, Ending}

pub record Destroying : Type 0 where
  pub user : ℕ
  pub stage : DestroyStage
  -- whether the device key is in the ring, and a temporary directory is there
  pub has_de : Bool
  pub has_temp : Bool
  -- the slots whose directories are still to be removed, in their order
  pub slots : List Slot

-- the first stage that there is something to do at: whether the keys of both classes are in the ring, and whether a
-- temporary directory is there
abbrev pub stage_from : Bool → Bool → Bool → DestroyStage
stage_from true has_de has_temp = EvictingCe
stage_from false true has_temp = EvictingDe
stage_from false false true = Clearing
stage_from false false false = Removing

abbrev pub first_destroy : ℕ → List Slot → Bool → Bool → Bool → Destroying
first_destroy user slots has_ce has_de has_temp = record {
  user = user;
  stage = stage_from has_ce has_de has_temp;
  has_de = has_de;
  has_temp = has_temp;
  slots = slots;
}

-- what the machine has of its command, and the changes that it made so far
pub record IsDestroy (user : ℕ) (changes : List Change) (boot : ℕ) (began : Began) : Type 0 where
  pub command : began.command ≡ DestroyCommand user
  pub so_far : began.changes ≡ changes

-- the sites of the user's slots, and all sites of a user who is there
abbrev pub sites_of : List Slot → List Site
sites_of slots = map (λ slot. Ce slot) slots

abbrev pub all_sites : Bool → List Slot → List Site
all_sites true slots = Temp ∷ De ∷ sites_of slots
all_sites false slots = De ∷ sites_of slots

-- where it rests before the user's end, by what it knows of the user's keys in the ring, and from then on
abbrev pub rest_before : Destroying → List ShareFact → Bool → ℕ → Rest
rest_before destroy keys has_temp more = record {
  user = destroy.user;
  facts = Own (Sites (all_sites has_temp destroy.slots)) ∷ SlotsFew (length destroy.slots) ∷ keys;
  held = [];
  serves = IsDestroy destroy.user [];
  left = length destroy.slots + 3 + more;
  makes = 0;
  draws = 0;
}

abbrev pub rest_after : Destroying → List ShareFact → ℕ → Rest
rest_after destroy facts left = record {
  user = destroy.user;
  facts = Own (Logged Destroyed) ∷ facts;
  held = [];
  serves = IsDestroy destroy.user (DestroyChange destroy.user ∷ []);
  left = left;
  makes = 0;
  draws = 0;
}

-- neither of the user's keys is in the ring
abbrev pub no_keys : List ShareFact
no_keys = HasKey ForCe false ∷ HasKey ForDe false ∷ []

abbrev pub rest_at : DestroyStage → Destroying → Rest
rest_at EvictingCe destroy = rest_before destroy (HasKey ForDe destroy.has_de ∷ []) destroy.has_temp 2
rest_at EvictingDe destroy = rest_before destroy (HasKey ForCe false ∷ []) destroy.has_temp 1
rest_at Clearing destroy = rest_before destroy no_keys true 0
rest_at Removing destroy = rest_before destroy no_keys false 0
rest_at Sweeping destroy =
    rest_after destroy (Own (Sites (sites_of destroy.slots)) ∷ Own (Knows None) ∷ []) 2
rest_at Ending destroy = rest_after destroy (Own Still ∷ Own Vacant ∷ []) 1

abbrev pub destroy_rest : Destroying → Rest
destroy_rest destroy = record (rest_at destroy.stage destroy) { user = destroy.user }

-- the first slot's directory is gone, and behind the last all is durable
abbrev pub after_sweeping : List Slot → Destroying → Destroying
after_sweeping [] destroy = record destroy { stage = Ending }
after_sweeping (slot ∷ slots) destroy = record destroy { slots = without slot (slot ∷ slots) }

abbrev pub after_at : DestroyStage → Destroying → Destroying
after_at EvictingCe destroy = record destroy { stage = stage_from false destroy.has_de destroy.has_temp }
after_at EvictingDe destroy = record destroy { stage = stage_from false false destroy.has_temp }
after_at Clearing destroy = record destroy { stage = Removing }
after_at Removing destroy = record destroy { stage = Sweeping }
after_at Sweeping destroy = after_sweeping destroy.slots destroy
after_at Ending destroy = destroy

abbrev pub after : Destroying → Destroying
after destroy = after_at destroy.stage destroy

-- the turn that ends the user
abbrev pub removal_turn : ℕ → Next
removal_turn user = CallNext (OpCall user (RemoveDir De) None) (Some Destroyed)
