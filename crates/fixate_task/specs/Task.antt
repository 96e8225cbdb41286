-- A task that leaves a user one slot, as the current one, as data: what it is as it begins, and after each turn.
use Rattle.std.specs.Prelude.{ℕ, ◌+◌, Bool, false, not, cond, List, [], ◌∷◌, length}
use Rattle.std.specs.List.{filter}
use Rattle.std.specs.Ordering.{eq_by_cmp}
use Rattle.tree_model.specs.declared.places.Slot.{Slot}
use Rattle.tree_model.specs.declared.places.Slot.TheVariants.{Current}
use Rattle.tree_model.specs.declared.sites.Site.TheVariants.{Ce}
use Rattle.tree_model.specs.declared.sites.LocalOp.{LocalOp}
use Rattle.tree_model.specs.declared.sites.LocalOp.TheVariants.{RenameDir, RemoveDir}
use Rattle.tree_model.specs.Order.{slot_cmp}
use Rattle.user_world.specs.declared.changes.LocalChange.{LocalChange}
use Rattle.user_world.specs.declared.changes.LocalChange.TheVariants.{Dropped, Settled}
use Rattle.fixate_task.specs.declared.task.Doing.{Doing}
use Rattle.fixate_task.specs.declared.task.Doing.TheVariants.{Drop, Settle}

-- the slot that is kept, and those that are still to be dropped, in their order
pub record Fixing : Type 0 where
  pub kept : Slot
  pub others : List Slot

-- slots without one
abbrev pub without : Slot → List Slot → List Slot
without slot slots = filter (λ other. not (eq_by_cmp slot_cmp other slot)) slots

-- as it begins
abbrev pub first : List Slot → Slot → Fixing
first slots kept = record { kept = kept; others = without kept slots }

-- once the first of the others is dropped, or the kept slot, where there is no other, is the current one
abbrev pub after_with : Slot → List Slot → Fixing
after_with kept [] = record { kept = Current; others = [] }
after_with kept (slot ∷ slots) = record { kept = kept; others = without slot (slot ∷ slots) }

abbrev pub after : Fixing → Fixing
after task = after_with task.kept task.others

-- no slot is left but the kept one, which is the current one
abbrev pub ended_with : Slot → List Slot → Bool
ended_with kept [] = eq_by_cmp slot_cmp kept Current
ended_with kept (slot ∷ slots) = false

abbrev pub has_ended : Fixing → Bool
has_ended task = ended_with task.kept task.others

-- how many turns it has left at most
abbrev pub left_of : Fixing → ℕ
left_of task = length task.others + cond (eq_by_cmp slot_cmp task.kept Current) 0 1

-- what is done: the operation, and the change
abbrev pub op_of : Doing → LocalOp
op_of (Drop slot) = RemoveDir (Ce slot)
op_of (Settle slot) = RenameDir (Ce slot) (Ce Current)

abbrev pub change_by : Doing → LocalChange
change_by (Drop slot) = Dropped slot
change_by (Settle slot) = Settled slot
