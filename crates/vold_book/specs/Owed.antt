-- What a command listed, and which of it is still to be deleted.
use Rattle.std.specs.Prelude.{ℕ, ◌+◌, ◌^◌, ◌<◌, ◌==◌, Bool, true, false, cond, List, []}
use Rattle.std.specs.Prelude.{◌∷◌, ◌++◌, Option, Some, None, nat_le}
use Rattle.tree_model.specs.declared.blobs.Blob.{Blob}
use Rattle.deferred_delete.specs.declared.items.Item.{Item}
use Rattle.deferred_delete.specs.Deferral.{Deferral, due_of as first_due}
use Rattle.step_core.specs.Table.{NamedPlaces}
use Rattle.task_turns.specs.declared.calls.Call.{Call}
use Rattle.task_turns.specs.declared.calls.Call.TheVariants.{Op, Delete}
use Rattle.bench.specs.Bench.{dropped}

-- the items that a command listed, in order, as they were listed, and the number of the next one that it tries to
-- delete
pub record Owed : Type 0 where
  pub items : List Item
  pub from : ℕ

abbrev pub nothing_owed : Owed
nothing_owed = record { items = []; from = 0 }

-- items of blobs that are listed next, from a number on
abbrev pub items_from : ℕ → List Blob → List Item
items_from next [] = []
items_from next (blob ∷ blobs) =
    (record { number = next; blob = blob; synced = false }) ∷ items_from (next + 1) blobs

-- with the blobs that are listed next; and with the item of a number tried
abbrev pub with_drops : Owed → ℕ → List Blob → Owed
with_drops owed next blobs = record owed { items = owed.items ++ items_from next blobs }

abbrev pub tried_to : Owed → ℕ → Owed
tried_to owed number = record owed { from = number + 1 }

-- the item of a number, where it is listed and was synced
abbrev pub if_numbered : ℕ → Option Item → Option Item
if_numbered number None = None
if_numbered number (Some item) = cond (item.number == number) (Some item) None

abbrev pub synced_at : Deferral → ℕ → Option Item
synced_at list number = if_numbered number (first_due list false number)

-- the first of the items, from a number on, that is listed still and was synced
abbrev pub or_else : Option Item → Option Item → Option Item
or_else None rest = rest
or_else (Some item) rest = Some item

abbrev pub due_among : Deferral → ℕ → List Item → Option Item
due_among list from [] = None
due_among list from (item ∷ items) =
    or_else (cond (nat_le from item.number) (synced_at list item.number) None) (due_among list from items)

abbrev pub due_of : Deferral → Owed → Option Item
due_of list owed = due_among list owed.from owed.items

-- what a command owes with what a call of its lists that was done, if that is more; and after a delete that was tried
abbrev pub with_more : Bool → Option Owed → Owed → Owed
with_more true (Some more) owed = more
with_more done more owed = owed

abbrev pub after_try : Call → Owed → Owed
after_try (Delete item tells) owed = tried_to owed item.number
after_try call owed = owed

-- a number comes behind that of an item that is tried
abbrev pub CanTry : Call → Type 0
CanTry (Delete item tells) = item.number < 2 ^ 63
CanTry call = Unit {0}

-- what a call lists: what it drops
abbrev pub drops_of : NamedPlaces → Call → List Blob
drops_of places (Op user op names) = dropped places user op
drops_of places call = []

-- with that, where it is something
abbrev pub more_owed : Owed → ℕ → List Blob → Option Owed
more_owed owed next [] = None
more_owed owed next (blob ∷ blobs) = Some (with_drops owed next (blob ∷ blobs))

-- what a command owes after a call
abbrev pub owed_after : NamedPlaces → ℕ → Call → Bool → Owed → Owed
owed_after places next call done owed =
    after_try call (with_more done (more_owed owed next (drops_of places call)) owed)
