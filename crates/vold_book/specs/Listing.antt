-- What the turn that ends a user's keys lists for deletion: every blob that the user's directories name. And that a
-- command owes what it listed until its reply.
use Rattle.std.specs.Prelude.{◌≡◌, ◌↔◌, ℕ, ◌<◌, List, [], ◌∷◌, ◌++◌, Some, IsSome, AllPairs, Contains}
use Rattle.std.specs.List.{flat_map}
use Rattle.std.specs.FinMap as map
use Rattle.tree_model.specs.declared.blobs.Blob.{Blob}
use Rattle.tree_model.specs.declared.places.Place.TheVariants.{De, Ce}
use Rattle.tree_model.specs.declared.places.Slot.TheVariants.{Current, Cx}
use Rattle.tree_model.specs.Disk.{view}
use Rattle.deferred_delete.specs.declared.items.Item.{Item}
use Rattle.journal_model.specs.declared.commands.Actor.{Actor}
use Rattle.journal_model.specs.declared.entries.Change.TheVariants.{Destroy}
use Rattle.journal_model.specs.declared.entries.Entry.TheVariants.{Changed}
use Rattle.step_core.specs.Table.{NamedPlaces}
use Rattle.bench.specs.Bench.{named_here}
use Rattle.bench.specs.Known.{Knows}
use Rattle.vold_book.specs.declared.tasks.Running.{Running}
use Rattle.vold_book.specs.Owed.{items_from}
use Rattle.vold_book.specs.State.{Plain}

-- these are the numbers of a user's numbered slots, in ascending order
pub record AreSlotNumbers (places : NamedPlaces) (user : ℕ) (numbers : List ℕ) : Type 0 where
  pub rising : AllPairs (λ earlier later. earlier < later) numbers
  pub all : (number : ℕ) → Contains numbers number ↔ IsSome (map.get places (Ce user (Cx number)))

-- the blobs that a user's directories name: the device key's, the current slot's, and those of the numbered slots
abbrev pub blobs_named : NamedPlaces → ℕ → List ℕ → List Blob
blobs_named places user numbers = named_here places (De user) ++ (named_here places (Ce user Current)
    ++ flat_map (λ number. named_here places (Ce user (Cx number))) numbers)

-- the list, and what the actor's command owes, got an item for each of these, in this order and not synced; what is
-- known of the places is what stands
pub record ListsNamed (before after : Plain) (actor : Actor) (it : Running) (user : ℕ) : Type 0 where
  pub known : Knows before.bench.places (view before.bench.disk)
  pub numbers : List ℕ
  pub slots : AreSlotNumbers before.bench.places user numbers
  pub listed : after.bench.list.items ≡ before.bench.list.items
      ++ items_from before.bench.list.next (blobs_named before.bench.places user numbers)
  pub then : Running
  pub runs : map.get after.docket.running actor ≡ Some then
  pub owed : then.owed.items
      ≡ it.owed.items ++ items_from before.bench.list.next (blobs_named before.bench.places user numbers)

-- a turn that ends a user's keys lists all that the user's directories name
abbrev pub ListsEnded : Plain → Plain → Actor → Type 0
ListsEnded before after actor = (it : Running) (number user : ℕ) → map.get before.docket.running actor ≡ Some it
    → after.ledger.entries ≡ before.ledger.entries ++ Changed number (Destroy user) ∷ []
    → ListsNamed before after actor it user

-- a command that goes on owes all that it owed
abbrev pub OwesOn : Plain → Plain → Actor → Type 0
OwesOn before after actor = (it then : Running) (item : Item) → map.get before.docket.running actor ≡ Some it
    → map.get after.docket.running actor ≡ Some then → Contains it.owed.items item → Contains then.owed.items item
