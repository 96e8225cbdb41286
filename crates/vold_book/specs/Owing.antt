-- What stands of the items that commands listed: each is listed still, or its blob has no entry any more; and those
-- that a command passed ended, where it tells of each delete that failed.
use Rattle.std.specs.Prelude.{◌≡◌, ◌≢◌, ◌⊎◌, ℕ, ◌<◌, ◌≤◌, Bool, true, false, List, [], ◌∷◌, Some, None, Contains}
use Rattle.deferred_delete.specs.declared.items.Item.{Item}
use Rattle.deferred_delete.specs.Deferral.{Deferral}
use Rattle.journal_model.specs.declared.commands.Actor.{Actor}
use Rattle.journal_model.specs.declared.commands.Actor.TheVariants.{User as UserActor}
use Rattle.keystore_model.specs.declared.entry.StoreEntry.{StoreEntry}
use Rattle.keystore_model.specs.Store.{entry_of}
use Rattle.vold_book.specs.Owed.{Owed}
use Rattle.vold_book.specs.State.{Ground, AllDurable}

-- the item is listed still, and was synced, or a change of the user's isn't durable
pub record IsWaiting (ground : Ground) (user : ℕ) (item : Item) : Type 0 where
  pub synced : Bool
  pub has : Contains ground.list.items (record item { synced = synced })
  pub unsynced : synced ≡ false → ¬ (AllDurable ground.line user)

-- its blob has no entry any more, and no item of its number is listed
pub record IsEnded (ground : Ground) (item : Item) : Type 0 where
  pub gone : entry_of ground.vault.entries item.blob ≡ None
  pub taken : (other : Item) → Contains ground.list.items other → other.number ≢ item.number

-- of an item that a command listed: its blob was given once; it is listed still, and not synced only while a change of
-- its user isn't durable, or the blob has no entry any more; and an entry of it is one of the user's keys
pub record IsOwing (ground : Ground) (user : ℕ) (item : Item) : Type 0 where
  pub numbered : item.number < ground.list.next
  pub given : Contains ground.given item.blob
  pub stands : IsWaiting ground user item ⊎ IsEnded ground item
  pub tagged : (entry : StoreEntry) → entry_of ground.vault.entries item.blob ≡ Some entry → entry.tag.user ≡ user

-- of all that a command of a user's actor owes
abbrev pub OwesOwn : Ground → Actor → Owed → Type 0
OwesOwn ground actor owed = (item : Item) → Contains owed.items item
    → (user : ℕ) × (actor ≡ UserActor user) × IsOwing ground user item

-- a later item of a command has the higher number, and isn't synced before the earlier
pub record ComesLater (list : Deferral) (early late : Item) : Type 0 where
  pub higher : early.number < late.number
  pub synced : Contains list.items (record late { synced = true })
      → ¬ (Contains list.items (record early { synced = false }))

abbrev pub InOrder : Deferral → List Item → Type 0
InOrder list [] = Unit {0}
InOrder list (item ∷ items) =
    ((later : Item) → Contains items later → ComesLater list item later) × InOrder list items

-- how far a command came with what it listed: its items are in order, and where those that it passed are to have
-- ended, each has
pub record HasTried (ground : Ground) (ends : Bool) (owed : Owed) : Type 0 where
  pub reached : owed.from ≤ ground.list.next
  pub order : InOrder ground.list owed.items
  pub ended : ends ≡ true → (item : Item) → Contains owed.items item → item.number < owed.from → IsEnded ground item
