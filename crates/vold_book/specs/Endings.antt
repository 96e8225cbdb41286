-- When the keystore's entries end: only what was listed, and synced; and all that a destroy listed, before it tells
-- that its user is gone. And what is left of a user whose keys were ended: nothing in any tree that a stop can leave,
-- no key in the ring, and of the keystore's entries those that wait for their deletion.
use Rattle.std.specs.Prelude.{◌≡◌, ◌⊎◌, ℕ, true, [], ◌∷◌, ◌++◌, None, Some, Contains}
use Rattle.std.specs.FinMap as map
use Rattle.tree_model.specs.declared.blobs.Blob.{Blob}
use Rattle.tree_model.specs.declared.places.Class.{Class}
use Rattle.tree_model.specs.declared.sites.Site.{Site}
use Rattle.tree_model.specs.Parts.{part_of}
use Rattle.tree_model.specs.Tree.{Tree}
use Rattle.key_ring.specs.Ring.{key_of}
use Rattle.deferred_delete.specs.declared.items.Item.{Item}
use Rattle.deferred_delete.specs.Deferral.{Deferral}
use Rattle.blob_custody.specs.Custody.{IsLeft, IsListed}
use Rattle.journal_model.specs.declared.commands.Actor.{Actor}
use Rattle.journal_model.specs.declared.commands.Actor.TheVariants.{User as UserActor}
use Rattle.journal_model.specs.declared.commands.Reply.{Reply}
use Rattle.journal_model.specs.declared.commands.Reply.TheVariants.{Gone}
use Rattle.journal_model.specs.declared.entries.Entry.TheVariants.{Replied}
use Rattle.journal_model.specs.declared.phase.Phase.TheVariants.{Up}
use Rattle.keystore_model.specs.declared.entry.StoreEntry.{StoreEntry}
use Rattle.keystore_model.specs.Store.{entry_of}
use Rattle.vold_book.specs.declared.tasks.Running.{Running}
use Rattle.vold_book.specs.declared.tasks.Task.TheVariants.{Refusal}
use Rattle.bench.specs.Bench.{Plain as Seen}
use Rattle.vold_book.specs.State.{Plain}

-- a blob that was listed, and synced
pub record WasDue (list : Deferral) (blob : Blob) : Type 0 where
  pub item : Item
  pub has : Contains list.items item
  pub names : item.blob ≡ blob
  pub synced : item.synced ≡ true

-- each entry of the keystore stays, or its blob was listed and synced
abbrev pub EndsDue : Seen → Seen → Type 0
EndsDue before after = (entry : StoreEntry) → Contains before.store.entries entry
    → Contains after.store.entries entry ⊎ WasDue before.list entry.blob

-- where a turn tells that the user is gone, no blob that the command listed has an entry any more
abbrev pub EndsGone : Plain → Plain → Actor → Type 0
EndsGone before after actor = (it : Running) (number : ℕ) (item : Item)
    → map.get before.docket.running actor ≡ Some it
    → after.ledger.entries ≡ before.ledger.entries ++ Replied number Gone ∷ []
    → Contains it.owed.items item → entry_of after.bench.store.entries item.blob ≡ None

-- what an actor runs was refused
pub record WasRefused (it : Running) : Type 0 where
  pub reply : Reply
  pub is : it.task ≡ Refusal reply

pub record LeavesNothing (book : Plain) (user : ℕ) : Type 0 where
  pub vacant : (left : Tree) (site : Site) → IsLeft book.bench.disk left → part_of left user site ≡ None
  pub keyless : (class : Class) → key_of book.bench.keys user class ≡ None
  -- while the machine is up; else a recovery lists it, before it brings the machine up
  pub listed : book.tracker.phase ≡ Up → (entry : StoreEntry) → Contains book.bench.store.entries entry
      → entry.tag.user ≡ user → IsListed book.bench.list entry.blob
  -- and no command of the user's goes on but one that was refused
  pub idle : (it : Running) → map.get book.docket.running (UserActor user) ≡ Some it → WasRefused it
