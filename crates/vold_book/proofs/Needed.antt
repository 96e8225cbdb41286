-- The blobs whose entries something rests on: a running command holds them, or a tree that a stop can leave names
-- them.
use Rattle.std.proofs.Common.{◌≡◌, ◌⊎◌, inl, inr, ℕ, ◌∙◌, subst}
use Rattle.std.specs.Prelude.{Some, Contains}
use Rattle.std.specs.FinMap as map
use Rattle.tree_model.specs.declared.blobs.Blob.{Blob}
use Rattle.tree_model.specs.Disk.{Disk, view}
use Rattle.tree_model.specs.Named.{PartNames, IsNamed}
use Rattle.tree_model.specs.Tree.{Tree}
use Rattle.journal_model.specs.declared.commands.Actor.{Actor}
use Rattle.blob_custody.specs.Custody.{IsLeft}
use Rattle.blob_custody.specs.Steps.{KeepsEntries}
use Rattle.blob_custody.proofs.Left.{view-left}
use Rattle.user_world.specs.OwnWorlds.{own_view}
use Rattle.user_world.specs.Timelines.{own_of}
use Rattle.user_world.proofs.Timelines.{view-shown}
use Rattle.key_directory.specs.Vaults.{Vault, KeepsEntry}
use Rattle.vold_book.specs.declared.tasks.Running.{Running}
use Rattle.vold_book.specs.State.{Plain, ground_of, machine_of, timeline}
use Rattle.vold_book.specs.Whole.{Whole, held_of, custody_of}
use Rattle.vold_book.proofs.HeldBlobs.{IsHeldBy, held-has}

-- a tree that a stop can leave names the blob
pub record IsShown (disk : Disk) (blob : Blob) : Type 0 where
  pub left : Tree
  pub is : IsLeft disk left
  pub names : IsNamed left blob

abbrev pub IsNeeded : Plain → Blob → Type 0
IsNeeded book blob = IsHeldBy book.docket.running blob ⊎ IsShown book.bench.disk blob

-- each such blob keeps its entry
abbrev pub KeepsNeeded : Plain → Vault → Type 0
KeepsNeeded book after = (blob : Blob) → IsNeeded book blob → KeepsEntry (ground_of book).vault after blob

-- what a command holds is needed
pub held-needed : (book : Plain) (actor : Actor) (it : Running) → map.get book.docket.running actor ≡ Some it
    → (blob : Blob) → Contains (held_of it) blob → IsNeeded book blob
held-needed book actor it runs blob holds = inl (record { actor = actor; it = it; runs = runs; holds = holds })

-- and what a directory of the view names
pub view-needed : (book : Plain) → Whole book → (user : ℕ) (blob : Blob)
    → PartNames (own_view (own_of user (timeline book.bench.disk (machine_of book)))) blob → IsNeeded book blob
view-needed book whole user blob names = inr (record {
  left = view book.bench.disk;
  is = view-left book.bench.disk;
  names = record {
    user = user;
    there = subst (λ part. PartNames part blob) (view-shown user _ _ whole.worlds.shows) names;
  };
})

-- where the keystore keeps those entries, they are kept
pub keeps-needed : (book : Plain) (after : Vault) → KeepsEntries (custody_of book) after.entries → KeepsNeeded book
    after
keeps-needed book after keeps blob (inl held) entry live = keeps.held blob (held-has book.docket.running blob held) ∙
    live
keeps-needed book after keeps blob (inr shown) entry live = keeps.named shown.left shown.is blob shown.names ∙ live
