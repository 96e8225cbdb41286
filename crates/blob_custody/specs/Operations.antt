-- What each kind of operation on a user's places does to the blobs that the user's standing directories name.
use Rattle.std.specs.Prelude.{◌≡◌, ◌≢◌, ℕ, false, List, [], ◌∷◌, Option, Some, None, IsSome, Contains, option_to_list}
use Rattle.tree_model.specs.declared.blobs.Blob.{Blob}
use Rattle.tree_model.specs.declared.places.Slot.{Slot}
use Rattle.tree_model.specs.declared.places.Slot.TheVariants.{Current, Cx}
use Rattle.tree_model.specs.declared.sites.Site.{Site}
use Rattle.tree_model.specs.declared.sites.Site.TheVariants.{De, Ce, Temp}
use Rattle.tree_model.specs.declared.sites.LocalOp.{LocalOp}
use Rattle.tree_model.specs.declared.sites.LocalOp.TheVariants.{RenameDir, RemoveDir}
use Rattle.tree_model.specs.Disk.{Disk, view, IsImage}
use Rattle.tree_model.specs.Named.{named_at, PartNames}
use Rattle.tree_model.specs.Parts.{Part, part_of}
use Rattle.tree_model.specs.Sites.{touches}
use Rattle.tree_model.specs.Tree.{Tree}
use Rattle.keystore_model.specs.Store.{Differ}
use Rattle.blob_custody.specs.Steps.{Renames}

-- the operation touches no standing directory
pub record IsQuiet (op : LocalOp) : Type 0 where
  pub device : touches op De ≡ false
  pub slots : (slot : Slot) → touches op (Ce slot) ≡ false

-- before a birth: the device key's directory isn't there, one is made that names a blob, and of the credential
-- directories that in the current slot alone names one
pub record IsUnborn (part : Part) (device credential : Blob) : Type 0 where
  pub absent : part De ≡ None
  pub made : named_at (part Temp) ≡ Some device
  pub current : named_at (part (Ce Current)) ≡ Some credential
  pub others : (n : ℕ) → named_at (part (Ce (Cx n))) ≡ None

-- no other standing directory names what that of the slot does
pub record NamesAlone (part : Part) (slot : Slot) : Type 0 where
  pub apart : (other : Slot) (blob : Blob) → other ≢ slot → named_at (part (Ce other)) ≡ Some blob
      → named_at (part (Ce slot)) ≢ Some blob
  pub device : (blob : Blob) → named_at (part De) ≡ Some blob → named_at (part (Ce slot)) ≢ Some blob

-- the blobs are those that the standing directories name
pub record AreNamed (part : Part) (blobs : List Blob) : Type 0 where
  pub are : (blob : Blob) → Contains blobs blob → PartNames part blob
  pub all : (blob : Blob) → PartNames part blob → Contains blobs blob

-- the blob that the directory names, as a list
abbrev pub names_of : Part → Site → List Blob
names_of part site = option_to_list (named_at (part site))

-- an operation in the temporary place
abbrev pub LawOfQuietOperations : Type 0
LawOfQuietOperations = (disk : Disk) (user : ℕ) (op : LocalOp) → IsQuiet op → Renames disk user op [] []

-- an operation on what a user's removal or a create that failed left, where the device key's directory isn't there
abbrev pub LawOfDebris : Type 0
LawOfDebris =
    (disk : Disk) (user : ℕ) (op : LocalOp) → touches op De ≡ false
    → ((left : Tree) → IsImage disk.stable disk.pending left → part_of left user De ≡ None)
    → Renames disk user op [] []

-- the last rename of a create
abbrev pub LawOfBirths : Type 0
LawOfBirths =
    (disk : Disk) (user : ℕ) (device credential : Blob)
    → ((left : Tree) → IsImage disk.stable disk.pending left → IsUnborn (part_of left user) device credential)
    → Renames disk user (RenameDir Temp De) (credential ∷ device ∷ []) []

-- a slot's directory is removed
abbrev pub LawOfDrops : Type 0
LawOfDrops =
    (disk : Disk) (user : ℕ) (slot : Slot) → IsSome (part_of (view disk) user De)
    → NamesAlone (part_of (view disk) user) slot
    → Renames disk user (RemoveDir (Ce slot)) [] (names_of (part_of (view disk) user) (Ce slot))

-- what a directory names, and so what its removal drops: one blob at most
abbrev pub LawOfDistinctDrops : Type 0
LawOfDistinctDrops = (part : Part) (site : Site) → Differ (names_of part site)

-- the device key's directory is removed, and no other stands any more
abbrev pub LawOfDestructions : Type 0
LawOfDestructions =
    (disk : Disk) (user : ℕ) (drops : List Blob) → AreNamed (part_of (view disk) user) drops
    → Renames disk user (RemoveDir De) [] drops

-- the directory that was made goes to a free slot
abbrev pub LawOfAdditions : Type 0
LawOfAdditions =
    (disk : Disk) (user : ℕ) (slot : Slot) (named : Option Blob) → IsSome (part_of (view disk) user De)
    → part_of (view disk) user (Ce slot) ≡ None
    → ((left : Tree) → IsImage disk.stable disk.pending left → named_at (part_of left user Temp) ≡ named)
    → Renames disk user (RenameDir Temp (Ce slot)) (option_to_list named) []

-- a slot's directory goes to a free slot
abbrev pub LawOfSettlings : Type 0
LawOfSettlings =
    (disk : Disk) (user : ℕ) (from to : Slot) → part_of (view disk) user (Ce to) ≡ None
    → Renames disk user (RenameDir (Ce from) (Ce to)) [] []
