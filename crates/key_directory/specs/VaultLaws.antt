-- The laws of sealed directories: what is stored opens, what stands goes on standing while its entries stay, and no
-- two standing directories name one blob.
use Rattle.std.specs.Prelude.{◌≡◌, ◌≤◌, ℕ, List, [], ◌∷◌, length, take, Option, Some, None, IsSome}
use Rattle.tree_model.specs.declared.blobs.Blob.{Blob}
use Rattle.tree_model.specs.declared.places.Class.TheVariants.{De as ForDe, Ce as ForCe}
use Rattle.tree_model.specs.declared.places.Slot.{Slot}
use Rattle.tree_model.specs.declared.places.Slot.TheVariants.{Current}
use Rattle.tree_model.specs.declared.sites.Site.{Site}
use Rattle.tree_model.specs.declared.sites.Site.TheVariants.{De, Ce, Temp}
use Rattle.tree_model.specs.Dir.{Files}
use Rattle.tree_model.specs.declared.files.FileName.TheVariants.{Version, EncryptedKey, Blob as BlobFile, BlobUpgraded}
use Rattle.tree_model.specs.declared.files.FileName.TheVariants.{BlobNew, Discard, Stretching, Salt}
use Rattle.tree_model.specs.Disk.{Disk, IsImage}
use Rattle.tree_model.specs.Held.{Held, held_in}
use Rattle.tree_model.specs.declared.sites.LocalOp.TheVariants.{RenameDir, RemoveDir}
use Rattle.tree_model.specs.Parts.{Part, part_of, standing, after_local}
use Rattle.tree_model.specs.Tree.{Tree}
use Rattle.journal_model.specs.declared.entries.Birth.{Birth}
use Rattle.journal_model.specs.declared.entries.Change.{Change}
use Rattle.journal_model.specs.Hashes.{app_id_of, wrap_key_of}
use Rattle.journal_model.specs.Made.{key_of}
use Rattle.seal_model.specs.Sealed.{sealed_text}
use Rattle.journal_model.specs.Users.{Record, Users, new_secrets, with_slot, without_slot, settled_slot}
use Rattle.keystore_model.specs.declared.entry.StoreEntry.{StoreEntry}
use Rattle.keystore_model.specs.Store.{entry_of}
use Rattle.user_world.specs.Images.{ImagesStand}
use Rattle.user_world.specs.Meaning.{StandsFor}
use Rattle.key_directory.specs.Opens.{opens}
use Rattle.key_directory.specs.Shape.{version_bytes}
use Rattle.tree_model.specs.Named.{named_at, PartNames, IsNamed}
use Rattle.key_directory.specs.Vaults.{Vault, tag_at, NamesOwn, OpensAs, SealedStands, sealed, Later, KeepsEntry}

-- two standing directories are the same
pub record AreOne (user other : ℕ) (site at : Site) : Type 0 where
  pub one_user : user ≡ other
  pub one_site : site ≡ at

-- no two standing directories of a tree that stands name one blob
abbrev pub LawOfNames : Type 0
LawOfNames = (vault : Vault) (tree : Tree) (users : Users) (blob : Blob) → StandsFor (sealed vault) tree users
    → (user other : ℕ) (names : PartNames (part_of tree user) blob) (also : PartNames (part_of tree other) blob)
    → AreOne user other names.site also.site

-- every image stands in a later vault that keeps the entries of the blobs which the images name: entries may be
-- added, the level may rise, the journal may grow, and what no image names may be deleted
abbrev pub LawOfLater : Type 0
LawOfLater = (before after : Vault) (disk : Disk) (kept : ℕ) (log : List Change) → Later before after
    → ((keep : ℕ) (left : Tree) (blob : Blob) → keep ≤ length disk.pending
    → IsImage disk.stable (take keep disk.pending) left → IsNamed left blob → KeepsEntry before after blob)
    → ImagesStand (sealed before) disk kept log → ImagesStand (sealed after) disk kept log

-- the files of a directory as it is stored, with a blob or none
abbrev pub stored : Option Blob → List ℕ → List ℕ → Held
stored blob discard sealed Version = Some version_bytes
stored blob discard sealed EncryptedKey = Some sealed
stored blob discard sealed BlobFile = blob
stored blob discard sealed BlobUpgraded = None
stored blob discard sealed BlobNew = None
stored blob discard sealed Discard = Some discard
stored blob discard sealed Stretching = None
stored blob discard sealed Salt = None

-- a directory that is stored with no secret opens under the entry of its blob, and one with a secret under its
-- wrapping key
pub record StoredOpens : Type 0 where
  pub bound : (entries : List StoreEntry) (level : ℕ) (entry : StoreEntry) (discard nonce key : List ℕ)
      → entry_of entries entry.blob ≡ Some entry → entry.app_id ≡ app_id_of discard [] → entry.level ≤ level
      → length entry.blob ≡ 32 → length discard ≡ 16384 → length nonce ≡ 12 → length key ≡ 64
      → opens entries level (stored (Some entry.blob) discard (sealed_text entry.key nonce key)) [] ≡ Some key
  pub secret : (entries : List StoreEntry) (level : ℕ) (discard nonce key : List ℕ) (byte : ℕ) (bytes : List ℕ)
      → length discard ≡ 16384 → length nonce ≡ 12 → length key ≡ 64
      → opens entries level
      (stored None discard (sealed_text (wrap_key_of (app_id_of discard (byte ∷ bytes))) nonce key))
      (byte ∷ bytes) ≡ Some key

-- the parts of a user with one device key's directory and one credential key's, in the current slot
abbrev pub two_directories : Files → Files → Part
two_directories de ce De = Some de
two_directories de ce (Ce Current) = Some ce
two_directories de ce site = None

-- both directories open with no secret to the keys of the birth, and name blobs of their own that differ
pub record OpenBoth (vault : Vault) (user : ℕ) (birth : Birth) (de ce : Files) : Type 0 where
  pub de_opens : opens vault.entries vault.level (held_in de) [] ≡ Some (key_of vault.seed ForDe user birth)
  pub ce_opens : opens vault.entries vault.level (held_in ce) [] ≡ Some (key_of vault.seed ForCe user birth)
  pub de_own : NamesOwn vault (tag_at user De) (Some de)
  pub ce_own : NamesOwn vault (tag_at user (Ce Current)) (Some ce)
  pub differ : (blob : Blob) → named_at (Some de) ≡ Some blob → named_at (Some ce) ≡ Some blob → ⊥

-- two such directories stand for a new user
abbrev pub LawOfBirths : Type 0
LawOfBirths = (vault : Vault) (user : ℕ) (birth : Birth) (de ce : Files) → OpenBoth vault user birth de ce
    → SealedStands vault user (two_directories de ce) (record { birth = birth; secrets = new_secrets })

-- a directory in the temporary place is a further one for a user who is there: the slot is free; it opens with the
-- secret to the user's key, and names an entry of its own, which no other directory of the user names
pub record IsFurther (vault : Vault) (user : ℕ) (part : Part) (known : Record) (slot : Slot) (secret : List ℕ) :
    Type 0 where
  pub files : Files
  pub there : part Temp ≡ Some files
  pub free : part (Ce slot) ≡ None
  pub opens : OpensAs vault user (Ce slot) files secret (key_of vault.seed ForCe user known.birth)
  pub own : NamesOwn vault (tag_at user (Ce slot)) (Some files)
  pub differ : (site : Site) (blob : Blob) → named_at (standing part site) ≡ Some blob
      → named_at (Some files) ≡ Some blob → ⊥

-- once it is renamed into the slot, it stands there under the secret
abbrev pub LawOfAdding : Type 0
LawOfAdding = (vault : Vault) (user : ℕ) (part : Part) (known : Record) (slot : Slot) (secret : List ℕ)
    → SealedStands vault user (standing part) known → IsFurther vault user part known slot secret
    → SealedStands vault user (standing (after_local part (RenameDir Temp (Ce slot)))) (with_slot known slot secret)

-- once a slot's directory is removed, the user stands without the slot
abbrev pub LawOfDropping : Type 0
LawOfDropping = (vault : Vault) (user : ℕ) (part : Part) (known : Record) (slot : Slot)
    → SealedStands vault user (standing part) known
    → SealedStands vault user (standing (after_local part (RemoveDir (Ce slot)))) (without_slot known slot)

-- once a slot's directory is the current one, where there was none, its secret is the current slot's
abbrev pub LawOfSettling : Type 0
LawOfSettling = (vault : Vault) (user : ℕ) (part : Part) (known : Record) (slot : Slot)
    → SealedStands vault user (standing part) known → IsSome (part (Ce slot)) → part (Ce Current) ≡ None
    → SealedStands vault user (standing (after_local part (RenameDir (Ce slot) (Ce Current))))
    (settled_slot known slot)
