-- What the credential directories of a user who is there open to with a secret, and what tells whether one may open.
use Rattle.std.specs.Prelude.{◌≡◌, ◌≢◌, ℕ, Bool, true, false, List, [], ◌∷◌, length, Option, Some, None, Result, Ok}
use Rattle.std.specs.Prelude.{Contains}
use Rattle.std.specs.FinMap as maps
use Rattle.tree_model.specs.declared.blobs.Blob.{Blob}
use Rattle.tree_model.specs.declared.files.FileName.TheVariants.{EncryptedKey, Discard}
use Rattle.tree_model.specs.declared.places.Class.TheVariants.{Ce as ForCe}
use Rattle.tree_model.specs.declared.places.Slot.{Slot}
use Rattle.tree_model.specs.declared.sites.Site.TheVariants.{Ce}
use Rattle.tree_model.specs.Dir.{Files}
use Rattle.tree_model.specs.Held.{held_in}
use Rattle.tree_model.specs.Named.{named_at}
use Rattle.tree_model.specs.Parts.{Part, standing}
use Rattle.tree_model.specs.Tree.{if_there}
use Rattle.journal_model.specs.Hashes.{app_id_of, wrap_key_of}
use Rattle.journal_model.specs.Made.{key_of}
use Rattle.journal_model.specs.Sealed.{unsealed_key, key_of as key_in_text}
use Rattle.journal_model.specs.Users.{Record, HasSecret}
use Rattle.keystore_model.specs.declared.entry.Decrypted.{Decrypted}
use Rattle.keystore_model.specs.declared.entry.Decrypted.TheVariants.{Key, Invalid}
use Rattle.keystore_model.specs.declared.entry.StoreEntry.{StoreEntry}
use Rattle.keystore_model.specs.Sealed.{entry_answer}
use Rattle.keystore_model.specs.Store.{entry_of, IsLive}
use Rattle.key_directory.specs.declared.shapes.DirShape.{DirShape}
use Rattle.key_directory.specs.declared.shapes.DirShape.TheVariants.{Bound, Secret}
use Rattle.key_directory.specs.declared.shapes.ShapeFault.{ShapeFault}
use Rattle.key_directory.specs.Opens.{bytes_at, opens}
use Rattle.key_directory.specs.Shape.{shape_of}
use Rattle.key_directory.specs.Vaults.{Vault, Attempts, NoChanceMatch, SealedStands, KeepsEntry}

-- every entry is at the store's level
abbrev pub AreCurrent : Vault → Type 0
AreCurrent vault =
    (blob : Blob) (entry : StoreEntry) → entry_of vault.entries blob ≡ Some entry → entry.level ≡ vault.level

-- the secret is the empty one or among those that were given
abbrev pub WasGiven : Attempts → List ℕ → Type 0
WasGiven attempts secret = secret ≢ [] → Contains attempts.secrets secret

-- a directory opens with the secret to this key, or to nothing, and what it names has an entry
pub record OpensTo (vault : Vault) (files : Files) (secret : List ℕ) (key : Option (List ℕ)) : Type 0 where
  pub live : (blob : Blob) → named_at (Some files) ≡ Some blob → IsLive vault.entries blob
  pub opens_to : opens vault.entries vault.level (held_in files) secret ≡ key

-- whether a directory that names this may open with the secret: one that names a blob with the empty secret, and one
-- that names none with another
abbrev pub fits_secret : Option Blob → List ℕ → Bool
fits_secret None [] = false
fits_secret None (byte ∷ bytes) = true
fits_secret (Some blob) [] = true
fits_secret (Some blob) (byte ∷ bytes) = false

-- the directory has a shape, which may open with the secret
abbrev pub FitsShape : Result DirShape ShapeFault → List ℕ → Type 0
FitsShape (Ok (Bound blob upgraded has_new)) [] = Unit {0}
FitsShape (Ok Secret) (byte ∷ bytes) = Unit {0}
FitsShape shape secret = ⊥

abbrev pub FitsFiles : Files → List ℕ → Type 0
FitsFiles files secret = FitsShape (shape_of (held_in files)) secret

-- the key in a keystore's answer, where it is one of 64 bytes
abbrev pub key_in_answer : Decrypted → Option (List ℕ)
key_in_answer (Key text) = key_in_text text
key_in_answer answer = None

-- what a keystore answers to a sealed text
abbrev pub answer_in : Vault → Blob → List ℕ → List ℕ → Decrypted
answer_in vault blob app_id sealed =
    if_there (entry_of vault.entries blob) Invalid (entry_answer vault.level app_id sealed)

-- the sealed key of a directory, and its discardable file
abbrev pub sealed_at : Files → List ℕ
sealed_at files = bytes_at (held_in files EncryptedKey)

abbrev pub discard_at : Files → List ℕ
discard_at files = bytes_at (held_in files Discard)

-- a directory whose shape fits the secret has a sealed key of 92 bytes; with the empty secret it names a blob, and
-- opens as the keystore answers; and with another it opens under the secret's wrapping key
pub record LawOfFitting : Type 0 where
  pub long : (files : Files) (secret : List ℕ) → FitsFiles files secret → length (sealed_at files) ≡ 92
  pub names : (files : Files) → FitsFiles files [] → (blob : Blob) × (named_at (Some files) ≡ Some blob)
      × (length blob ≡ 32)
  pub bound : (vault : Vault) (files : Files) (blob : Blob) → AreCurrent vault → FitsFiles files []
      → named_at (Some files) ≡ Some blob
      → opens vault.entries vault.level (held_in files) []
      ≡ key_in_answer (answer_in vault blob (app_id_of (discard_at files) []) (sealed_at files))
  pub secret : (vault : Vault) (files : Files) (byte : ℕ) (bytes : List ℕ) → FitsFiles files (byte ∷ bytes)
      → opens vault.entries vault.level (held_in files) (byte ∷ bytes)
      ≡ unsealed_key (wrap_key_of (app_id_of (discard_at files) (byte ∷ bytes))) (sealed_at files)

-- of the directory in a slot of a user who is there: what it names has an entry; it opens to nothing with a secret
-- that doesn't fit what it names; one that fits what it names fits its shape; and where no tag matched by chance, a
-- secret that was given opens it only where the slot is under it, and to the user's key
pub record SlotTells (vault : Vault) (user : ℕ) (known : Record) (slot : Slot) (files : Files) (given : List ℕ) :
    Type 0 where
  pub live : (blob : Blob) → named_at (Some files) ≡ Some blob → IsLive vault.entries blob
  pub misfit : fits_secret (named_at (Some files)) given ≡ false → OpensTo vault files given None
  pub fit : fits_secret (named_at (Some files)) given ≡ true → FitsFiles files given
  pub under : NoChanceMatch (vault.attempts user) → WasGiven (vault.attempts user) given → (key : List ℕ)
      → opens vault.entries vault.level (held_in files) given ≡ Some key → maps.get known.secrets slot ≡ Some given
  pub right : NoChanceMatch (vault.attempts user) → WasGiven (vault.attempts user) given → (key : List ℕ)
      → opens vault.entries vault.level (held_in files) given ≡ Some key
      → key ≡ key_of vault.seed ForCe user known.birth

abbrev pub LawOfSlots : Type 0
LawOfSlots = (vault : Vault) (user : ℕ) (part : Part) (known : Record) (slot : Slot) (files : Files) (given : List ℕ)
    → SealedStands vault user (standing part) known → part (Ce slot) ≡ Some files
    → SlotTells vault user known slot files given

-- where no directory of the user opens with the secret, none of the user's slots is under it
abbrev pub LawOfWrongSecrets : Type 0
LawOfWrongSecrets = (vault : Vault) (user : ℕ) (part : Part) (known : Record) (given : List ℕ)
    → SealedStands vault user (standing part) known
    → ((slot : Slot) (files : Files) → part (Ce slot) ≡ Some files
    → opens vault.entries vault.level (held_in files) given ≡ None)
    → ¬ (HasSecret known given)

-- a directory opens to what it opened to, or to nothing, while the entry of what it names stays
abbrev pub LawOfKeptOpening : Type 0
LawOfKeptOpening = (before after : Vault) (files : Files) (secret : List ℕ) (key : Option (List ℕ))
    → after.level ≡ before.level
    → ((blob : Blob) → named_at (Some files) ≡ Some blob → KeepsEntry before after blob)
    → OpensTo before files secret key → OpensTo after files secret key
