-- What sealed directories stand for, given what there is to open them with: a keystore's entries and level, the
-- script's seed, and what a user's commands did with secrets.
use Rattle.std.specs.Prelude.{◌≡◌, ◌≢◌, ℕ, ◌≤◌, List, [], Option, Some, None, Contains}
use Rattle.std.specs.FinMap as map
use Rattle.tree_model.specs.declared.blobs.Blob.{Blob}
use Rattle.tree_model.specs.declared.files.FileName.TheVariants.{EncryptedKey, Discard}
use Rattle.tree_model.specs.declared.places.Class.{Class}
use Rattle.tree_model.specs.declared.places.Class.TheVariants.{De as ForDe, Ce as ForCe}
use Rattle.tree_model.specs.declared.sites.Site.{Site}
use Rattle.tree_model.specs.declared.sites.Site.TheVariants.{De, Ce, Temp}
use Rattle.tree_model.specs.Dir.{Files}
use Rattle.tree_model.specs.Held.{held_in}
use Rattle.tree_model.specs.Named.{named_at}
use Rattle.tree_model.specs.Parts.{Part}
use Rattle.journal_model.specs.Hashes.{app_id_of, wrap_key_of}
use Rattle.journal_model.specs.Made.{key_of}
use Rattle.seal_model.specs.Sealed.{sealed_text}
use Rattle.journal_model.specs.Users.{Record}
use Rattle.keystore_model.specs.declared.entry.StoreEntry.{StoreEntry}
use Rattle.keystore_model.specs.declared.entry.Tag.{Tag}
use Rattle.keystore_model.specs.Store.{entry_of}
use Rattle.user_world.specs.Meaning.{Meaning}
use Rattle.key_directory.specs.Opens.{opens, under_secret}

-- a directory that was made for a user under a secret
pub record Addition : Type 0 where
  pub discard : List ℕ
  pub nonce : List ℕ
  pub key : List ℕ
  pub secret : List ℕ

-- what a user's commands added under secrets, and the secrets that they gave
pub record Attempts : Type 0 where
  pub additions : List Addition
  pub secrets : List (List ℕ)

-- the sealed key of a directory that was made so
abbrev pub sealed_in : Addition → List ℕ
sealed_in added = sealed_text (wrap_key_of (app_id_of added.discard added.secret)) added.nonce added.key

-- no tag matched by chance: no secret that was given opens what was added under another one
pub record NoChanceMatch (attempts : Attempts) : Type 0 where
  pub none : (added : Addition) (secret : List ℕ) → Contains attempts.additions added
      → Contains attempts.secrets secret
      → secret ≢ added.secret → under_secret added.discard (sealed_in added) secret ≡ None

-- what directories are opened with
pub record Vault : Type 0 where
  pub entries : List StoreEntry
  pub level : ℕ
  pub seed : List ℕ
  pub attempts : ℕ → Attempts

abbrev pub class_of : Site → Class
class_of De = ForDe
class_of site = ForCe

abbrev pub tag_at : ℕ → Site → Tag
tag_at user site = record { user = user; class = class_of site }

-- the blob has an entry of this tag, at most at the store's level
pub record HasEntry (vault : Vault) (tag : Tag) (blob : Blob) : Type 0 where
  pub entry : StoreEntry
  pub live : entry_of vault.entries blob ≡ Some entry
  pub tagged : entry.tag ≡ tag
  pub low : entry.level ≤ vault.level

-- what a directory names is its own
abbrev pub NamesOwn : Vault → Tag → Option Files → Type 0
NamesOwn vault tag found = (blob : Blob) → named_at found ≡ Some blob → HasEntry vault tag blob

-- that the key is the right one is said of a device key, and of a credential key where no tag matched by chance
abbrev pub SureOf : Attempts → Class → Type 0
SureOf attempts ForDe = Unit {0}
SureOf attempts ForCe = NoChanceMatch attempts

abbrev pub SureAt : Attempts → Site → Type 0
SureAt attempts site = SureOf attempts (class_of site)

-- the directory is as it was made under the secret
pub record IsMade (attempts : Attempts) (files : Files) (secret : List ℕ) : Type 0 where
  pub added : Addition
  pub has : Contains attempts.additions added
  pub under : added.secret ≡ secret
  pub discard : map.get files Discard ≡ Some added.discard
  pub sealed : map.get files EncryptedKey ≡ Some (sealed_in added)

-- it opens with the secret to a key, which is the right one; and under a secret that isn't empty it is as it was made,
-- where no tag matched by chance
pub record OpensAs (vault : Vault) (user : ℕ) (site : Site) (files : Files) (secret key : List ℕ) : Type 0 where
  pub opened : List ℕ
  pub opens_to : opens vault.entries vault.level (held_in files) secret ≡ Some opened
  pub right : SureAt (vault.attempts user) site → opened ≡ key
  pub made : NoChanceMatch (vault.attempts user) → secret ≢ [] → IsMade (vault.attempts user) files secret

-- the directory is there exactly where a secret is recorded, and opens with it
abbrev pub OpensAt : Vault → ℕ → Site → Option Files → Option (List ℕ) → List ℕ → Type 0
OpensAt vault user site None None key = Unit {0}
OpensAt vault user site None (Some secret) key = ⊥
OpensAt vault user site (Some files) None key = ⊥
OpensAt vault user site (Some files) (Some secret) key = OpensAs vault user site files secret key

-- the secret that is recorded for a directory
abbrev pub secret_at : Record → Site → Option (List ℕ)
secret_at known De = Some []
secret_at known (Ce slot) = map.get known.secrets slot
secret_at known Temp = None

-- the directories are those of the recorded secrets and open with them, each names an entry of its own, and no two
-- name one
pub record SealedStands (vault : Vault) (user : ℕ) (part : Part) (known : Record) : Type 0 where
  pub opens : (site : Site) → OpensAt vault user site (part site) (secret_at known site)
      (key_of vault.seed (class_of site) user known.birth)
  pub own : (site : Site) → NamesOwn vault (tag_at user site) (part site)
  pub apart : (site other : Site) (blob : Blob) → named_at (part site) ≡ Some blob → named_at (part other) ≡ Some blob
      → site ≡ other

abbrev pub sealed : Vault → Meaning
sealed vault = record { stands = SealedStands vault }

-- more was tried
pub record Extends (before after : Attempts) : Type 0 where
  pub additions : (added : Addition) → Contains before.additions added → Contains after.additions added
  pub secrets : (secret : List ℕ) → Contains before.secrets secret → Contains after.secrets secret

-- the level may have risen, and more may have been tried
pub record Later (before after : Vault) : Type 0 where
  pub level : before.level ≤ after.level
  pub seed : after.seed ≡ before.seed
  pub attempts : (user : ℕ) → Extends (before.attempts user) (after.attempts user)

-- the blob's entry stays
abbrev pub KeepsEntry : Vault → Vault → Blob → Type 0
KeepsEntry before after blob =
    (entry : StoreEntry) → entry_of before.entries blob ≡ Some entry → entry_of after.entries blob ≡ Some entry
