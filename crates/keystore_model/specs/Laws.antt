-- The laws of a keystore's calls: a store stays one, what is found in it afterwards, and what it answers.
use Rattle.std.specs.Prelude.{◌≡◌, ◌≢◌, ℕ, ◌<◌, List, length, Some, None, Contains}
use Rattle.tree_model.specs.declared.blobs.Blob.{Blob}
use Rattle.keystore_model.specs.declared.entry.Tag.{Tag}
use Rattle.keystore_model.specs.declared.entry.StoreEntry.{StoreEntry}
use Rattle.keystore_model.specs.declared.entry.Decrypted.TheVariants.{Key, NeedsUpgrade, Invalid, BadTag}
use Rattle.seal_model.specs.Sealed.{unsealed}
use Rattle.keystore_model.specs.Sealed.{encrypted, decrypted}
use Rattle.keystore_model.specs.Store.{IsCurrent, Store, IsStore, entry_of, empty_store}
use Rattle.keystore_model.specs.Store.{new_entry, generated, deleted, at_level}

-- a blob that is generated is found with its entry, and each other one as before
pub record AfterGenerate (store : Store) (blob : Blob) (tag : Tag) (app_id key : List ℕ) : Type 0 where
  pub whole : IsStore (generated store blob tag app_id key)
  pub found : entry_of (generated store blob tag app_id key).entries blob ≡ Some (new_entry store blob tag app_id key)
  pub others : (other : Blob) → other ≢ blob
      → entry_of (generated store blob tag app_id key).entries other ≡ entry_of store.entries other

abbrev pub LawOfGenerated : Type 0
LawOfGenerated =
    (store : Store) (blob : Blob) (tag : Tag) (app_id key : List ℕ) → IsStore store → ¬ (Contains store.given blob)
    → AfterGenerate store blob tag app_id key

-- a blob that is deleted isn't found, and each other one is as before
pub record AfterDelete (store : Store) (blob : Blob) : Type 0 where
  pub whole : IsStore (deleted store blob)
  pub gone : entry_of (deleted store blob).entries blob ≡ None
  pub others : (other : Blob) → other ≢ blob
      → entry_of (deleted store blob).entries other ≡ entry_of store.entries other

abbrev pub LawOfDeleted : Type 0
LawOfDeleted = (store : Store) (blob : Blob) → IsStore store → AfterDelete store blob

-- an empty store is one at each level, and a store stays one at another level
pub record LawOfLevels : Type 0 where
  pub empty : (level : ℕ) → IsStore (empty_store level)
  pub moved : (store : Store) (level : ℕ) → IsStore store → IsStore (at_level store level)

-- the answer to a sealed text by the entry that is found: none, of another app id, or above the store's level; below
-- it; and else what the sealed text opens to
pub record AnswersDecrypt (store : Store) (blob : Blob) (app_id sealed : List ℕ) : Type 0 where
  pub absent : entry_of store.entries blob ≡ None → decrypted store blob app_id sealed ≡ Invalid
  pub unbound : (entry : StoreEntry) → entry_of store.entries blob ≡ Some entry → app_id ≢ entry.app_id
      → decrypted store blob app_id sealed ≡ Invalid
  pub above : (entry : StoreEntry) → entry_of store.entries blob ≡ Some entry → store.level < entry.level
      → decrypted store blob app_id sealed ≡ Invalid
  pub below : (entry : StoreEntry) → entry_of store.entries blob ≡ Some entry → app_id ≡ entry.app_id
      → entry.level < store.level
      → decrypted store blob app_id sealed ≡ NeedsUpgrade
  pub bad_tag : (entry : StoreEntry) → entry_of store.entries blob ≡ Some entry → app_id ≡ entry.app_id
      → entry.level ≡ store.level
      → unsealed entry.key sealed ≡ None → decrypted store blob app_id sealed ≡ BadTag
  pub opened : (entry : StoreEntry) → entry_of store.entries blob ≡ Some entry → app_id ≡ entry.app_id
      → entry.level ≡ store.level
      → (text : List ℕ) → unsealed entry.key sealed ≡ Some text → decrypted store blob app_id sealed ≡ Key text

abbrev pub LawOfDecrypted : Type 0
LawOfDecrypted = (store : Store) (blob : Blob) (app_id sealed : List ℕ) → AnswersDecrypt store blob app_id sealed

-- what was encrypted is decrypted
abbrev pub LawOfEncrypted : Type 0
LawOfEncrypted =
    (store : Store) (blob : Blob) (app_id nonce text : List ℕ) → IsCurrent store blob app_id → length nonce ≡ 12
    → decrypted store blob app_id (encrypted store blob nonce text) ≡ Key text
