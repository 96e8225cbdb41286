-- What a keystore seals, and what it answers to a sealed text.
use Rattle.std.specs.Prelude.{ℕ, ◌==◌, ◌&&◌, cond, List, [], Option, Some, None, nat_le}
use Rattle.seal_model.specs.Sealed.{sealed_text, unsealed}
use Rattle.tree_model.specs.declared.blobs.Blob.{Blob}
use Rattle.tree_model.specs.Tree.{if_there}
use Rattle.keystore_model.specs.declared.entry.StoreEntry.{StoreEntry}
use Rattle.keystore_model.specs.declared.entry.Decrypted.{Decrypted}
use Rattle.keystore_model.specs.declared.entry.Decrypted.TheVariants.{Key, NeedsUpgrade, Invalid, BadTag}
use Rattle.keystore_model.specs.Store.{Store, entry_of, same_bytes}

-- a text sealed under the key of a blob's entry
abbrev pub encrypted : Store → Blob → List ℕ → List ℕ → List ℕ
encrypted store blob nonce text =
    if_there (entry_of store.entries blob) [] (λ entry. sealed_text entry.key nonce text)

abbrev pub text_or : Option (List ℕ) → Decrypted
text_or None = BadTag
text_or (Some text) = Key text

-- an entry's answer at a level: it must have the app id and a level that isn't above this one, and then this level
abbrev pub entry_answer : ℕ → List ℕ → List ℕ → StoreEntry → Decrypted
entry_answer level app_id sealed entry =
    cond (same_bytes app_id entry.app_id && nat_le entry.level level)
    (cond (entry.level == level) (text_or (unsealed entry.key sealed)) NeedsUpgrade) Invalid

-- what a keystore answers to a sealed text, for an entry and an app id
abbrev pub decrypted : Store → Blob → List ℕ → List ℕ → Decrypted
decrypted store blob app_id sealed =
    if_there (entry_of store.entries blob) Invalid (entry_answer store.level app_id sealed)
