-- What a sealed directory opens to. Its key lies under an entry of the keystore, where it is protected by no secret,
-- and else under the wrapping key of its discardable file and the secret.
use Rattle.std.specs.Prelude.{ℕ, ◌&&◌, cond, List, [], ◌∷◌, Option, None, Result, Ok, Err, nat_le}
use Rattle.tree_model.specs.declared.blobs.Blob.{Blob}
use Rattle.tree_model.specs.declared.files.FileName.TheVariants.{EncryptedKey, Discard}
use Rattle.tree_model.specs.Held.{Held}
use Rattle.tree_model.specs.Tree.{if_there}
use Rattle.journal_model.specs.Hashes.{app_id_of, wrap_key_of}
use Rattle.journal_model.specs.Sealed.{unsealed_key}
use Rattle.keystore_model.specs.declared.entry.StoreEntry.{StoreEntry}
use Rattle.keystore_model.specs.Store.{entry_of, same_bytes}
use Rattle.key_directory.specs.declared.shapes.DirShape.{DirShape}
use Rattle.key_directory.specs.declared.shapes.DirShape.TheVariants.{Bound, Secret}
use Rattle.key_directory.specs.declared.shapes.ShapeFault.{ShapeFault}
use Rattle.key_directory.specs.Shape.{shape_of}

abbrev pub bytes_at : Option (List ℕ) → List ℕ
bytes_at found = if_there found [] (λ bytes. bytes)

-- under the entry of the named blob, which has this app id and is at most at the store's level
abbrev pub under_entry : ℕ → List ℕ → List ℕ → StoreEntry → Option (List ℕ)
under_entry level app_id sealed entry =
    cond (same_bytes app_id entry.app_id && nat_le entry.level level) (unsealed_key entry.key sealed) None

-- under the wrapping key of the discardable file and the secret
abbrev pub under_secret : List ℕ → List ℕ → List ℕ → Option (List ℕ)
under_secret discard sealed secret = unsealed_key (wrap_key_of (app_id_of discard secret)) sealed

abbrev pub opens_bound : List StoreEntry → ℕ → List ℕ → List ℕ → Blob → List ℕ → Option (List ℕ)
opens_bound entries level discard sealed blob [] =
    if_there (entry_of entries blob) None (under_entry level (app_id_of discard []) sealed)
opens_bound entries level discard sealed blob (byte ∷ bytes) = None

abbrev pub opens_secret : List ℕ → List ℕ → List ℕ → Option (List ℕ)
opens_secret discard sealed [] = None
opens_secret discard sealed (byte ∷ bytes) = under_secret discard sealed (byte ∷ bytes)

abbrev pub opens_shape : List StoreEntry → ℕ → List ℕ → List ℕ → Result DirShape ShapeFault → List ℕ → Option (List ℕ)
opens_shape entries level discard sealed (Err fault) secret = None
opens_shape entries level discard sealed (Ok (Bound blob upgraded has_new)) secret =
    opens_bound entries level discard sealed blob secret
opens_shape entries level discard sealed (Ok Secret) secret = opens_secret discard sealed secret

-- the key of 64 bytes that a directory opens to with a secret
abbrev pub opens : List StoreEntry → ℕ → Held → List ℕ → Option (List ℕ)
opens entries level held secret =
    opens_shape entries level (bytes_at (held Discard)) (bytes_at (held EncryptedKey)) (shape_of held) secret
