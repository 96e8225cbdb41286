-- What a memory keystore makes of an entry's number: its blob and its key.
use Rattle.std.specs.Prelude.{◌≡◌, ◌≢◌, ℕ, ◌<◌, ◌^◌, zero, suc, List, [], ◌∷◌, ◌++◌, length, replicate, codes}
use Rattle.std.specs.Int.{w64, to_be_bytes}
use Rattle.tree_model.specs.declared.blobs.Blob.{Blob}
use Rattle.journal_model.specs.Hashes.{prefixed_hash, half_of}
use Rattle.keystore_model.specs.declared.entry.Tag.{Tag}
use Rattle.keystore_model.specs.Store.{Store, generated}

-- the number in 8 bytes, high byte first, and 24 zeros
unfoldable pub blob_of_number : ℕ → Blob
blob_of_number number = to_be_bytes w64 number ++ replicate 24 0

-- the first half of the hash of the number in 8 bytes, high byte first, behind a prefix
unfoldable pub key_of_number : ℕ → List ℕ
key_of_number number = half_of (prefixed_hash (codes "vold keystore key") (to_be_bytes w64 number))

-- the blob is that of the number
pub record IsNumberOf (blob : Blob) (number : ℕ) : Type 0 where
  pub small : number < 2 ^ 64
  pub is : blob ≡ blob_of_number number

-- the blob is that of no number
abbrev pub IsNoNumber : Blob → Type 0
IsNoNumber blob = (number : ℕ) → number < 2 ^ 64 → blob ≢ blob_of_number number

-- the blobs of the first numbers, in order
abbrev pub first_blobs : ℕ → List Blob
first_blobs zero = []
first_blobs (suc count) = first_blobs count ++ blob_of_number count ∷ []

-- the blob of the next entry, whose number is how many blobs were given
abbrev pub next_blob : Store → Blob
next_blob store = blob_of_number (length store.given)

-- the store with its next entry
abbrev pub numbered : Store → Tag → List ℕ → Store
numbered store tag app_id = generated store (next_blob store) tag app_id (key_of_number (length store.given))
