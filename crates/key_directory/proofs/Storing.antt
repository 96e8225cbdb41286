-- A directory as it is stored opens with its secret to its key.
use Rattle.std.proofs.Common.{◌≡◌, ℕ, ◌≤◌, false, cond, not, ◌&&◌, List}
use Rattle.std.proofs.Common.{[], ◌∷◌, length, refl, sym, ap, ◌∙◌, eq-eqb}
use Rattle.std.specs.Prelude.{Option, Some, None, is_some, nat_le}
use Rattle.std.proofs.lemmas.Bool.{le-leb}
use Rattle.tree_model.specs.declared.blobs.Blob.{Blob}
use Rattle.tree_model.specs.declared.files.FileName.{FileName}
use Rattle.tree_model.specs.declared.files.FileName.TheVariants.{EncryptedKey, Blob as BlobFile, BlobUpgraded, BlobNew}
use Rattle.tree_model.specs.declared.files.FileName.TheVariants.{Discard}
use Rattle.tree_model.specs.Blobs.{blob_total, blob_exact}
use Rattle.tree_model.specs.Tree.{if_there}
use Rattle.tree_model.proofs.Maps.{tied}
use Rattle.journal_model.specs.Hashes.{app_id_of, wrap_key_of}
use Rattle.seal_model.specs.Sealed.{sealed_text}
use Rattle.journal_model.specs.Sealed.{unsealed_key}
use Rattle.journal_model.proofs.SealedKeys.{sealed_keys_open}
use Rattle.keystore_model.specs.declared.entry.StoreEntry.{StoreEntry}
use Rattle.key_directory.specs.declared.shapes.ShapeFault.{ShapeFault}
use Rattle.key_directory.specs.declared.shapes.ShapeFault.TheVariants.{Length, Extra}
use Rattle.key_directory.specs.Opens.{under_entry, opens_shape}
use Rattle.key_directory.specs.Shape.{fault_if, length_fault, or_first, first_fault, tests, shape_unless, form}
use Rattle.key_directory.specs.VaultLaws.{stored, StoredOpens}

long-enough : (file : FileName) (count : ℕ) (bytes : List ℕ) → length bytes ≡ count
    → length_fault file count (Some bytes) ≡ None
long-enough file count bytes long =
    ap (λ same. fault_if (not same) (Length file (length bytes))) (eq-eqb (length bytes) count long)

-- a blob has 32 bytes
abbrev IsLong : Option Blob → Type 0
IsLong None = Unit {0}
IsLong (Some bytes) = length bytes ≡ 32

blob-long : (blob : Option Blob) → IsLong blob → length_fault BlobFile 32 blob ≡ None
blob-long None long = refl
blob-long (Some bytes) long = long-enough BlobFile 32 bytes long

unbound-none : (blob : Option Blob) (fault : ShapeFault) → fault_if (not (is_some blob) && false) fault ≡ None
unbound-none None fault = refl
unbound-none (Some bytes) fault = refl

-- the first test passes, and so do the rest
first-or : (test rest : Option ShapeFault) → test ≡ None → rest ≡ None → or_first test rest ≡ None
first-or test rest one others = ap (λ found. or_first found rest) one ∙ others

module _ (blob : Option Blob) (discard sealed : List ℕ) (blob_long : IsLong blob)
    (discard_long : length discard ≡ 16384) (sealed_long : length sealed ≡ 92) where
  pub stored-faultless : first_fault (tests (stored blob discard sealed)) ≡ None
  stored-faultless =
      first-or _ _ (long-enough EncryptedKey 92 sealed sealed_long)
      (first-or _ _ (long-enough Discard 16384 discard discard_long)
      (first-or _ _ (blob-long blob blob_long)
      (first-or _ _ (unbound-none blob (Extra BlobUpgraded))
      (first-or _ _ (unbound-none blob (Extra BlobNew)) refl))))

-- under an entry of the app id that isn't above the level
opens-under : (level : ℕ) (app_id sealed : List ℕ) (entry : StoreEntry) → entry.app_id ≡ app_id → entry.level ≤ level
    → under_entry level app_id sealed entry ≡ unsealed_key entry.key sealed
opens-under level app_id sealed entry bound low =
    ap (λ same. cond (same && nat_le entry.level level) (unsealed_key entry.key sealed) None)
    (tied blob_total blob_exact app_id entry.app_id (sym bound))
    ∙ ap (λ below. cond below (unsealed_key entry.key sealed) None) (le-leb entry.level level low)

pub stored-opens : StoredOpens
stored-opens = record {
  bound = λ entries level entry discard nonce key live bound low blob_long discard_long nonce_long key_long.
      let sealed = sealed_text entry.key nonce key in
      ap (λ fault. opens_shape entries level discard sealed
      (shape_unless fault (form (Some entry.blob) false false)) [])
      (stored-faultless (Some entry.blob) discard sealed blob_long discard_long
      (sealed_keys_open.long entry.key nonce key nonce_long key_long))
      ∙ ap (λ found. if_there found None (under_entry level (app_id_of discard []) sealed)) live
      ∙ opens-under level (app_id_of discard []) sealed entry bound low
      ∙ sealed_keys_open.opens entry.key nonce key nonce_long key_long;
  secret = λ entries level discard nonce key byte bytes discard_long nonce_long key_long.
      let wrap = wrap_key_of (app_id_of discard (byte ∷ bytes)) in
      let sealed = sealed_text wrap nonce key in
      ap (λ fault. opens_shape entries level discard sealed
      (shape_unless fault (form None false false)) (byte ∷ bytes))
      (stored-faultless None discard sealed tt discard_long (sealed_keys_open.long wrap nonce key nonce_long key_long))
      ∙ sealed_keys_open.opens wrap nonce key nonce_long key_long;
}
