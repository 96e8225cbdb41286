-- What a directory whose shape fits a secret holds and names, and what it opens to with the secret.
use Rattle.std.proofs.Common.{◌≡◌, ℕ, Bool, true, false, cond, not, List, [], ◌∷◌, length, refl, ap, ◌∙◌, eq-eqb}
use Rattle.std.specs.Prelude.{Option, Some, None, is_some, option_and_then}
use Rattle.std.proofs.lemmas.Bool.{eqb-true}
use Rattle.tree_model.specs.declared.blobs.Blob.{Blob}
use Rattle.tree_model.specs.declared.files.FileName.{FileName}
use Rattle.tree_model.specs.declared.files.FileName.TheVariants.{EncryptedKey, Blob as BlobFile, BlobUpgraded}
use Rattle.tree_model.specs.Dir.{Files}
use Rattle.tree_model.specs.Held.{held_in, or_else, blob_in}
use Rattle.tree_model.specs.Tree.{if_there}
use Rattle.seal_model.specs.Sealed.{unsealed}
use Rattle.journal_model.specs.Hashes.{app_id_of}
use Rattle.journal_model.specs.Sealed.{key_of as key_in_text}
use Rattle.keystore_model.specs.declared.entry.Decrypted.TheVariants.{NeedsUpgrade, Invalid}
use Rattle.keystore_model.specs.declared.entry.StoreEntry.{StoreEntry}
use Rattle.keystore_model.specs.Sealed.{text_or, entry_answer}
use Rattle.keystore_model.specs.Store.{entry_of}
use Rattle.key_directory.specs.declared.shapes.DirShape.{DirShape}
use Rattle.key_directory.specs.declared.shapes.ShapeFault.{ShapeFault}
use Rattle.key_directory.specs.declared.shapes.ShapeFault.TheVariants.{Missing, Length}
use Rattle.key_directory.specs.Opened.{FitsShape, FitsFiles, key_in_answer, sealed_at, discard_at, LawOfFitting}
use Rattle.key_directory.specs.Opens.{bytes_at, under_entry, under_secret, opens_shape}
use Rattle.key_directory.specs.Shape.{fault_if, length_fault, first_fault, tests, shape_unless, form}

-- a shape that fits a secret has no fault
fits-passes : (fault : Option ShapeFault) (shape : DirShape) (secret : List ℕ)
    → FitsShape (shape_unless fault shape) secret → fault ≡ None
fits-passes None shape secret fits = refl
fits-passes (Some fault) shape secret fits = absurd fits

-- each test passes
abbrev ArePassed : List (Option ShapeFault) → Type 0
ArePassed [] = Unit {0}
ArePassed (fault ∷ faults) = (fault ≡ None) × ArePassed faults

each-passes : (faults : List (Option ShapeFault)) → first_fault faults ≡ None → ArePassed faults
each-passes [] e = tt
each-passes (None ∷ faults) e = (refl, each-passes faults e)
each-passes (Some fault ∷ faults) e = cc

passes : (files : Files) (secret : List ℕ) → FitsFiles files secret → ArePassed (tests (held_in files))
passes files secret fits = each-passes (tests (held_in files)) (fits-passes _ _ secret fits)

no-fault : (same : Bool) (fault : ShapeFault) → fault_if (not same) fault ≡ None → same ≡ true
no-fault true fault e = refl
no-fault false fault e = cc

long-at : (file : FileName) (count : ℕ) (bytes : List ℕ) → length_fault file count (Some bytes) ≡ None
    → length bytes ≡ count
long-at file count bytes e = eqb-true (length bytes) count (no-fault _ (Length file (length bytes)) e)

sealed-long : (key : Option (List ℕ)) → fault_if (not (is_some key)) (Missing EncryptedKey) ≡ None
    → length_fault EncryptedKey 92 key ≡ None → length (bytes_at key) ≡ 92
sealed-long None there long = cc
sealed-long (Some bytes) there long = long-at EncryptedKey 92 bytes long

blob-long : (upgraded name : Option Blob) (blob : Blob) → length_fault BlobUpgraded 32 upgraded ≡ None
    → length_fault BlobFile 32 name ≡ None → or_else upgraded name ≡ Some blob → length blob ≡ 32
blob-long None None blob long also names = cc
blob-long None (Some bytes) blob long also names =
    let same : blob ≡ bytes = cc in ap length same ∙ long-at BlobFile 32 bytes also
blob-long (Some bytes) name blob long also names =
    let same : blob ≡ bytes = cc in ap length same ∙ long-at BlobUpgraded 32 bytes long

-- the empty secret fits a shape that names a blob
fits-named : (fault : Option ShapeFault) (name : Option Blob) (upgraded has_new : Bool)
    → FitsShape (shape_unless fault (form name upgraded has_new)) [] → (blob : Blob) × (name ≡ Some blob)
fits-named None None upgraded has_new fits = absurd fits
fits-named None (Some blob) upgraded has_new fits = (blob, refl)
fits-named (Some fault) name upgraded has_new fits = absurd fits

module _ (entries : List StoreEntry) (level : ℕ) (discard sealed : List ℕ) where
  opens-named : (fault : Option ShapeFault) (name : Option Blob) (upgraded has_new : Bool) (blob : Blob)
      → FitsShape (shape_unless fault (form name upgraded has_new)) [] → name ≡ Some blob
      → opens_shape entries level discard sealed (shape_unless fault (form name upgraded has_new)) []
      ≡ if_there (entry_of entries blob) None (under_entry level (app_id_of discard []) sealed)
  opens-named None None upgraded has_new blob fits names = absurd fits
  opens-named None (Some other) upgraded has_new blob fits names =
      let same : other ≡ blob = cc in
      ap (λ b. if_there (entry_of entries b) None (under_entry level (app_id_of discard []) sealed)) same
  opens-named (Some fault) name upgraded has_new blob fits names = absurd fits

  opens-secret : (fault : Option ShapeFault) (name : Option Blob) (upgraded has_new : Bool) (byte : ℕ)
      (bytes : List ℕ) → FitsShape (shape_unless fault (form name upgraded has_new)) (byte ∷ bytes)
      → opens_shape entries level discard sealed (shape_unless fault (form name upgraded has_new)) (byte ∷ bytes)
      ≡ under_secret discard sealed (byte ∷ bytes)
  opens-secret None None upgraded has_new byte bytes fits = refl
  opens-secret None (Some blob) upgraded has_new byte bytes fits = absurd fits
  opens-secret (Some fault) name upgraded has_new byte bytes fits = absurd fits

-- an entry at the store's level opens a sealed text as the keystore answers
answer-tells : (bound current : Bool) (text : Option (List ℕ)) → current ≡ true
    → cond bound (option_and_then key_in_text text) None
    ≡ key_in_answer (cond bound (cond current (text_or text) NeedsUpgrade) Invalid)
answer-tells false current text e = refl
answer-tells true false text e = cc
answer-tells true true None e = refl
answer-tells true true (Some text) e = refl

entry-tells : (level : ℕ) (app_id sealed : List ℕ) (found : Option StoreEntry)
    → ((entry : StoreEntry) → found ≡ Some entry → entry.level ≡ level)
    → if_there found None (under_entry level app_id sealed)
    ≡ key_in_answer (if_there found Invalid (entry_answer level app_id sealed))
entry-tells level app_id sealed None current = refl
entry-tells level app_id sealed (Some entry) current =
    answer-tells _ _ (unsealed entry.key sealed) (eq-eqb entry.level level (current entry refl))

pub fitting : LawOfFitting
fitting = record {
  long = λ files secret fits.
      let all = passes files secret fits in sealed-long (held_in files EncryptedKey) all.1.0 all.1.1.1.0;
  names = λ files fits.
      let all = passes files [] fits in
      let named = fits-named _ (blob_in (held_in files)) _ _ fits in (
        named.0,
        named.1,
        blob-long (held_in files BlobUpgraded) (held_in files BlobFile) named.0
            all.1.1.1.1.1.1.0 all.1.1.1.1.1.0 named.1,
      );
  bound = λ vault files blob current fits names.
      opens-named vault.entries vault.level (discard_at files) (sealed_at files) _ (blob_in (held_in files)) _ _ blob
      fits names
      ∙ entry-tells vault.level (app_id_of (discard_at files) []) (sealed_at files) (entry_of vault.entries blob)
      (current blob);
  secret = λ vault files byte bytes fits.
      opens-secret vault.entries vault.level (discard_at files) (sealed_at files) _ (blob_in (held_in files)) _ _ byte
      bytes fits;
}
