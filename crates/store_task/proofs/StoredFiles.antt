-- The files that a task has written at the end are those of a stored directory, which opens.
use Rattle.std.proofs.Common.{◌≡◌, ◌≢◌, ℕ, cond, List, [], ◌∷◌, length, refl, sym, ap, ◌∙◌, subst, arith, inl, inr}
use Rattle.std.specs.Prelude.{Option, Some, None}
use Rattle.std.specs.FinMap as map
use Rattle.tree_model.specs.declared.blobs.Blob.{Blob}
use Rattle.tree_model.specs.declared.files.FileName.{FileName}
use Rattle.tree_model.specs.declared.files.FileName.TheVariants.{Version, EncryptedKey, Blob as BlobFile, BlobUpgraded}
use Rattle.tree_model.specs.declared.files.FileName.TheVariants.{BlobNew, Discard, Stretching, Salt}
use Rattle.tree_model.specs.Files.{file_cmp, file_total}
use Rattle.tree_model.specs.Dir.{Files}
use Rattle.tree_model.specs.Held.{Held, held_in, with_file}
use Rattle.tree_model.specs.Named.{named_at}
use Rattle.tree_model.proofs.Parts.{fun_ext}
use Rattle.seal_model.specs.Sealed.{sealed_text}
use Rattle.keystore_model.specs.declared.entry.StoreEntry.{StoreEntry}
use Rattle.keystore_model.specs.declared.entry.Tag.{Tag}
use Rattle.keystore_model.specs.Store.{entry_of, same_bytes}
use Rattle.keystore_model.proofs.Stores.{decide-bytes, bytes-apart, bytes-same}
use Rattle.journal_model.specs.Hashes.{app_id_of, wrap_key_of}
use Rattle.key_directory.specs.Opens.{opens}
use Rattle.key_directory.specs.Shape.{version_bytes}
use Rattle.key_directory.specs.VaultLaws.{stored}
use Rattle.key_directory.specs.Vaults.{Vault, NamesOwn}
use Rattle.key_directory.proofs.Storing.{stored-opens}
use Rattle.tree_model.specs.Held.{blob_in}
use Rattle.store_task.specs.declared.turns.StoreSpec.{StoreSpec}
use Rattle.store_task.specs.Laws.{LawOfStoredDirectory}
use Rattle.task_turns.specs.Shares.{Share, Has, AllHas, IsSealedFor}
use Rattle.store_task.specs.Task.{IsBoundBy, IsStage, facts_at, sealing}
use Rattle.store_task.specs.Task.{with_version, with_discard, with_blob, all_files}

-- a file that is written is held
held-insert : (files : Files) (file : FileName) (bytes : List ℕ)
    → held_in (map.insert files file bytes) ≡ with_file (held_in files) file (Some bytes)
held-insert files file bytes = fun_ext _ _ (λ at. map.get-insert file_total files file bytes at)

held-none : held_in map.empty ≡ (λ at. None)
held-none = fun_ext _ _ (λ at. map.get-empty file_cmp at)

held-more : (files : Files) (held : Held) (file : FileName) (bytes : List ℕ) → held_in files ≡ held
    → held_in (map.insert files file bytes) ≡ with_file held file (Some bytes)
held-more files held file bytes is = held-insert files file bytes ∙ ap (λ h. with_file h file (Some bytes)) is

held-discard : (discard : List ℕ)
    → held_in (with_discard discard)
    ≡ with_file (with_file (λ at. None) Version (Some version_bytes)) Discard (Some discard)
held-discard discard =
    held-more with_version _ Discard discard (held-more map.empty _ Version version_bytes held-none)

-- the files of a directory as it is stored
pub held-stored : (discard : List ℕ) (blob : Option Blob) (sealed : List ℕ)
    → held_in (all_files discard blob sealed) ≡ stored blob discard sealed
held-stored discard None sealed =
    held-more (with_discard discard) _ EncryptedKey sealed (held-discard discard) ∙ fun_ext _ _ files
  where
    files : (at : FileName)
        → with_file (with_file (with_file (λ at. None) Version (Some version_bytes)) Discard (Some discard))
        EncryptedKey (Some sealed) at ≡ stored None discard sealed at
    files Version = refl
    files EncryptedKey = refl
    files BlobFile = refl
    files BlobUpgraded = refl
    files BlobNew = refl
    files Discard = refl
    files Stretching = refl
    files Salt = refl
held-stored discard (Some blob) sealed =
    held-more (with_blob discard (Some blob)) _ EncryptedKey sealed
    (held-more (with_discard discard) _ BlobFile blob (held-discard discard)) ∙ fun_ext _ _ files
  where
    files : (at : FileName)
        → with_file (with_file (with_file (with_file (λ at. None) Version (Some version_bytes)) Discard (Some discard))
        BlobFile (Some blob)) EncryptedKey (Some sealed) at ≡ stored (Some blob) discard sealed at
    files Version = refl
    files EncryptedKey = refl
    files BlobFile = refl
    files BlobUpgraded = refl
    files BlobNew = refl
    files Discard = refl
    files Stretching = refl
    files Salt = refl

-- the entry that is found for a blob has this blob
entry-named : (entries : List StoreEntry) (blob : Blob) (entry : StoreEntry) → entry_of entries blob ≡ Some entry
    → blob ≡ entry.blob
entry-named [] blob entry found = cc
entry-named (first ∷ entries) blob entry found = elim (decide-bytes blob first.blob) [
  | inl same ↦
      let here : Some first ≡ Some entry =
      sym (ap (λ t. cond t (Some first) (entry_of entries blob)) (ap (same_bytes blob) (sym same) ∙ bytes-same blob))
      ∙ found in same ∙ ap (λ e. e.blob) (is-some here)
  | inr apart ↦ entry-named entries blob entry
      (sym (ap (λ t. cond t (Some first) (entry_of entries blob)) (bytes-apart blob first.blob apart)) ∙ found)
]
  where
    is-some : {a b : StoreEntry} → Some a ≡ Some b → a ≡ b
    is-some e = cc

module _ (vault : Vault) (discard nonce key : List ℕ) (discard_long : length discard ≡ 16384)
    (nonce_long : length nonce ≡ 12) (key_long : length key ≡ 64) where
  bound-opens : (blob : Blob) (tag : Tag) (sealed : List ℕ) → length blob ≡ 32
      → IsSealedFor vault blob (app_id_of discard []) tag nonce key sealed
      → opens vault.entries vault.level (held_in (all_files discard (Some blob) sealed)) [] ≡ Some key
  bound-opens blob tag sealed long has =
      let entry = has.keyed.entry in
      let named = entry-named vault.entries blob entry has.keyed.live in
      ap (λ held. opens vault.entries vault.level held []) (held-stored discard (Some blob) sealed)
      ∙ ap (λ bytes. opens vault.entries vault.level (stored (Some blob) discard bytes) []) has.sealed_so
      ∙ ap (λ b. opens vault.entries vault.level (stored (Some b) discard (sealed_text entry.key nonce key)) []) named
      ∙ stored-opens.bound vault.entries vault.level entry discard nonce key
      (subst (λ b. entry_of vault.entries b ≡ Some entry) named has.keyed.live) has.keyed.bound
      (omega (arith, has.keyed.current)) (subst (λ b. length b ≡ 32) named long) discard_long nonce_long key_long

  secret-opens : (secret sealed : List ℕ) → secret ≢ []
      → sealed ≡ sealed_text (wrap_key_of (app_id_of discard secret)) nonce key
      → opens vault.entries vault.level (held_in (all_files discard None sealed)) secret ≡ Some key
  secret-opens [] sealed some is = absurd (some refl)
  secret-opens (byte ∷ bytes) sealed some is =
      ap (λ held. opens vault.entries vault.level held (byte ∷ bytes)) (held-stored discard None sealed)
      ∙ ap (λ text. opens vault.entries vault.level (stored None discard text) (byte ∷ bytes)) is
      ∙ stored-opens.secret vault.entries vault.level discard nonce key byte bytes discard_long nonce_long key_long

-- the blob that the files name
pub files-named : (discard : List ℕ) (blob : Option Blob) (sealed : List ℕ)
    → named_at (Some (all_files discard blob sealed)) ≡ blob
files-named discard blob sealed = ap blob_in (held-stored discard blob sealed)

pub names-own : (spec : StoreSpec) (share : Share) (blob : Option Blob) (sealed : List ℕ)
    → Has (sealing spec blob sealed) share
    → NamesOwn share.vault spec.tag (Some (all_files spec.discard blob sealed))
names-own spec share None sealed has = λ named is.
    let none : None ≡ Some named = sym (files-named spec.discard None sealed) ∙ is in cc
names-own spec share (Some blob) sealed has = λ named is.
    let same : Some blob ≡ Some named = sym (files-named spec.discard (Some blob) sealed) ∙ is in
    let one : blob ≡ named = cc in
    record {
      entry = has.keyed.entry;
      live = subst (λ b. entry_of share.vault.entries b ≡ Some has.keyed.entry) one has.keyed.live;
      tagged = has.keyed.tagged;
      low = omega (arith, has.keyed.current);
    }

-- they open with the secret to the key
pub files-open : (spec : StoreSpec) (share : Share) (blob : Option Blob) (sealed : List ℕ)
    → length spec.discard ≡ 16384 → length spec.nonce ≡ 12 → length spec.key ≡ 64
    → IsBoundBy spec.secret blob → Has (sealing spec blob sealed) share
    → opens share.vault.entries share.vault.level (held_in (all_files spec.discard blob sealed)) spec.secret
    ≡ Some spec.key
files-open spec share None sealed discard_long nonce_long key_long bound has =
    secret-opens share.vault spec.discard spec.nonce spec.key discard_long nonce_long key_long spec.secret sealed bound
    has
files-open spec share (Some blob) sealed discard_long nonce_long key_long bound has =
    ap (opens share.vault.entries share.vault.level (held_in (all_files spec.discard (Some blob) sealed))) bound.0
    ∙ bound-opens share.vault spec.discard spec.nonce spec.key discard_long nonce_long key_long blob spec.tag sealed
    bound.1 has

pub stored-directory : LawOfStoredDirectory
stored-directory task share blob sealed is stage facts left image =
    let at = subst (λ s. AllHas (facts_at task.spec s) share) stage facts in
    let bound = subst (IsStage task.spec.secret) stage is.stage in
    record {
      there = at.1.0 left image;
      opens_to = files-open task.spec share blob sealed is.discard is.nonce is.key bound at.0;
      bound = bound;
      names = files-named task.spec.discard blob sealed;
      own = names-own task.spec share blob sealed at.0;
    }
