-- The rename that makes a user: both directories open to the keys of the birth, and the user's directories name the
-- two blobs that were held.
use Rattle.std.proofs.Common.{◌≡◌, ℕ, List, [], ◌∷◌, refl, sym, ap, ◌∙◌, subst, inr}
use Rattle.std.specs.Prelude.{Option, Some, None}
use Rattle.std.proofs.lemmas.Option.{same_Some}
use Rattle.tree_model.specs.declared.blobs.Blob.{Blob}
use Rattle.tree_model.specs.declared.places.Class.{Class}
use Rattle.tree_model.specs.declared.places.Class.TheVariants.{De as ForDe, Ce as ForCe}
use Rattle.tree_model.specs.declared.places.Slot.TheVariants.{Current}
use Rattle.tree_model.specs.declared.sites.Site.TheVariants.{De, Ce, Temp}
use Rattle.tree_model.specs.declared.sites.LocalOp.TheVariants.{RenameDir}
use Rattle.tree_model.specs.Dir.{Files}
use Rattle.tree_model.specs.Held.{held_in}
use Rattle.tree_model.specs.Named.{named_at, PartNames}
use Rattle.tree_model.specs.Parts.{Part, standing, after_local}
use Rattle.journal_model.specs.declared.entries.Birth.{Birth}
use Rattle.journal_model.specs.Made.{key_of}
use Rattle.keystore_model.specs.declared.entry.StoreEntry.{StoreEntry}
use Rattle.keystore_model.specs.declared.entry.Tag.{Tag}
use Rattle.user_world.specs.declared.changes.LocalChange.TheVariants.{Born}
use Rattle.user_world.specs.Meaning.{PartStands}
use Rattle.user_world.specs.OwnWorlds.{OwnWorld, own_view, IsOwnImage, Keeps}
use Rattle.user_world.specs.Facts.{Always, Holds}
use Rattle.user_world.proofs.OwnWorlds.{view-image}
use Rattle.blob_custody.specs.Operations.{IsUnborn}
use Rattle.blob_custody.proofs.Names.{absent}
use Rattle.blob_custody.proofs.Renamings.{whole-rename, birth-names, birth-has}
use Rattle.key_directory.specs.Opens.{opens}
use Rattle.key_directory.specs.Vaults.{Attempts, Vault, tag_at, NamesOwn, SealedStands, sealed}
use Rattle.key_directory.specs.VaultLaws.{OpenBoth, two_directories}
use Rattle.key_directory.proofs.Births.{births-stand}
use Rattle.task_turns.specs.Names.{Gains}
use Rattle.task_turns.specs.Shares.{Share, Has, Given}
use Rattle.store_task.specs.declared.turns.StoreSpec.{StoreSpec}
use Rattle.store_task.specs.Task.{Task, IsTask, IsBoundBy, all_files, sealing}
use Rattle.store_task.proofs.StoredFiles.{files-open, files-named, names-own}
use Rattle.user_tasks.specs.Create.{new_record}
use Rattle.user_tasks.specs.Stores.{part}
use Rattle.user_tasks.proofs.Whole.{same-parts}

-- how a key is sealed is no matter of what was tried
pub sealing-tried : (spec : StoreSpec) (blob : Option Blob) (text : List ℕ) (share : Share)
    (attempts : ℕ → Attempts) → Has (sealing spec blob text) share
    → Has (sealing spec blob text) (record share { vault = record share.vault { attempts = attempts } })
sealing-tried spec None text share attempts has = has
sealing-tried spec (Some blob) text share attempts has = record {
  keyed = record {
    entry = has.keyed.entry;
    live = has.keyed.live;
    bound = has.keyed.bound;
    tagged = has.keyed.tagged;
    current = has.keyed.current;
  };
  sealed_so = has.sealed_so;
}

-- a directory that is stored under an entry of the keystore, and holds the right key
pub record IsKept (share : Share) (user : ℕ) (birth : Birth) (class : Class) (task : Task) : Type 0 where
  pub whole : IsTask task
  pub tagged : task.spec.tag ≡ record { user = user; class = class }
  pub bare : task.spec.secret ≡ []
  pub blob : Blob
  pub sealed : List ℕ
  pub bound : IsBoundBy task.spec.secret (Some blob)
  pub has : Has (sealing task.spec (Some blob) sealed) share
  pub given : Has (Given task.spec.key class user birth) share

module _ {share : Share} {user : ℕ} {birth : Birth} {class : Class} {task : Task}
    (kept : IsKept share user birth class task) where
  abbrev pub kept_files : Files
  kept_files = all_files task.spec.discard (Some kept.blob) kept.sealed

  kept-named : named_at (Some kept_files) ≡ Some kept.blob
  kept-named = files-named task.spec.discard (Some kept.blob) kept.sealed

  -- it opens with no secret to the key
  kept-opens : opens share.vault.entries share.vault.level (held_in kept_files) []
      ≡ Some (key_of share.vault.seed class user birth)
  kept-opens =
      subst (λ secret. opens share.vault.entries share.vault.level (held_in kept_files) secret ≡ Some task.spec.key)
      kept.bare
      (files-open task.spec share (Some kept.blob) kept.sealed kept.whole.discard kept.whole.nonce kept.whole.key
      kept.bound kept.has)
      ∙ ap Some kept.given

  kept-own : NamesOwn share.vault (record { user = user; class = class }) (Some kept_files)
  kept-own = subst (λ tag. NamesOwn share.vault tag (Some kept_files)) kept.tagged
      (names-own task.spec share (Some kept.blob) kept.sealed kept.has)

-- what two tags own has two names
names-apart : (vault : Vault) (one other : Tag) (a b : Option Files) → (one ≡ other → ⊥) → NamesOwn vault one a
    → NamesOwn vault other b → (blob : Blob) → named_at a ≡ Some blob → named_at b ≡ Some blob → ⊥
names-apart vault one other a b differ own also blob names shared =
    let first = own blob names in
    let second = also blob shared in
    let same : first.entry ≡ second.entry = same_Some _ _ (sym first.live ∙ second.live) in
    differ (sym first.tagged ∙ ap (λ (entry : StoreEntry). entry.tag) same ∙ second.tagged)

module _ {share : Share} {user : ℕ} {birth : Birth} {ce de : Task} (ce_kept : IsKept share user birth ForCe ce)
    (de_kept : IsKept share user birth ForDe de) where
  -- the credential key's directory at its place, and the device key's in the temporary one
  abbrev both : Part
  both = part (Some (kept_files ce_kept)) (Some (kept_files de_kept))

  classes-apart : tag_at user De ≡ tag_at user (Ce Current) → ⊥
  classes-apart e = let same : ForDe ≡ ForCe = ap (λ (tag : Tag). tag.class) e in cc

  open-both : OpenBoth share.vault user birth (kept_files de_kept) (kept_files ce_kept)
  open-both = record {
    de_opens = kept-opens de_kept;
    ce_opens = kept-opens ce_kept;
    de_own = kept-own de_kept;
    ce_own = kept-own ce_kept;
    differ = names-apart share.vault (tag_at user De) (tag_at user (Ce Current)) (Some (kept_files de_kept))
        (Some (kept_files ce_kept)) classes-apart (kept-own de_kept) (kept-own ce_kept);
  }

  -- both directories, renamed into place, stand for the new user
  pub born : PartStands (sealed share.vault) user (after_local both (RenameDir Temp De)) (Some (new_record birth))
  born = subst (λ p. SealedStands share.vault user p (new_record birth))
      (same-parts (two_directories (kept_files de_kept) (kept_files ce_kept))
      (standing (after_local both (RenameDir Temp De))) refl refl (λ n. refl) refl)
      (births-stand share.vault user birth (kept_files de_kept) (kept_files ce_kept) open-both)

  unborn : IsUnborn both de_kept.blob ce_kept.blob
  unborn = record {
    absent = refl;
    made = kept-named de_kept;
    current = kept-named ce_kept;
    others = λ n. refl;
  }

  module _ (own : OwnWorld) (always : Holds (Always both) own) where
    -- so does each part that a stop can leave
    pub keeps-born : Keeps (sealed share.vault) user own (record { op = RenameDir Temp De; note = Some (Born birth) })
    keeps-born = record {
      keeps = λ left fill is stands.
          subst (λ op. PartStands (sealed share.vault) user (after_local left op) (Some (new_record birth)))
          (sym (whole-rename Temp De fill))
          (subst
          (λ p. PartStands (sealed share.vault) user (after_local p (RenameDir Temp De)) (Some (new_record birth)))
          (sym (always left is)) born);
    }

    unborn-left : (left : Part) → IsOwnImage own.stable own.pending left
        → IsUnborn left de_kept.blob ce_kept.blob
    unborn-left left is = subst (λ p. IsUnborn p de_kept.blob ce_kept.blob) (sym (always left is)) unborn

    -- and the user's directories name the two blobs
    pub born-gains : Gains own (RenameDir Temp De) (ce_kept.blob ∷ de_kept.blob ∷ [])
    born-gains = record {
      gained = λ left fill blob is names. inr (birth-names left de_kept.blob ce_kept.blob blob (unborn-left left is)
          (left Temp) refl (subst (λ op. PartNames (after_local left op) blob) (whole-rename Temp De fill) names));
      named = λ blob has. birth-has (own_view own) de_kept.blob ce_kept.blob blob in-view (own_view own Temp) refl has;
      kept = λ blob names. absurd (absent (own_view own De) in-view.absent names.present);
    }
      where
        in-view : IsUnborn (own_view own) de_kept.blob ce_kept.blob
        in-view = unborn-left (own_view own) (view-image own.stable own.pending)
