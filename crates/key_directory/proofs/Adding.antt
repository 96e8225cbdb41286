-- A further directory, renamed from the temporary place into a slot, stands there under its secret.
use Rattle.std.proofs.Common.{◌≡◌, ℕ, List, inl, inr, refl, sym, ap, ◌∙◌, subst, cond}
use Rattle.std.specs.Prelude.{Option, Some, None}
use Rattle.std.specs.FinMap as map
use Rattle.tree_model.specs.declared.blobs.Blob.{Blob}
use Rattle.tree_model.specs.declared.ops.Fill.TheVariants.{Same}
use Rattle.tree_model.specs.declared.places.Slot.{Slot}
use Rattle.tree_model.specs.declared.sites.LocalOp.TheVariants.{RenameDir}
use Rattle.tree_model.specs.declared.sites.Site.{Site}
use Rattle.tree_model.specs.declared.sites.Site.TheVariants.{De, Ce, Temp}
use Rattle.tree_model.specs.Dir.{Files}
use Rattle.tree_model.specs.Named.{named_at}
use Rattle.tree_model.specs.Order.{slot_total, slot_exact}
use Rattle.tree_model.specs.Parts.{Part, standing, set, after_local}
use Rattle.tree_model.specs.Tree.{if_there}
use Rattle.tree_model.proofs.Maps.{tied, apart, decide_key, get-insert_same, get-insert_other}
use Rattle.tree_model.proofs.Parts.{frame}
use Rattle.journal_model.specs.Made.{key_of}
use Rattle.journal_model.specs.Users.{Record, with_slot}
use Rattle.key_directory.specs.VaultLaws.{LawOfAdding}
use Rattle.key_directory.specs.Vaults.{class_of, tag_at, NamesOwn, OpensAt, secret_at}

module _ (part : Part) (known : Record) (slot : Slot) (secret : List ℕ) (files : Files) where
  -- what holds of the slot with the directory, and of each site as it stood, holds of each site after the rename
  by-site : (P : Site → Option Files → Option (List ℕ) → Type 0) → part Temp ≡ Some files
      → P (Ce slot) (Some files) (Some secret)
      → ((site : Site) → P site (standing part site) (secret_at known site)) → (site : Site)
      → P site (standing (after_local part (RenameDir Temp (Ce slot))) site)
      (secret_at (with_slot known slot secret) site)
  by-site P there new old De =
      subst (λ found. P De found (secret_at known De)) (sym (frame part Same (RenameDir Temp (Ce slot)) De refl))
      (old De)
  by-site P there new old (Ce other) = elim (decide_key slot_total slot_exact other slot) [
    | inl same ↦ subst (λ s. P (Ce s) (after_local part (RenameDir Temp (Ce slot)) (Ce s))
        (map.get (map.insert known.secrets slot secret) s)) (sym same)
        (subst (P (Ce slot) (after_local part (RenameDir Temp (Ce slot)) (Ce slot)))
        (sym (get-insert_same slot_total slot_exact known.secrets slot secret))
        (subst (λ found. P (Ce slot) found (Some secret)) (sym
        (ap (λ found. if_there found part (λ f. set (set part Temp None) (Ce slot) (Some f)) (Ce slot)) there
        ∙ ap (λ t. cond t (Some files) (set part Temp None (Ce slot))) (tied slot_total slot_exact slot slot refl)))
        new))
    | inr differ ↦ subst (P (Ce other) (after_local part (RenameDir Temp (Ce slot)) (Ce other)))
        (sym (get-insert_other slot_total slot_exact known.secrets slot secret other differ))
        (subst (λ found. P (Ce other) found (secret_at known (Ce other)))
        (sym (frame part Same (RenameDir Temp (Ce slot)) (Ce other) (apart slot_total slot_exact other slot differ)))
        (old (Ce other)))
  ]
  by-site P there new old Temp = old Temp

pub adding-stands : LawOfAdding
adding-stands vault user part known slot secret stands is =
    let at = λ (P : Site → Option Files → Option (List ℕ) → Type 0).
    by-site part known slot secret is.files P is.there in record {
      opens = at (λ site found recorded. OpensAt vault user site found recorded
          (key_of vault.seed (class_of site) user known.birth)) is.opens stands.opens;
      own = at (λ site found recorded. NamesOwn vault (tag_at user site) found) is.own stands.own;
      apart = at (λ site found recorded. (other : Site) (blob : Blob) → named_at found ≡ Some blob
          → named_at (standing (after_local part (RenameDir Temp (Ce slot))) other) ≡ Some blob → site ≡ other)
          (at (λ other found recorded. (blob : Blob) → named_at (Some is.files) ≡ Some blob
          → named_at found ≡ Some blob → Ce slot ≡ other) (λ blob names also. refl)
          (λ other blob names also. absurd (is.differ other blob also names)))
          (λ site. at (λ other found recorded. (blob : Blob) → named_at (standing part site) ≡ Some blob
          → named_at found ≡ Some blob → site ≡ other) (λ blob names also. absurd (is.differ site blob names also))
          (λ other blob names also. stands.apart site other blob names also));
    }
