-- A user whose slot's directory is removed stands without the slot, and one whose slot is renamed to the current one
-- stands with its secret there. A slot's directory is there exactly where the slot is recorded.
use Rattle.std.proofs.Common.{◌≡◌, ℕ, List, true, false, cond, refl, sym, ap, ◌∙◌, subst}
use Rattle.std.specs.Prelude.{Option, Some, None, is_some, IsSome}
use Rattle.std.specs.FinMap as map
use Rattle.std.specs.Ordering.{eq_by_cmp}
use Rattle.std.proofs.lemmas.Option.{none-some}
use Rattle.tree_model.specs.declared.blobs.Blob.{Blob}
use Rattle.tree_model.specs.declared.places.Class.TheVariants.{Ce as ForCe}
use Rattle.tree_model.specs.declared.places.Slot.{Slot}
use Rattle.tree_model.specs.declared.places.Slot.TheVariants.{Current}
use Rattle.tree_model.specs.declared.sites.LocalOp.TheVariants.{RenameDir}
use Rattle.tree_model.specs.declared.sites.Site.{Site}
use Rattle.tree_model.specs.declared.sites.Site.TheVariants.{De, Ce, Temp}
use Rattle.tree_model.specs.Dir.{Files}
use Rattle.tree_model.specs.Named.{named_at}
use Rattle.tree_model.specs.Order.{slot_cmp, slot_total, slot_exact}
use Rattle.tree_model.specs.Parts.{Part, standing, set, after_local}
use Rattle.tree_model.specs.Tree.{if_there}
use Rattle.tree_model.proofs.Maps.{tied}
use Rattle.tree_model.proofs.Parts.{fun_ext}
use Rattle.journal_model.specs.Made.{key_of}
use Rattle.journal_model.specs.Users.{Record, with_slot, without_slot, moved_from}
use Rattle.key_directory.specs.VaultLaws.{LawOfDropping, LawOfSettling}
use Rattle.key_directory.specs.Vaults.{Vault, class_of, tag_at, NamesOwn, OpensAt, secret_at, SealedStands}
use Rattle.key_directory.proofs.Adding.{adding-stands}

-- a slot's directory is there exactly where the slot is recorded
pub slots-stand : (vault : Vault) (user : ℕ) (part : Part) (known : Record)
    → SealedStands vault user (standing part) known → (slot : Slot)
    → is_some (part (Ce slot)) ≡ is_some (map.get known.secrets slot)
slots-stand vault user part known stands slot =
    both (part (Ce slot)) (map.get known.secrets slot) _ (stands.opens (Ce slot))
  where
    both : (found : Option Files) (recorded : Option (List ℕ)) (key : List ℕ)
        → OpensAt vault user (Ce slot) found recorded key → is_some found ≡ is_some recorded
    both None None key opens = refl
    both None (Some secret) key opens = absurd opens
    both (Some files) None key opens = absurd opens
    both (Some files) (Some secret) key opens = refl

-- the part without a slot's directory
abbrev left : Part → Slot → Part
left part slot = set part (Ce slot) None

module _ (part : Part) (known : Record) (slot : Slot) where
  -- what holds of each site with nothing, and of each as it stood, holds of each without the slot
  by-site : (P : Site → Option Files → Option (List ℕ) → Type 0) → ((site : Site) → P site None None)
      → ((site : Site) → P site (standing part site) (secret_at known site)) → (site : Site)
      → P site (standing (left part slot) site) (secret_at (without_slot known slot) site)
  by-site P gone old De = old De
  by-site P gone old (Ce other) =
      subst (P (Ce other) (left part slot (Ce other))) (sym (map.get-remove slot_total known.secrets slot other))
      (elim (eq_by_cmp slot_cmp other slot) as (λ t. P (Ce other) (cond t None (part (Ce other)))
      (cond t None (map.get known.secrets other))) [ true ↦ gone (Ce other) | false ↦ old (Ce other) ])
  by-site P gone old Temp = old Temp

  named-left : (site : Site) (blob : Blob) → named_at (standing (left part slot) site) ≡ Some blob
      → named_at (standing part site) ≡ Some blob
  named-left = by-site (λ site found recorded. (blob : Blob) → named_at found ≡ Some blob
      → named_at (standing part site) ≡ Some blob) (λ site blob names. absurd (none-some blob names))
      (λ site blob names. names)

pub dropping-stands : LawOfDropping
dropping-stands vault user part known slot stands =
    let was = named-left part known slot in record {
      opens = by-site part known slot (λ site found recorded. OpensAt vault user site found recorded
          (key_of vault.seed (class_of site) user known.birth)) (λ site. tt) stands.opens;
      own = λ site blob names. stands.own site blob (was site blob names);
      apart = λ site other blob names also. stands.apart site other blob (was site blob names) (was other blob also);
    }

-- parts with the same directories but the temporary one stand alike
same-standing : (part other : Part) → part De ≡ other De → ((slot : Slot) → part (Ce slot) ≡ other (Ce slot))
    → standing part ≡ standing other
same-standing part other de ce = fun_ext _ _ at
  where
    at : (site : Site) → standing part site ≡ standing other site
    at De = de
    at (Ce slot) = ce slot
    at Temp = refl

-- a directory that leaves a slot for the current one is as one that is dropped there, and then added
module _ (vault : Vault) (user : ℕ) (part : Part) (known : Record) (slot : Slot)
    (stands : SealedStands vault user (standing part) known) (free : part (Ce Current) ≡ None) where
  settled : (found : Option Files) (recorded : Option (List ℕ)) → IsSome found → part (Ce slot) ≡ found
      → OpensAt vault user (Ce slot) found recorded (key_of vault.seed ForCe user known.birth)
      → SealedStands vault user
      (standing (if_there found part (λ files. set (left part slot) (Ce Current) (Some files))))
      (record known { secrets = moved_from known.secrets slot recorded })
  settled None recorded there is opens = cc
  settled (Some files) None there is opens = absurd opens
  settled (Some files) (Some secret) there is opens =
      let aside : Part = set (left part slot) Temp (Some files) in
      let same = same-standing (left part slot) aside refl (λ other. refl) in
      subst (λ p. SealedStands vault user p (with_slot (without_slot known slot) Current secret))
      (same-standing (after_local aside (RenameDir Temp (Ce Current)))
      (set (left part slot) (Ce Current) (Some files)) refl (λ other. refl))
      (adding-stands vault user aside (without_slot known slot) Current secret
      (subst (λ p. SealedStands vault user p (without_slot known slot)) same
      (dropping-stands vault user part known slot stands)) (record {
        files = files;
        there = refl;
        free = elim (eq_by_cmp slot_cmp Current slot) as (λ t. cond t None (part (Ce Current)) ≡ None)
            [ true ↦ refl | false ↦ free ];
        opens = record { opened = opens.opened; opens_to = opens.opens_to; right = opens.right; made = opens.made };
        own = subst (NamesOwn vault (tag_at user (Ce slot))) is (stands.own (Ce slot));
        differ = λ site blob names also.
            let stays = subst (λ p. named_at (p site) ≡ Some blob) (sym same) names in
            none-some blob
            (ap (λ t. named_at (cond t None (part (Ce slot)))) (sym (tied slot_total slot_exact slot slot refl))
            ∙ subst (λ s. named_at (standing (left part slot) s) ≡ Some blob)
            (stands.apart site (Ce slot) blob (named-left part known slot site blob stays) (ap named_at is ∙ also))
            stays);
      }))

pub settling-stands : LawOfSettling
settling-stands vault user part known slot stands there free =
    settled vault user part known slot stands free (part (Ce slot)) (map.get known.secrets slot) there refl
    (stands.opens (Ce slot))
