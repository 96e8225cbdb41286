-- Each kind of operation renames what its law says.
use Rattle.std.proofs.Common.{◌≡◌, ◌⊎◌, inl, inr, ℕ, false, List, [], ◌∷◌, refl, sym, ap, ◌∙◌, subst}
use Rattle.std.specs.Prelude.{Option, Some, None, IsSome, Contains, option_to_list}
use Rattle.tree_model.specs.declared.blobs.Blob.{Blob}
use Rattle.tree_model.specs.declared.ops.Fill.{Fill}
use Rattle.tree_model.specs.declared.ops.Fill.TheVariants.{Same, Bytes}
use Rattle.tree_model.specs.declared.places.Slot.{Slot}
use Rattle.tree_model.specs.declared.places.Slot.TheVariants.{Current, Cx}
use Rattle.tree_model.specs.declared.sites.Site.{Site}
use Rattle.tree_model.specs.declared.sites.Site.TheVariants.{De, Ce, Temp}
use Rattle.tree_model.specs.declared.sites.LocalOp.{LocalOp}
use Rattle.tree_model.specs.declared.sites.LocalOp.TheVariants.{RenameDir, RemoveDir}
use Rattle.tree_model.specs.Dir.{Files}
use Rattle.tree_model.specs.Disk.{Disk, view, IsImage}
use Rattle.tree_model.specs.Named.{named_at, PartNames}
use Rattle.tree_model.specs.Order.{slot_total, slot_exact}
use Rattle.tree_model.specs.Parts.{Part, part_of, standing, set, after_local, filled_local}
use Rattle.tree_model.specs.Sites.{touches}
use Rattle.tree_model.specs.Tree.{Tree, if_there}
use Rattle.tree_model.proofs.Images.{IsImage-applied}
use Rattle.tree_model.proofs.Maps.{decide_key}
use Rattle.tree_model.proofs.Parts.{frame}
use Rattle.keystore_model.proofs.Elements.{Contains-none, Contains-first, Contains-rest, Contains-cases}
use Rattle.blob_custody.specs.Operations.{IsQuiet, IsUnborn, NamesAlone, AreNamed, names_of}
use Rattle.blob_custody.specs.Steps.{NamesNoMore, Renames}
use Rattle.blob_custody.proofs.Names.{absent, not-both, one-blob, option-in, option-from, same-names}
use Rattle.blob_custody.proofs.Names.{set-same, set-other, names-set, names-new, names-old}

-- where an operation, as a stop leaves it, renames nothing in any part that the pending operations leave
renames-nothing : (disk : Disk) (user : ℕ) (op : LocalOp)
    → ((left : Tree) (fill : Fill) (blob : Blob) → IsImage disk.stable disk.pending left
    → PartNames (after_local (part_of left user) (filled_local fill op)) blob
    → PartNames (part_of left user) blob)
    → ((blob : Blob) → PartNames (part_of (view disk) user) blob
    → PartNames (after_local (part_of (view disk) user) op) blob)
    → Renames disk user op [] []
renames-nothing disk user op gained lost = record {
  gained = λ left fill blob is names. inl (gained left fill blob is names);
  named = λ blob none. absurd (Contains-none blob none);
  lost = λ blob names. inl (lost blob names);
  dropped = λ blob none. absurd (Contains-none blob none);
  unnamed = λ blob none. absurd (Contains-none blob none);
}

pub quiet-operation : (disk : Disk) (user : ℕ) (op : LocalOp) → IsQuiet op → Renames disk user op [] []
quiet-operation disk user op quiet = renames-nothing disk user op
    (λ left fill blob is. same-names (after_local (part_of left user) (filled_local fill op)) (part_of left user) blob
    (sym (frame (part_of left user) fill op De quiet.device))
    (λ slot. sym (frame (part_of left user) fill op (Ce slot) (quiet.slots slot))))
    (λ blob. same-names (part_of (view disk) user) (after_local (part_of (view disk) user) op) blob
    (frame (part_of (view disk) user) Same op De quiet.device)
    (λ slot. frame (part_of (view disk) user) Same op (Ce slot) (quiet.slots slot)))

pub debris-operation : (disk : Disk) (user : ℕ) (op : LocalOp) → touches op De ≡ false
    → ((left : Tree) → IsImage disk.stable disk.pending left → part_of left user De ≡ None)
    → Renames disk user op [] []
debris-operation disk user op apart none = renames-nothing disk user op
    (λ left fill blob is names. absurd (absent (after_local (part_of left user) (filled_local fill op) De)
    (frame (part_of left user) fill op De apart ∙ none left is) names.present))
    (λ blob names. absurd (absent (part_of (view disk) user De)
    (none (view disk) (IsImage-applied disk.stable disk.pending)) names.present))

-- an operation that writes nothing is left whole
module _ (disk : Disk) (user : ℕ) (op : LocalOp) (gains : List Blob)
    (whole : (fill : Fill) → filled_local fill op ≡ op)
    (gained : (left : Tree) (blob : Blob) → IsImage disk.stable disk.pending left
    → PartNames (after_local (part_of left user) op) blob
    → PartNames (part_of left user) blob ⊎ Contains gains blob) where
  gained-whole : NamesNoMore disk user op gains
  gained-whole left fill blob is names = gained left blob is
      (subst (λ o. PartNames (after_local (part_of left user) o) blob) (whole fill) names)

pub whole-rename : (from to : Site) (fill : Fill) → filled_local fill (RenameDir from to) ≡ RenameDir from to
whole-rename from to Same = refl
whole-rename from to (Bytes other) = refl

pub whole-remove : (site : Site) (fill : Fill) → filled_local fill (RemoveDir site) ≡ RemoveDir site
whole-remove site Same = refl
whole-remove site (Bytes other) = refl

-- a birth: the two directories' blobs are what is named then
module _ (part : Part) (device credential blob : Blob) (unborn : IsUnborn part device credential) where
  pub birth-names : (found : Option Files) → part Temp ≡ found
      → PartNames (if_there found part (λ files. set (set part Temp None) De (Some files))) blob
      → Contains (credential ∷ device ∷ []) blob
  birth-names None none names = absurd (not-both (named_at (part Temp)) device (ap named_at none) unborn.made)
  birth-names (Some files) there names = at names.site names.names
    where
      at : (site : Site) → named_at (standing (set (set part Temp None) De (Some files)) site) ≡ Some blob
          → Contains (credential ∷ device ∷ []) blob
      at De is =
          subst (Contains (credential ∷ device ∷ []))
          (one-blob (named_at (part Temp)) device blob unborn.made (ap named_at there ∙ is))
          (Contains-rest credential (device ∷ []) device (Contains-first device []))
      at (Ce Current) is =
          subst (Contains (credential ∷ device ∷ []))
          (one-blob (named_at (part (Ce Current))) credential blob unborn.current is)
          (Contains-first credential (device ∷ []))
      at (Ce (Cx n)) is = absurd (not-both (named_at (part (Ce (Cx n)))) blob (unborn.others n) is)
      at Temp is = absurd (not-both None blob refl is)

  pub birth-has : (found : Option Files) → part Temp ≡ found → Contains (credential ∷ device ∷ []) blob
      → PartNames (if_there found part (λ files. set (set part Temp None) De (Some files))) blob
  birth-has None none has = absurd (not-both (named_at (part Temp)) device (ap named_at none) unborn.made)
  birth-has (Some files) there has = elim (Contains-cases credential (device ∷ []) blob has) [
    | inl same ↦ record { present = refl; site = Ce Current; names = unborn.current ∙ ap Some same }
    | inr rest ↦ elim (Contains-cases device [] blob rest) [
      | inl same ↦ record { present = refl; site = De; names = sym (ap named_at there) ∙ unborn.made ∙ ap Some same }
      | inr more ↦ absurd (Contains-none blob more)
    ]
  ]

pub birth : (disk : Disk) (user : ℕ) (device credential : Blob)
    → ((left : Tree) → IsImage disk.stable disk.pending left → IsUnborn (part_of left user) device credential)
    → Renames disk user (RenameDir Temp De) (credential ∷ device ∷ []) []
birth disk user device credential unborn = record {
  gained = gained-whole disk user (RenameDir Temp De) (credential ∷ device ∷ []) (whole-rename Temp De)
      (λ left blob is names. inr (birth-names (part_of left user) device credential blob (unborn left is)
      (part_of left user Temp) refl names));
  named = λ blob has. birth-has (part_of (view disk) user) device credential blob in-view
      (part_of (view disk) user Temp) refl has;
  lost = λ blob names. absurd (absent (part_of (view disk) user De) in-view.absent names.present);
  dropped = λ blob none. absurd (Contains-none blob none);
  unnamed = λ blob none. absurd (Contains-none blob none);
}
  where
    in-view : IsUnborn (part_of (view disk) user) device credential
    in-view = unborn (view disk) (IsImage-applied disk.stable disk.pending)

-- a slot's directory that is removed names nothing any more
removed-unnamed : (part : Part) (slot : Slot) (blob : Blob) → NamesAlone part slot
    → named_at (part (Ce slot)) ≡ Some blob
    → ¬ (PartNames (set part (Ce slot) None) blob)
removed-unnamed part slot blob alone named names = at names.site names.names
  where
    at : (site : Site) → named_at (standing (set part (Ce slot) None) site) ≡ Some blob → ⊥
    at De is = alone.device blob is named
    at (Ce other) is = elim (decide_key slot_total slot_exact other slot) [
      | inl same ↦ not-both None blob refl (sym (ap named_at (set-same part slot None))
          ∙ subst (λ s. named_at (set part (Ce slot) None (Ce s)) ≡ Some blob) same is)
      | inr differ ↦
          alone.apart other blob differ (sym (ap named_at (set-other part slot None other differ)) ∙ is) named
    ]
    at Temp is = not-both None blob refl is

pub drop : (disk : Disk) (user : ℕ) (slot : Slot) → IsSome (part_of (view disk) user De)
    → NamesAlone (part_of (view disk) user) slot
    → Renames disk user (RemoveDir (Ce slot)) [] (names_of (part_of (view disk) user) (Ce slot))
drop disk user slot present alone = record {
  gained = gained-whole disk user (RemoveDir (Ce slot)) [] (whole-remove (Ce slot))
      (λ left blob is names. elim (names-new (part_of left user) slot None blob names) [
        | inl was ↦ inl was
        | inr now ↦ absurd (not-both None blob refl now)
      ]);
  named = λ blob none. absurd (Contains-none blob none);
  lost = λ blob names. elim (names-old (part_of (view disk) user) slot None blob names) [
    | inl still ↦ inl still
    | inr was ↦ inr (option-in (named_at (part_of (view disk) user (Ce slot))) blob was)
  ];
  dropped = λ blob has. record { present = present; site = Ce slot; names = dropped blob has };
  unnamed = λ blob has. removed-unnamed (part_of (view disk) user) slot blob alone (dropped blob has);
}
  where
    dropped : (blob : Blob) → Contains (names_of (part_of (view disk) user) (Ce slot)) blob
        → named_at (part_of (view disk) user (Ce slot)) ≡ Some blob
    dropped blob has = option-from (named_at (part_of (view disk) user (Ce slot))) blob has

-- without the device key's directory nothing is named
pub destruction : (disk : Disk) (user : ℕ) (drops : List Blob) → AreNamed (part_of (view disk) user) drops
    → Renames disk user (RemoveDir De) [] drops
destruction disk user drops named = record {
  gained = gained-whole disk user (RemoveDir De) [] (whole-remove De)
      (λ left blob is names. absurd (absent None refl names.present));
  named = λ blob none. absurd (Contains-none blob none);
  lost = λ blob names. inr (named.all blob names);
  dropped = named.are;
  unnamed = λ blob has names. absent None refl names.present;
}

-- the temporary directory moved to a slot
module _ (part : Part) (slot : Slot) (blob : Blob) where
  abbrev moved : Part
  moved = set part Temp None

  stay : PartNames part blob → PartNames moved blob
  stay names = same-names part moved blob refl (λ slot. refl) names

  stayed : PartNames moved blob → PartNames part blob
  stayed names = same-names moved part blob refl (λ slot. refl) names

  added-names : (found : Option Files)
      → PartNames (if_there found part (λ files. set moved (Ce slot) (Some files))) blob
      → PartNames part blob ⊎ (named_at found ≡ Some blob)
  added-names None names = inl names
  added-names (Some files) names = elim (names-new moved slot (Some files) blob names) [
    | inl was ↦ inl (stayed was)
    | inr now ↦ inr now
  ]

  added-has : IsSome (part De) → (found : Option Files) → named_at found ≡ Some blob
      → PartNames (if_there found part (λ files. set moved (Ce slot) (Some files))) blob
  added-has present None is = absurd (not-both None blob refl is)
  added-has present (Some files) is = names-set moved slot (Some files) blob present is

  added-keeps : part (Ce slot) ≡ None → (found : Option Files) → PartNames part blob
      → PartNames (if_there found part (λ files. set moved (Ce slot) (Some files))) blob
  added-keeps free None names = names
  added-keeps free (Some files) names = elim (names-old moved slot (Some files) blob (stay names)) [
    | inl still ↦ still
    | inr was ↦ absurd (not-both (named_at (part (Ce slot))) blob (ap named_at free) was)
  ]

pub addition : (disk : Disk) (user : ℕ) (slot : Slot) (named : Option Blob) → IsSome (part_of (view disk) user De)
    → part_of (view disk) user (Ce slot) ≡ None
    → ((left : Tree) → IsImage disk.stable disk.pending left → named_at (part_of left user Temp) ≡ named)
    → Renames disk user (RenameDir Temp (Ce slot)) (option_to_list named) []
addition disk user slot named present free made = record {
  gained = gained-whole disk user (RenameDir Temp (Ce slot)) (option_to_list named) (whole-rename Temp (Ce slot))
      (λ left blob is names. elim (added-names (part_of left user) slot blob (part_of left user Temp) names) [
        | inl was ↦ inl was
        | inr now ↦ inr (option-in named blob (sym (made left is) ∙ now))
      ]);
  named = λ blob has. added-has (part_of (view disk) user) slot blob present (part_of (view disk) user Temp)
      (made (view disk) (IsImage-applied disk.stable disk.pending) ∙ option-from named blob has);
  lost =
      λ blob names. inl (added-keeps (part_of (view disk) user) slot blob free (part_of (view disk) user Temp) names);
  dropped = λ blob none. absurd (Contains-none blob none);
  unnamed = λ blob none. absurd (Contains-none blob none);
}

-- a slot's directory moved to another slot
module _ (part : Part) (from to : Slot) (blob : Blob) where
  abbrev without_from : Part
  without_from = set part (Ce from) None

  pub moved-names : (found : Option Files) → part (Ce from) ≡ found
      → PartNames (if_there found part (λ files. set without_from (Ce to) (Some files))) blob
      → PartNames part blob
  moved-names None none names = names
  moved-names (Some files) there names = elim (names-new without_from to (Some files) blob names) [
    | inl was ↦ elim (names-new part from None blob was) [
      | inl before ↦ before
      | inr now ↦ absurd (not-both None blob refl now)
    ]
    | inr now ↦ record { present = names.present; site = Ce from; names = ap named_at there ∙ now }
  ]

  -- nothing stood at the target, even where that is the source
  target-free : part (Ce to) ≡ None → without_from (Ce to) ≡ None
  target-free free = elim (decide_key slot_total slot_exact to from) [
    | inl same ↦ subst (λ s. without_from (Ce s) ≡ None) (sym same) (set-same part from None)
    | inr differ ↦ set-other part from None to differ ∙ free
  ]

  pub moved-keeps : part (Ce to) ≡ None → (found : Option Files) → part (Ce from) ≡ found → PartNames part blob
      → PartNames (if_there found part (λ files. set without_from (Ce to) (Some files))) blob
  moved-keeps free None none names = names
  moved-keeps free (Some files) there names = elim (names-old part from None blob names) [
    | inl still ↦ elim (names-old without_from to (Some files) blob still) [
      | inl now ↦ now
      | inr was ↦ absurd (not-both (named_at (without_from (Ce to))) blob (ap named_at (target-free free)) was)
    ]
    | inr was ↦ names-set without_from to (Some files) blob names.present (sym (ap named_at there) ∙ was)
  ]

pub settling : (disk : Disk) (user : ℕ) (from to : Slot) → part_of (view disk) user (Ce to) ≡ None
    → Renames disk user (RenameDir (Ce from) (Ce to)) [] []
settling disk user from to free = renames-nothing disk user (RenameDir (Ce from) (Ce to))
    (λ left fill blob is names. moved-names (part_of left user) from to blob (part_of left user (Ce from)) refl
    (subst (λ o. PartNames (after_local (part_of left user) o) blob) (whole-rename (Ce from) (Ce to) fill) names))
    (λ blob names. moved-keeps (part_of (view disk) user) from to blob free (part_of (view disk) user (Ce from)) refl
    names)
