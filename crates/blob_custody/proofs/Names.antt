-- The blobs that a user's part names where one of its directories is another.
use Rattle.std.proofs.Common.{◌≡◌, ◌≢◌, ◌⊎◌, inl, inr, cond, [], refl, sym, ap, ◌∙◌, subst}
use Rattle.std.specs.Prelude.{Option, Some, None, IsSome, Contains, option_to_list}
use Rattle.tree_model.specs.declared.blobs.Blob.{Blob}
use Rattle.tree_model.specs.declared.places.Slot.{Slot}
use Rattle.tree_model.specs.declared.sites.Site.{Site}
use Rattle.tree_model.specs.declared.sites.Site.TheVariants.{De, Ce, Temp}
use Rattle.tree_model.specs.Dir.{Files}
use Rattle.tree_model.specs.Named.{named_at, PartNames}
use Rattle.tree_model.specs.Order.{slot_total, slot_exact}
use Rattle.tree_model.specs.Parts.{Part, standing, set}
use Rattle.tree_model.proofs.Maps.{tied, apart, decide_key}
use Rattle.keystore_model.specs.Store.{Differ}
use Rattle.keystore_model.proofs.Elements.{Contains-first, Contains-none, Contains-cases}
use Rattle.blob_custody.specs.Operations.{names_of}

pub absent : (found : Option Files) → found ≡ None → IsSome found → ⊥
absent None is there = cc
absent (Some files) is there = cc

pub not-both : (found : Option Blob) (blob : Blob) → found ≡ None → found ≡ Some blob → ⊥
not-both found blob none some = cc

pub one-blob : (found : Option Blob) (one two : Blob) → found ≡ Some one → found ≡ Some two → one ≡ two
one-blob found one two is also = cc

-- what an option holds, as a list
pub option-in : (found : Option Blob) (blob : Blob) → found ≡ Some blob → Contains (option_to_list found) blob
option-in found blob is = subst (λ f. Contains (option_to_list f) blob) (sym is) (Contains-first blob [])

pub option-from : (found : Option Blob) (blob : Blob) → Contains (option_to_list found) blob → found ≡ Some blob
option-from None blob has = absurd (Contains-none blob has)
option-from (Some one) blob has = elim (Contains-cases one [] blob has) [
  | inl same ↦ ap Some same
  | inr rest ↦ absurd (Contains-none blob rest)
]

-- it is one blob at most
option-differs : (found : Option Blob) → Differ (option_to_list found)
option-differs None = tt
option-differs (Some blob) = (Contains-none blob, tt)

pub names-differ : (part : Part) (site : Site) → Differ (names_of part site)
names-differ part site = option-differs (named_at (part site))

-- parts whose standing directories are the same name the same
pub same-names : (before after : Part) (blob : Blob) → after De ≡ before De
    → ((slot : Slot) → after (Ce slot) ≡ before (Ce slot)) → PartNames before blob
    → PartNames after blob
same-names before after blob device slots names = record {
  present = subst IsSome (sym device) names.present;
  site = names.site;
  names = ap named_at (same names.site) ∙ names.names;
}
  where
    same : (site : Site) → standing after site ≡ standing before site
    same De = device
    same (Ce slot) = slots slot
    same Temp = refl

module _ (part : Part) (slot : Slot) (found : Option Files) where
  pub set-same : set part (Ce slot) found (Ce slot) ≡ found
  set-same = ap (λ t. cond t found (part (Ce slot))) (tied slot_total slot_exact slot slot refl)

  pub set-other : (other : Slot) → other ≢ slot → set part (Ce slot) found (Ce other) ≡ part (Ce other)
  set-other other differ = ap (λ t. cond t found (part (Ce other))) (apart slot_total slot_exact other slot differ)

  module _ (blob : Blob) where
    -- another directory in a slot: what it names is named where the device key's is there
    pub names-set : IsSome (part De) → named_at found ≡ Some blob → PartNames (set part (Ce slot) found) blob
    names-set present names = record { present = present; site = Ce slot; names = ap named_at set-same ∙ names }

    -- what is named then was named, or the new one names it
    pub names-new : PartNames (set part (Ce slot) found) blob → PartNames part blob ⊎ (named_at found ≡ Some blob)
    names-new names = at names.site names.present names.names
      where
        at : (site : Site) → IsSome (part De) → named_at (standing (set part (Ce slot) found) site) ≡ Some blob
            → PartNames part blob ⊎ (named_at found ≡ Some blob)
        at De present is = inl (record { present = present; site = De; names = is })
        at (Ce other) present is = elim (decide_key slot_total slot_exact other slot) [
          | inl same ↦ inr (sym (ap named_at set-same)
              ∙ subst (λ s. named_at (set part (Ce slot) found (Ce s)) ≡ Some blob) same is)
          | inr differ ↦
              inl (record {
                present = present;
                site = Ce other;
                names = sym (ap named_at (set-other other differ)) ∙ is;
              })
        ]
        at Temp present is = absurd (not-both None blob refl is)

    -- what was named is named then, or the old one named it
    pub names-old : PartNames part blob
        → PartNames (set part (Ce slot) found) blob ⊎ (named_at (part (Ce slot)) ≡ Some blob)
    names-old names = at names.site names.present names.names
      where
        at : (site : Site) → IsSome (part De) → named_at (standing part site) ≡ Some blob
            → PartNames (set part (Ce slot) found) blob ⊎ (named_at (part (Ce slot)) ≡ Some blob)
        at De present is = inl (record { present = present; site = De; names = is })
        at (Ce other) present is = elim (decide_key slot_total slot_exact other slot) [
          | inl same ↦ inr (subst (λ s. named_at (part (Ce s)) ≡ Some blob) same is)
          | inr differ ↦
              inl (record { present = present; site = Ce other; names = ap named_at (set-other other differ) ∙ is })
        ]
        at Temp present is = absurd (not-both None blob refl is)
