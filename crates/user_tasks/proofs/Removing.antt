-- The directories of a user that are removed one after another: what still stands, and what each removal shows.
use Rattle.std.proofs.Common.{◌≡◌, ◌≢◌, ◌⊎◌, inl, inr, ℕ, true, false, List, [], ◌∷◌, cond, refl, sym, ap, ◌∙◌, subst}
use Rattle.std.specs.Prelude.{Some, None, is_some, IsSome, Contains, slice_get}
use Rattle.std.proofs.lemmas.Bool.{false≢true}
use Rattle.std.proofs.lemmas.List.Elements.{Contains-append_left}
use Rattle.tree_model.specs.declared.ops.Fill.TheVariants.{Same}
use Rattle.tree_model.specs.declared.places.Slot.{Slot}
use Rattle.tree_model.specs.declared.sites.Site.{Site}
use Rattle.tree_model.specs.declared.sites.Site.TheVariants.{De, Ce, Temp}
use Rattle.tree_model.specs.declared.sites.LocalOp.{LocalOp}
use Rattle.tree_model.specs.declared.sites.LocalOp.TheVariants.{RemoveDir}
use Rattle.tree_model.specs.Named.{PartNames}
use Rattle.tree_model.specs.Order.{slot_total, slot_exact}
use Rattle.tree_model.specs.Parts.{Part, after_local}
use Rattle.tree_model.specs.Sites.{same_site}
use Rattle.tree_model.specs.Tree.{Drop as DropKind, kind_if}
use Rattle.tree_model.proofs.Maps.{apart, decide_key}
use Rattle.tree_model.proofs.Parts.{frame}
use Rattle.keystore_model.proofs.Elements.{Contains-none, Contains-first, Contains-rest, Contains-cases}
use Rattle.user_world.specs.declared.changes.LocalChange.{LocalChange}
use Rattle.user_world.specs.declared.changes.LocalChange.TheVariants.{Destroyed}
use Rattle.user_world.specs.Facts.{HasSites, Holds, Logged, Vacant}
use Rattle.user_world.specs.Meaning.{Meaning}
use Rattle.user_world.specs.OwnWorlds.{OwnWorld, OwnImagesStand, quiet, own_view, own_log, own_record, with_step}
use Rattle.user_world.specs.OwnWorlds.{settled}
use Rattle.user_world.specs.Turns.{StepShows}
use Rattle.user_world.proofs.OwnWorlds.{log-step, log-settled, keeps-absent, absent-view}
use Rattle.blob_custody.proofs.Renamings.{whole-remove}
use Rattle.task_turns.specs.Names.{Gains}
use Rattle.store_task.proofs.ShownTurns.{at-itself}
use Rattle.fixate_task.specs.Task.{without}
use Rattle.fixate_task.proofs.Without.{in-without, of-without}
use Rattle.user_tasks.specs.Destroy.{sites_of}
use Rattle.user_tasks.proofs.Fixing.{none-unless}

-- the first of slots, and the others
pub first-slot : (slots : List Slot) (slot : Slot) → slice_get slots 0 ≡ Some slot
    → (rest : List Slot) × (slots ≡ slot ∷ rest)
first-slot [] slot is = cc
first-slot (first ∷ rest) slot is = let same : first ≡ slot = cc in (rest, ap (λ s. s ∷ rest) same)

pub no-slot : (slots : List Slot) → slice_get slots 0 ≡ None → slots ≡ []
no-slot [] is = refl
no-slot (first ∷ rest) is = cc

-- two sites are one, or a test tells them apart
decide_site : (a b : Site) → (a ≡ b) ⊎ (same_site a b ≡ false)
decide_site De De = inl refl
decide_site De (Ce slot) = inr refl
decide_site De Temp = inr refl
decide_site (Ce slot) De = inr refl
decide_site (Ce slot) (Ce other) = elim (decide_key slot_total slot_exact slot other)
    as (λ _. (Ce slot ≡ Ce other) ⊎ (same_site (Ce slot) (Ce other) ≡ false)) [
      | inl same ↦ inl (ap Ce same)
      | inr differ ↦ inr (apart slot_total slot_exact slot other differ)
    ]
decide_site (Ce slot) Temp = inr refl
decide_site Temp De = inr refl
decide_site Temp (Ce slot) = inr refl
decide_site Temp Temp = inl refl

not-itself : (site other : Site) → other ≡ site → same_site other site ≡ false → ⊥
not-itself site other same away =
    false≢true (sym away ∙ subst (λ s. same_site s site ≡ true) (sym same) (at-itself site))

-- the sites of slots are those of credential keys
in-sites : (slots : List Slot) (slot : Slot) → Contains slots slot → Contains (sites_of slots) (Ce slot)
in-sites [] slot has = absurd (Contains-none slot has)
in-sites (first ∷ slots) slot has = elim (Contains-cases first slots slot has) [
  | inl same ↦ subst (λ s. Contains (sites_of (first ∷ slots)) (Ce s)) same
      (Contains-first (Ce first) (sites_of slots))
  | inr rest ↦ Contains-rest (Ce first) (sites_of slots) (Ce slot) (in-sites slots slot rest)
]

record IsSlotOf (slots : List Slot) (site : Site) : Type 0 where
  slot : Slot
  is : Ce slot ≡ site
  has : Contains slots slot

of-sites : (slots : List Slot) (site : Site) → Contains (sites_of slots) site → IsSlotOf slots site
of-sites [] site has = absurd (Contains-none site has)
of-sites (first ∷ slots) site has = elim (Contains-cases (Ce first) (sites_of slots) site has) [
  | inl same ↦ record { slot = first; is = same; has = Contains-first first slots }
  | inr rest ↦ let of = of-sites slots site rest in
      record { slot = of.slot; is = of.is; has = Contains-rest first slots of.slot of.has }
]

pub no-temp : (slots : List Slot) → ¬ (Contains (De ∷ sites_of slots) Temp)
no-temp slots has = elim (Contains-cases De (sites_of slots) Temp has) [
  | inl same ↦ cc
  | inr rest ↦ let of = of-sites slots Temp rest in let differ : Ce of.slot ≡ Temp = of.is in cc
]

pub no-device : (slots : List Slot) → ¬ (Contains (sites_of slots) De)
no-device slots has = let of = of-sites slots De has in let differ : Ce of.slot ≡ De = of.is in cc

-- once the directory at a site is removed, directories stand at the others
module _ (view : Part) (site : Site) where
  removed-sites : (sites rest : List Site) → HasSites view sites
      → ((other : Site) → Contains rest other → Contains sites other × (same_site other site ≡ false))
      → ((other : Site) → same_site other site ≡ false → Contains sites other → Contains rest other)
      → HasSites (after_local view (RemoveDir site)) rest
  removed-sites sites rest has among left = record {
    there = λ other is. let was = among other is in
        subst IsSome (sym (frame view Same (RemoveDir site) other was.1)) (has.there other was.0);
    all = λ other is. elim (decide_site other site) [
      | inl same ↦ absurd (false≢true (sym (ap is_some (ap (λ t. cond t None (view other))
          (subst (λ s. same_site s site ≡ true) (sym same) (at-itself site)))) ∙ is))
      | inr away ↦ left other away (has.all other (subst IsSome (frame view Same (RemoveDir site) other away) is))
    ];
  }

  pub first-removed : (rest : List Site) → ¬ (Contains rest site) → HasSites view (site ∷ rest)
      → HasSites (after_local view (RemoveDir site)) rest
  first-removed rest lacks has = removed-sites (site ∷ rest) rest has
      (λ other among. (
        Contains-rest site rest other among,
        elim (decide_site other site) as (λ _. same_site other site ≡ false) [
          | inl same ↦ absurd (lacks (subst (Contains rest) same among))
          | inr away ↦ away
        ],
      ))
      (λ other away among. elim (Contains-cases site rest other among) [
        | inl same ↦ absurd (not-itself site other (sym same) away)
        | inr behind ↦ behind
      ])

pub slot-removed : (view : Part) (slot : Slot) (slots : List Slot) → HasSites view (sites_of (slot ∷ slots))
    → HasSites (after_local view (RemoveDir (Ce slot))) (sites_of (without slot (slot ∷ slots)))
slot-removed view slot slots has = removed-sites view (Ce slot) (sites_of (slot ∷ slots)) _ has
    (λ other among.
    let of = of-sites (without slot (slot ∷ slots)) other among in
    let left = of-without slot (slot ∷ slots) of.slot of.has in
    subst (λ s. Contains (sites_of (slot ∷ slots)) s × (same_site s (Ce slot) ≡ false)) of.is
    (in-sites (slot ∷ slots) of.slot left.1, apart slot_total slot_exact of.slot slot left.0))
    (λ other away among.
    let of = of-sites (slot ∷ slots) other among in
    let differ : of.slot ≢ slot = λ same. not-itself (Ce slot) other (sym of.is ∙ ap Ce same) away in
    subst (Contains (sites_of (without slot (slot ∷ slots)))) of.is
    (in-sites (without slot (slot ∷ slots)) of.slot (in-without slot (slot ∷ slots) of.slot differ of.has)))

-- with no directory left a sync leaves none anywhere
pub vacant-synced : (own : OwnWorld) → HasSites (own_view own) [] → Holds Vacant (settled own)
vacant-synced own has = λ left site is.
    ap (λ (part : Part). part site) is
    ∙ none-unless (own_view own site) (λ there. Contains-none site (has.all site there))

-- the device key's directory is removed, and the user is no longer there
pub end-step : (meaning : Meaning) (user : ℕ) (own : OwnWorld) → IsSome (own_view own De)
    → StepShows meaning user own (record { op = RemoveDir De; note = Some Destroyed }) []
end-step meaning user own there = record {
  fits = there;
  noted = refl;
  keeps = record {
    keeps = λ left fill is stands. subst (λ op. after_local left op De ≡ None) (sym (whole-remove De fill)) refl;
  };
  leads = tt;
}

pub end-gains : (own : OwnWorld) → Gains own (RemoveDir De) []
end-gains own = record {
  gained = λ left fill blob is names.
      let gone = subst (λ op. PartNames (after_local left op) blob) (whole-remove De fill) names in
      absurd (false≢true gone.present);
  named = λ blob gains. absurd (Contains-none blob gains);
  kept = λ blob names. inr tt;
}

-- a credential key's directory, of a user who is no longer there
pub sweep-step : (meaning : Meaning) (user : ℕ) (own : OwnWorld) (slot : Slot) → OwnImagesStand meaning user own
    → own_record own ≡ None → IsSome (own_view own (Ce slot))
    → StepShows meaning user own (quiet (RemoveDir (Ce slot))) []
sweep-step meaning user own slot stand absent there = record {
  fits = there;
  noted = ap (λ found. kind_if (is_some found) DropKind) (absent-view meaning user own stand absent);
  keeps = keeps-absent meaning user own (RemoveDir (Ce slot)) absent refl;
  leads = tt;
}

-- a change stays logged where another operation makes none
pub logged-still : (own : OwnWorld) (op : LocalOp) (change : LocalChange) → Holds (Logged change) own
    → Holds (Logged change) (with_step own (quiet op))
logged-still own op change has = subst (λ changes. Contains changes change) (sym (log-step own (quiet op)))
    (Contains-append_left (own_log own) [] change has)

pub logged-settled : (own : OwnWorld) (change : LocalChange) → Holds (Logged change) own
    → Holds (Logged change) (settled own)
logged-settled own change has = subst (λ changes. Contains changes change) (sym (log-settled own)) has
