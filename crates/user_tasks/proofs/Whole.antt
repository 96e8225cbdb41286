-- What is known of a user's whole part, at every progress of the directory that is being stored.
use Rattle.std.proofs.Common.{◌≡◌, ◌≢◌, ℕ, List, refl, sym, ap, ◌∙◌, subst}
use Rattle.std.specs.Prelude.{Option, Some, None}
use Rattle.tree_model.specs.declared.blobs.Blob.{Blob}
use Rattle.tree_model.specs.declared.places.Slot.TheVariants.{Current, Cx}
use Rattle.tree_model.specs.declared.sites.Site.{Site}
use Rattle.tree_model.specs.declared.sites.Site.TheVariants.{De, Ce, Temp}
use Rattle.tree_model.specs.Dir.{Files}
use Rattle.tree_model.specs.Parts.{Part}
use Rattle.tree_model.proofs.Parts.{fun_ext}
use Rattle.user_world.specs.OwnWorlds.{OwnWorld, own_view}
use Rattle.user_world.specs.Facts.{Here, Always, Holds}
use Rattle.user_world.proofs.Facts.{always-settled}
use Rattle.user_world.proofs.OwnWorlds.{view-image}
use Rattle.task_turns.specs.Shares.{Share, AllHas, AreHeld}
use Rattle.task_turns.specs.Turns.{synced}
use Rattle.store_task.specs.declared.stages.Progress.{Progress}
use Rattle.store_task.specs.declared.stages.Progress.TheVariants.{Absent, Made, Versioned, Discardable, Named, Keyed}
use Rattle.store_task.specs.declared.stages.Progress.TheVariants.{Settled, Stored}
use Rattle.user_tasks.specs.Stores.{part, whole_at, still_at, whole_facts}

-- two parts are one where they are site by site
pub same-parts : (a b : Part) → a De ≡ b De → a (Ce Current) ≡ b (Ce Current)
    → ((n : ℕ) → a (Ce (Cx n)) ≡ b (Ce (Cx n))) → a Temp ≡ b Temp → a ≡ b
same-parts a b de current cx temp = fun_ext a b sites
  where
    sites : (site : Site) → a site ≡ b site
    sites De = de
    sites (Ce Current) = current
    sites (Ce (Cx n)) = cx n
    sites Temp = temp

module _ (own : OwnWorld) (whole : Part) where
  pub always-here : Holds (Always whole) own → Holds (Here whole) own
  always-here always = always (own_view own) (view-image own.stable own.pending)

  -- the view is the part
  pub whole-view : (progress : Progress) → Holds (whole_at progress whole) own → own_view own ≡ whole
  whole-view Absent holds = holds
  whole-view Made holds = holds
  whole-view Versioned holds = holds
  whole-view Discardable holds = holds
  whole-view Named holds = holds
  whole-view Keyed holds = holds
  whole-view Settled holds = always-here holds
  whole-view Stored holds = holds

  -- that is enough where the directory isn't synced
  pub whole-here : (progress : Progress) → progress ≢ Settled → own_view own ≡ whole
      → Holds (whole_at progress whole) own
  whole-here Absent other here = here
  whole-here Made other here = here
  whole-here Versioned other here = here
  whole-here Discardable other here = here
  whole-here Named other here = here
  whole-here Keyed other here = here
  whole-here Settled other here = absurd (other refl)
  whole-here Stored other here = here

  pub whole-always : (progress : Progress) → progress ≡ Settled → Holds (Always whole) own
      → Holds (whole_at progress whole) own
  whole-always progress is always = subst (λ p. Holds (whole_at p whole) own) (sym is) always

-- the same part, whose temporary directory is known
part-temp : (view : Part) (current temp other : Option Files) → view ≡ part current temp → view Temp ≡ other
    → view ≡ part current other
part-temp view current temp other here is = here ∙ ap (part current) (sym (ap (λ p. p Temp) here) ∙ is)

-- of a user who is there nothing is known before the sync
pub none-still : (progress : Progress) (share : Share) → progress ≢ Settled → AllHas (still_at progress) share
none-still Absent share other = tt
none-still Made share other = tt
none-still Versioned share other = tt
none-still Discardable share other = tt
none-still Named share other = tt
none-still Keyed share other = tt
none-still Settled share other = absurd (other refl)
none-still Stored share other = tt

still-held : (held : List Blob) (progress : Progress) → AreHeld held (still_at progress)
still-held held Absent = tt
still-held held Made = tt
still-held held Versioned = tt
still-held held Discardable = tt
still-held held Named = tt
still-held held Keyed = tt
still-held held Settled = (tt, tt)
still-held held Stored = tt

pub whole-held : (held : List Blob) (current : Option (Option Files)) (progress : Progress) (temp : Option Files)
    → AreHeld held (whole_facts current progress temp)
whole-held held None progress temp = still-held held progress
whole-held held (Some current) progress temp = (tt, tt)

-- what is known goes on where the temporary directory stays, and after a sync
module _ (share : Share) (progress then : Progress) (temp after : Option Files) where
  pub whole-prepared : (current : Option (Option Files)) → then ≢ Settled → temp ≡ after
      → AllHas (whole_facts current progress temp) share → AllHas (whole_facts current then after) share
  whole-prepared None unsettled same has = none-still then share unsettled
  whole-prepared (Some current) unsettled same has = (
    whole-here share.own _ then unsettled (whole-view share.own _ progress has.0 ∙ ap (part current) same),
    tt,
  )

  pub whole-synced : (current : Option (Option Files)) → then ≡ Settled → own_view share.own Temp ≡ after
      → AllHas (whole_facts current progress temp) share → AllHas (whole_facts current then after) (synced share)
  whole-synced None settled is has = subst (λ p. AllHas (still_at p) (synced share)) (sym settled) (refl, tt)
  whole-synced (Some current) settled is has = (
    whole-always (synced share).own _ then settled (always-settled share.own _
        (part-temp (own_view share.own) current temp after (whole-view share.own _ progress has.0) is)),
    tt,
  )
