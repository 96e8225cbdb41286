-- Operations of a user's command that no standing directory feels: those in the temporary directory.
use Rattle.std.proofs.Common.{◌≡◌, ◌≢◌, ℕ, true, false, List, [], refl, sym, ap, ◌∙◌, inl, inr}
use Rattle.std.specs.Prelude.{◌||◌, Option, Some, None}
use Rattle.tree_model.specs.declared.blobs.Blob.{Blob}
use Rattle.tree_model.specs.declared.ops.Fill.TheVariants.{Same}
use Rattle.tree_model.specs.declared.places.Slot.TheVariants.{Current, Cx}
use Rattle.tree_model.specs.declared.sites.Site.{Site}
use Rattle.tree_model.specs.declared.sites.Site.TheVariants.{De, Ce, Temp}
use Rattle.tree_model.specs.declared.sites.LocalOp.{LocalOp}
use Rattle.tree_model.specs.declared.sites.LocalOp.TheVariants.{MakeDir, Write, RenameFile, RenameDir, RemoveFile}
use Rattle.tree_model.specs.declared.sites.LocalOp.TheVariants.{RemoveDir}
use Rattle.tree_model.specs.Dir.{Files}
use Rattle.tree_model.specs.Parts.{Part, LocalFits, after_local, filled_local, local_kind}
use Rattle.tree_model.specs.Sites.{same_site, touches}
use Rattle.tree_model.proofs.Parts.{frame}
use Rattle.keystore_model.proofs.Elements.{Contains-none}
use Rattle.journal_model.specs.Users.{Record}
use Rattle.user_world.specs.declared.changes.LocalChange.{LocalChange}
use Rattle.user_world.specs.Meaning.{Meaning}
use Rattle.user_world.specs.OwnWorlds.{OwnWorld, quiet, own_view, with_step, IsOwnImage}
use Rattle.user_world.specs.Turns.{StepShows}
use Rattle.user_world.proofs.OwnWorlds.{view-step, view-image, keeps-temp}
use Rattle.blob_custody.specs.Steps.{LetsGo}
use Rattle.blob_custody.proofs.Names.{absent, same-names}
use Rattle.task_turns.specs.Names.{Gains, Brings}
use Rattle.task_turns.specs.Shares.{Share, AllHas}
use Rattle.task_turns.specs.Turns.{drops_most, operated}
use Rattle.store_task.specs.declared.stages.Progress.{Progress}
use Rattle.store_task.specs.declared.stages.Progress.TheVariants.{Settled}
use Rattle.store_task.proofs.ShownTurns.{at-itself}
use Rattle.user_tasks.specs.Stores.{part, whole_facts, op_turn}
use Rattle.user_tasks.specs.Turns.{quiet_turn}
use Rattle.user_tasks.proofs.Whole.{same-parts, whole-view, whole-here, none-still}
use Rattle.task_turns.specs.declared.calls.Call.TheVariants.{Op as OpCall}

-- an operation that leaves each site but the temporary one
abbrev pub IsAside : LocalOp → Type 0
IsAside op = (site : Site) → site ≢ Temp → touches op site ≡ false

true-false : true ≡ false → ⊥
true-false e = cc

-- an operation away from a site doesn't work on it
away-from : (site : Site) → same_site site site ≡ false → ⊥
away-from site is = true-false (sym (at-itself site) ∙ is)

module _ (view : Part) where
  no-rename : (from to : Site) → IsAside (RenameDir from to) → LocalFits view (RenameDir from to) → ⊥
  no-rename De to aside fits = true-false (aside De (λ e. cc))
  no-rename (Ce slot) to aside fits =
      true-false (sym (ap (λ t. t || same_site (Ce slot) to) (at-itself (Ce slot))) ∙ aside (Ce slot) (λ e. cc))
  no-rename Temp De aside fits = true-false (aside De (λ e. cc))
  no-rename Temp (Ce slot) aside fits = away-from (Ce slot) (aside (Ce slot) (λ e. cc))
  no-rename Temp Temp aside fits = true-false (sym fits.0 ∙ fits.1)

  pub aside-kind : (op : LocalOp) → IsAside op → LocalFits view op → local_kind view op ≡ None
  aside-kind (MakeDir site) aside fits = refl
  aside-kind (Write site file bytes) aside fits = refl
  aside-kind (RenameFile site from to) aside fits = refl
  aside-kind (RenameDir from to) aside fits = absurd (no-rename from to aside fits)
  aside-kind (RemoveFile site file) aside fits = refl
  aside-kind (RemoveDir De) aside fits = absurd (true-false (aside De (λ e. cc)))
  aside-kind (RemoveDir (Ce slot)) aside fits = absurd (away-from (Ce slot) (aside (Ce slot) (λ e. cc)))
  aside-kind (RemoveDir Temp) aside fits = refl

  -- it renames nothing, and so brings no blob
  pub aside-brings : (op : LocalOp) → IsAside op → LocalFits view op → Brings view op None
  aside-brings (MakeDir site) aside fits = refl
  aside-brings (Write De file bytes) aside fits = true-false (aside De (λ e. cc))
  aside-brings (Write (Ce slot) file bytes) aside fits = away-from (Ce slot) (aside (Ce slot) (λ e. cc))
  aside-brings (Write Temp file bytes) aside fits = refl
  aside-brings (RenameFile site from to) aside fits = fits
  aside-brings (RenameDir from to) aside fits = absurd (no-rename from to aside fits)
  aside-brings (RemoveFile site file) aside fits = fits
  aside-brings (RemoveDir site) aside fits = refl

  pub aside-turn : (user : ℕ) (op : LocalOp) (named : Option Blob) (change : Option LocalChange) → IsAside op
      → LocalFits view op → op_turn user op named change ≡ quiet_turn (OpCall user op None)
  aside-turn user (MakeDir site) named change aside fits = refl
  aside-turn user (Write site file bytes) named change aside fits = refl
  aside-turn user (RenameFile site from to) named change aside fits = refl
  aside-turn user (RenameDir from to) named change aside fits = absurd (no-rename from to aside fits)
  aside-turn user (RemoveFile site file) named change aside fits = refl
  aside-turn user (RemoveDir site) named change aside fits = refl

-- and removes no directory that could name a blob
pub aside-drops : (op : LocalOp) → IsAside op → (known : Option Record) → drops_most op known ≡ 0
aside-drops (MakeDir site) aside known = refl
aside-drops (Write site file bytes) aside known = refl
aside-drops (RenameFile site from to) aside known = refl
aside-drops (RenameDir from to) aside known = refl
aside-drops (RemoveFile site file) aside known = refl
aside-drops (RemoveDir De) aside known = absurd (true-false (aside De (λ e. cc)))
aside-drops (RemoveDir (Ce slot)) aside known = absurd (away-from (Ce slot) (aside (Ce slot) (λ e. cc)))
aside-drops (RemoveDir Temp) aside known = refl

-- it keeps every image
pub aside-step : (meaning : Meaning) (user : ℕ) (own : OwnWorld) (op : LocalOp) → IsAside op
    → LocalFits (own_view own) op → StepShows meaning user own (quiet op) []
aside-step meaning user own op aside fits = record {
  fits = fits;
  noted = aside-kind (own_view own) op aside fits;
  keeps = keeps-temp meaning user own op (aside De (λ e. cc)) (λ slot. aside (Ce slot) (λ e. cc));
  leads = tt;
}

-- and makes the user's directories name nothing more
pub aside-gains : (own : OwnWorld) (op : LocalOp) → IsAside op → Gains own op []
aside-gains own op aside = record {
  gained = λ left fill blob is names. inl (same-names (after_local left (filled_local fill op)) left blob
      (sym (frame left fill op De (aside De (λ e. cc))))
      (λ slot. sym (frame left fill op (Ce slot) (aside (Ce slot) (λ e. cc)))) names);
  named = λ blob none. absurd (Contains-none blob none);
  kept = λ blob names. inl (same-names (own_view own) (after_local (own_view own) op) blob
      (frame (own_view own) Same op De (aside De (λ e. cc)))
      (λ slot. frame (own_view own) Same op (Ce slot) (aside (Ce slot) (λ e. cc))) names);
}

-- an operation away from the device directory, which stands in no image
pub absent-gains : (own : OwnWorld) (op : LocalOp) → touches op De ≡ false
    → ((left : Part) → IsOwnImage own.stable own.pending left → left De ≡ None) → Gains own op []
absent-gains own op apart none = record {
  gained = λ left fill blob is names. absurd (absent (after_local left (filled_local fill op) De)
      (frame left fill op De apart ∙ none left is) names.present);
  named = λ blob gains. absurd (Contains-none blob gains);
  kept = λ blob names. absurd (absent (own_view own De) (none (own_view own) (view-image own.stable own.pending))
      names.present);
}

-- the whole part after it, by what the temporary directory is then
aside-part : (own : OwnWorld) (op : LocalOp) (current temp then : Option Files) → IsAside op
    → own_view own ≡ part current temp → own_view (with_step own (quiet op)) Temp ≡ then
    → own_view (with_step own (quiet op)) ≡ part current then
aside-part own op current temp then aside here is =
    same-parts (own_view (with_step own (quiet op))) (part current then)
    (stays De (λ e. cc)) (stays (Ce Current) (λ e. cc)) (λ n. stays (Ce (Cx n)) (λ e. cc)) is
  where
    stays : (site : Site) → site ≢ Temp → own_view (with_step own (quiet op)) site ≡ part current temp site
    stays site away =
        ap (λ p. p site) (view-step own (quiet op)) ∙ frame (own_view own) Same op site (aside site away)
        ∙ ap (λ p. p site) here

-- what is known of the whole part after it
pub whole-aside : (share : Share) (progress then : Progress) (temp after : Option Files) (op : LocalOp) → IsAside op
    → then ≢ Settled → (current : Option (Option Files)) → own_view (operated share op None).own Temp ≡ after
    → AllHas (whole_facts current progress temp) share
    → AllHas (whole_facts current then after) (operated share op None)
whole-aside share progress then temp after op aside unsettled None is has =
    none-still then (operated share op None) unsettled
whole-aside share progress then temp after op aside unsettled (Some current) is has = (
  whole-here (operated share op None).own _ then unsettled
      (aside-part share.own op current temp after aside (whole-view share.own _ progress has.0) is),
  tt,
)

-- what is gained is let go, where that is all that was held
pub lets-all : (held : List Blob) → LetsGo held held []
lets-all held = record {
  all = λ blob has. inr has;
  still = λ blob none. absurd (Contains-none blob none);
  apart = λ blob none. absurd (Contains-none blob none);
  were = λ blob has. has;
}
