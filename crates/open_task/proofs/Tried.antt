-- What is known once the directory in the slot at hand was tried: it opened, and no newer one does, or the next slot
-- is at hand.
use Rattle.std.proofs.Common.{◌≡◌, ℕ, List, ◌∷◌, sym, ap, ◌∙◌, subst, inl, inr}
use Rattle.std.specs.Prelude.{Option, Some, None}
use Rattle.std.specs.declared.cmp.Ordering.TheVariants.{Less}
use Rattle.tree_model.specs.declared.places.Slot.{Slot}
use Rattle.tree_model.specs.declared.sites.Site.TheVariants.{Ce}
use Rattle.tree_model.specs.Dir.{Files}
use Rattle.tree_model.specs.Held.{held_in}
use Rattle.tree_model.specs.Order.{slot_cmp, slot_total}
use Rattle.journal_model.specs.Users.{Record}
use Rattle.keystore_model.proofs.Elements.{Contains-cases, Contains-rest}
use Rattle.user_world.specs.OwnWorlds.{own_view, own_record}
use Rattle.user_world.proofs.OwnWorlds.{view-stands}
use Rattle.key_directory.specs.Opened.{OpensTo, SlotTells}
use Rattle.key_directory.specs.Opens.{opens}
use Rattle.key_directory.specs.Vaults.{sealed, SealedStands}
use Rattle.key_directory.proofs.Apart.{known-there}
use Rattle.key_directory.proofs.Opened.{slots-tell}
use Rattle.task_turns.specs.Shares.{Share, AllHas, IsSound, AreLeftToTry, IsFirstOpened}
use Rattle.open_task.specs.Task.{Opening, facts_of, opened, with_stage}

-- a slot isn't newer than one that is newer than it
apart : (slot other : Slot) → slot_cmp slot other ≡ Less → slot_cmp other slot ≡ Less → ⊥
apart slot other newer older = let turned = slot_total.antisymm slot other in
    let cross = sym newer ∙ turned ∙ ap (λ o. Rattle.std.specs.Ordering.ordering_reverse o) older in cc

not-newer : (slot : Slot) → slot_cmp slot slot ≡ Less → ⊥
not-newer slot newer = apart slot slot newer newer

module _ (task : Opening) (share : Share) (sound : IsSound task.user share) (slot : Slot) (slots : List Slot)
    (files : Files) (left : AreLeftToTry share task.secret (slot ∷ slots))
    (there : own_view share.own (Ce slot) ≡ Some files) where
  -- the user's record, for which the view stands
  known : (known : Record)
      × SealedStands share.vault task.user (Rattle.tree_model.specs.Parts.standing (own_view share.own)) known
  known = known-there share.vault task.user (own_view share.own) (own_record share.own)
      (view-stands (sealed share.vault) task.user share.own sound.images) left.present

  tells : SlotTells share.vault task.user known.0 slot files task.secret
  tells = slots-tell share.vault task.user (own_view share.own) known.0 slot files task.secret known.1 there

  opens-to : (key : Option (List ℕ)) → opens share.vault.entries share.vault.level (held_in files) task.secret ≡ key
      → OpensTo share.vault files task.secret key
  opens-to key is = record { live = tells.live; opens_to = is }

  same-files : (dir : Files) → own_view share.own (Ce slot) ≡ Some dir → files ≡ dir
  same-files dir is = let same : Some files ≡ Some dir = sym there ∙ is in cc

  -- the slot doesn't open
  shut : opens share.vault.entries share.vault.level (held_in files) task.secret ≡ None
      → AreLeftToTry share task.secret slots
  shut none = record {
    present = left.present;
    tried = λ other dir is. elim (left.tried other dir is) [
      | inl among ↦ elim (Contains-cases slot slots other among) [
        | inl same ↦ inr (subst (λ d. OpensTo share.vault d task.secret None)
            (same-files dir (ap (λ s. own_view share.own (Ce s)) same ∙ is)) (opens-to None none))
        | inr rest ↦ inl rest
      ]
      | inr closed ↦ inr closed
    ];
    may = λ other among. left.may other (Contains-rest slot slots other among);
    order = left.order.1;
  }

  -- it opens
  first : (key : List ℕ) → opens share.vault.entries share.vault.level (held_in files) task.secret ≡ Some key
      → IsFirstOpened share task.secret slot key
  first key is = record {
    present = left.present;
    files = files;
    there = there;
    opens = opens-to (Some key) is;
    newer = λ other dir newer at. elim (left.tried other dir at) [
      | inl among ↦ elim (Contains-cases slot slots other among) [
        | inl same ↦ absurd (not-newer slot (subst (λ s. slot_cmp slot s ≡ Less) (sym same) newer))
        | inr rest ↦ absurd (apart slot other newer (left.order.0 other rest))
      ]
      | inr closed ↦ closed
    ];
  }

  pub tried : (key : Option (List ℕ))
      → opens share.vault.entries share.vault.level (held_in files) task.secret ≡ key
      → AllHas (facts_of (with_stage (record task { left = slot ∷ slots }) (opened key))) share
  tried None is = (shut is, tt)
  tried (Some key) is = (first key is, tt)
