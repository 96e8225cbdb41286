-- The slot that an unlock keeps: the one that opened is the newest under the secret, it stays so while the others are
-- dropped, and no other slot is.
use Rattle.std.proofs.Common.{◌≡◌, ◌≢◌, ◌⊎◌, inl, inr, ℕ, List, refl, sym, ap, ◌∙◌, subst}
use Rattle.std.specs.FinMap as map
use Rattle.std.specs.Prelude.{Option, Some, None, is_some, IsSome, IfSome}
use Rattle.std.specs.Ordering.{ordering_reverse}
use Rattle.std.specs.declared.cmp.Ordering.TheVariants.{Less, Equal, Greater}
use Rattle.std.proofs.lemmas.Option.{none-some, same_Some}
use Rattle.tree_model.specs.declared.places.Class.{Class}
use Rattle.tree_model.specs.declared.places.Slot.{Slot}
use Rattle.tree_model.specs.declared.sites.Site.TheVariants.{Ce}
use Rattle.tree_model.specs.Dir.{Files}
use Rattle.tree_model.specs.Held.{held_in}
use Rattle.tree_model.specs.Order.{slot_cmp, slot_total, slot_exact}
use Rattle.journal_model.specs.declared.commands.Command.TheVariants.{Unlock as UnlockCommand}
use Rattle.journal_model.specs.Machine.{Fixes}
use Rattle.journal_model.specs.Made.{key_of}
use Rattle.journal_model.specs.Users.{Record}
use Rattle.user_world.specs.Changes.{change_of}
use Rattle.user_world.specs.OwnWorlds.{own_view}
use Rattle.key_directory.specs.Opened.{WasGiven}
use Rattle.key_directory.specs.Opens.{opens}
use Rattle.key_directory.specs.Vaults.{Attempts, NoChanceMatch, SureOf, OpensAt}
use Rattle.key_directory.proofs.Dropping.{slots-stand}
use Rattle.key_directory.proofs.Opened.{slots-tell}
use Rattle.task_turns.specs.Shares.{Share, IsSound, HasAllSlots, HasSlots, IsFirstOpened, IsNewestUnder, IsKeptUnder}
use Rattle.task_turns.specs.Shares.{IsGiven, IsUnder}
use Rattle.task_turns.specs.Turns.{Scene, GaveRight, KeepsRight, KeepsNewest, opening_secret, operated}
use Rattle.fixate_task.specs.declared.task.Doing.{Doing}
use Rattle.fixate_task.specs.declared.task.Doing.TheVariants.{Drop, Settle}
use Rattle.fixate_task.specs.Task.{Fixing, after as fix_after, without, op_of, change_by}
use Rattle.user_tasks.proofs.BegunSlots.{slots-split}
use Rattle.user_tasks.proofs.Fixing.{MovesOn, KeepsUser, under-moved}
use Rattle.user_tasks.proofs.Openings.{Known, known-user}

module _ (user : ℕ) (share : Share) (sound : IsSound user share) (secret : List ℕ) (slot : Slot) (key : List ℕ)
    (opened : IsFirstOpened share secret slot key) where
  is-known : Known user share sound opened.present
  is-known = known-user user share sound opened.present

  recorded : IsSome (map.get is-known.known.secrets slot)
  recorded = sym (slots-stand share.vault user (own_view share.own) is-known.known is-known.stands slot)
      ∙ ap is_some opened.there

  -- of all the user's slots it is one, and the others are those without it
  pub keeps-slots : (slots : List Slot) → HasAllSlots share slots → HasSlots share slot (without slot slots)
  keeps-slots slots all = slots-split share slots slot all (subst (λ (k : Record). IsSome (map.get k.secrets slot))
      (same_Some is-known.known all.known (sym is-known.there ∙ all.there)) recorded)

  -- a slot whose directory opens to nothing with the secret isn't under it
  not-under : (other : Slot) (found : Option Files) (under : Option (List ℕ)) (right : List ℕ)
      → OpensAt share.vault user (Ce other) found under right
      → ((dir : Files) → found ≡ Some dir → opens share.vault.entries share.vault.level (held_in dir) secret ≡ None)
      → under ≢ Some secret
  not-under other None None right opens_at shut is = cc
  not-under other None (Some given) right opens_at shut is = absurd opens_at
  not-under other (Some dir) None right opens_at shut is = cc
  not-under other (Some dir) (Some given) right opens_at shut is =
      none-some opens_at.opened (sym (shut dir refl)
      ∙ subst (λ s. opens share.vault.entries share.vault.level (held_in dir) s ≡ Some opens_at.opened)
      (same_Some given secret is) opens_at.opens_to)

  -- where no tag matched by chance it is the newest one under the secret
  pub kept-under : WasGiven (share.vault.attempts user) secret → IsKeptUnder share user secret slot
  kept-under gave = record {
    known = is-known.known;
    there = is-known.there;
    newest = λ sure. record {
      under = (slots-tell share.vault user (own_view share.own) is-known.known slot opened.files secret is-known.stands
          opened.there).under sure gave key opened.opens.opens_to;
      newest = λ other newer. not-under other (own_view share.own (Ce other))
          (map.get is-known.known.secrets other) _ (is-known.stands.opens (Ce other))
          (λ dir there. (opened.newer other dir newer there).opens_to);
    };
  }

-- the user's record and the slot that is kept after a change
module _ (share : Share) (fixing : Fixing) (doing : Doing) (user : ℕ) where
  abbrev share_then : Share
  share_then = operated share (op_of doing) (Some (change_by doing))

  pub under-then : (secret : List ℕ) (under : IsKeptUnder share user secret fixing.kept)
      → MovesOn share fixing under.known doing → IsKeptUnder share_then user secret (fix_after fixing).kept
  under-then secret under moved = record {
    known = moved.then;
    there = moved.there;
    newest = λ sure. under-moved moved.moves secret (under.newest sure);
  }

  pub given-then : (class : Class) (key : List ℕ) (given : IsGiven share user class key)
      → MovesOn share fixing given.known doing → IsGiven share_then user class key
  given-then class key given moved = record {
    known = moved.then;
    there = moved.there;
    given = λ sure.
        given.given sure ∙ ap (λ birth. key_of share.vault.seed class user birth) (sym moved.moves.birth);
  }

-- and where the user's record stays
module _ (before after : Share) (keeps : KeepsUser before after) (user : ℕ) where
  pub under-last : (secret : List ℕ) (slot : Slot) → IsKeptUnder before user secret slot
      → IsKeptUnder after user secret slot
  under-last secret slot under = record {
    known = under.known;
    there = keeps.known ∙ under.there;
    newest = λ sure. under.newest (subst (λ attempts. NoChanceMatch (attempts user)) keeps.attempts sure);
  }

  pub given-last : (class : Class) (key : List ℕ) → IsGiven before user class key → IsGiven after user class key
  given-last class key given = record {
    known = given.known;
    there = keeps.known ∙ given.there;
    given = λ sure. given.given (subst (λ attempts. SureOf (attempts user) class) keeps.attempts sure)
        ∙ ap (λ seed. key_of seed class user given.known.birth) (sym keeps.seed);
  }

-- the secret is a right one
right-under : (share : Share) (user : ℕ) (secret : List ℕ) (slot : Slot) → IsKeptUnder share user secret slot
    → IsUnder share user secret
right-under share user secret slot under = record {
  known = under.known;
  there = under.there;
  under = λ sure. record { slot = slot; under = (under.newest sure).under };
}

-- one of two slots is the newer one
newer-of : (slot other : Slot) → slot ≢ other → (slot_cmp slot other ≡ Less) ⊎ (slot_cmp other slot ≡ Less)
newer-of slot other differ = elim (slot_cmp slot other) as (λ order. slot_cmp slot other ≡ order
    → (slot_cmp slot other ≡ Less) ⊎ (slot_cmp other slot ≡ Less)) [
      | Less ↦ λ is. inl is
      | Equal ↦ λ is. absurd (differ (slot_exact slot other is))
      | Greater ↦ λ is. inr (slot_total.antisymm other slot ∙ ap ordering_reverse is)
    ] refl

-- so of two slots one is not the newest under a secret
not-both : (known : Record) (secret : List ℕ) (slot other : Slot) → slot ≢ other → IsNewestUnder known secret slot
    → IsNewestUnder known secret other → ⊥
not-both known secret slot other differ one also = elim (newer-of slot other differ) [
  | inl newer ↦ one.newest other newer also.under
  | inr older ↦ also.newest slot older one.under
]

module _ (scene : Scene) (user : ℕ) (secret : List ℕ) (is : scene.began.command ≡ UnlockCommand user secret)
    (kept : Slot) (under : IsKeptUnder scene.share user secret kept) where
  pub unlock-right : GaveRight user scene
  unlock-right = subst (λ command. IfSome (opening_secret command) (IsUnder scene.share user)) (sym is)
      (right-under scene.share user secret kept under)

  spares-newest : (attempts : Attempts) → (NoChanceMatch attempts → IsNewestUnder under.known secret kept)
      → (doing : Doing) → Fixes user under.known kept (change_of user (change_by doing))
      → KeepsNewest attempts under.known (change_by doing) secret
  spares-newest attempts newest (Drop slot) fixes = λ sure also.
      not-both under.known secret slot kept fixes.1 also (newest sure)
  spares-newest attempts newest (Settle slot) fixes = tt

  -- what an unlock drops isn't the newest one under its secret
  pub unlock-keeps : (doing : Doing) → Fixes user under.known kept (change_of user (change_by doing))
      → KeepsRight user scene (change_by doing)
  unlock-keeps doing fixes = subst (λ found. IfSome found (λ known. IfSome (opening_secret scene.began.command)
      (KeepsNewest (scene.share.vault.attempts user) known (change_by doing)))) (sym under.there)
      (subst (λ command. IfSome (opening_secret command)
      (KeepsNewest (scene.share.vault.attempts user) under.known (change_by doing))) (sym is)
      (spares-newest (scene.share.vault.attempts user) under.newest doing fixes))
