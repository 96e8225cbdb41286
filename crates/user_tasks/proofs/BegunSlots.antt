-- An unlock, a fixate and a destroy begin with what is known of their user's slots.
use Rattle.std.proofs.Common.{◌≡◌, ℕ, Bool, true, false, cond, List, [], ◌∷◌, length, refl, sym, ◌∙◌, subst, arith}
use Rattle.std.proofs.Common.{◌≤◌, ◌+◌, inl, inr}
use Rattle.std.specs.FinMap as map
use Rattle.std.specs.Prelude.{IsSome}
use Rattle.std.specs.Ordering.{eq_by_cmp}
use Rattle.std.proofs.lemmas.Option.{same_Some}
use Rattle.tree_model.specs.declared.places.Class.TheVariants.{De as ForDe, Ce as ForCe}
use Rattle.tree_model.specs.declared.places.Slot.{Slot}
use Rattle.tree_model.specs.declared.places.Slot.TheVariants.{Current}
use Rattle.tree_model.specs.Order.{slot_cmp, slot_total, slot_exact}
use Rattle.tree_model.proofs.Maps.{decide_key}
use Rattle.journal_model.specs.declared.commands.Command.TheVariants.{Unlock as UnlockCommand, Fixate as FixateCommand}
use Rattle.journal_model.specs.declared.commands.Command.TheVariants.{Destroy as DestroyCommand}
use Rattle.journal_model.specs.declared.entries.Birth.{Birth}
use Rattle.journal_model.specs.Users.{Record}
use Rattle.keystore_model.proofs.Elements.{Contains-none}
use Rattle.task_turns.specs.Shares.{Share, ShareFact, HasKey, AllHas, AreHeld, HasAllSlots, HasSlots}
use Rattle.task_turns.specs.Turns.{Rests}
use Rattle.fixate_task.specs.Task.{without, first, left_of}
use Rattle.fixate_task.proofs.Without.{length-without, in-without, of-without}
use Rattle.user_tasks.specs.declared.looks.Known.{Known}
use Rattle.user_tasks.specs.declared.tasks.UserTask.TheVariants.{Unlock as OfUnlock, Fixate as OfFixate}
use Rattle.user_tasks.specs.declared.tasks.UserTask.TheVariants.{Destroy as OfDestroy}
use Rattle.user_tasks.specs.Destroy.{Destroying, first_destroy, rest_before, destroy_rest, no_keys}
use Rattle.user_tasks.specs.Fixate.{first_fixate}
use Rattle.user_tasks.specs.Tasks.{Begins, accepted}
use Rattle.user_tasks.specs.Unlock.{first_unlock}

-- of all the user's slots, the one that is kept and the others
pub slots-split : (share : Share) (slots : List Slot) (kept : Slot) (all : HasAllSlots share slots)
    → IsSome (map.get all.known.secrets kept) → HasSlots share kept (without kept slots)
slots-split share slots kept all there = record {
  known = all.known;
  there = all.there;
  has_kept = there;
  has_others = λ slot among. let of = of-without kept slots slot among in (of.0, all.has slot of.1);
  all = λ slot has. elim (decide_key slot_total slot_exact slot kept) [
    | inl same ↦ inl same
    | inr differ ↦ inr (in-without kept slots slot differ (all.all slot has))
  ];
}

-- a destroy rests on the sites of its user's directories, and on what is known of the user's keys
module _ (birth : Birth) (destroy : Destroying) (share : Share) where
  before-rests : (keys : List ShareFact) (has_temp : Bool) (more : ℕ) → AreHeld [] keys
      → AllHas (rest_before destroy keys has_temp more).facts share
      → Rests (rest_before destroy keys has_temp more) birth.boot
      (accepted (DestroyCommand destroy.user) birth.index) share
  before-rests keys has_temp more known has = record {
    of_user = refl;
    accepted = refl;
    serves = record { command = refl; so_far = refl };
    facts = has;
    known = (tt, (tt, known));
    owned = λ blob none. absurd (Contains-none blob none);
  }

module _ (user : ℕ) (birth : Birth) (boot_seed : List ℕ) (known : Known) where
  pub unlock-begins : (secret : List ℕ) (job : ℕ)
      → Begins (UnlockCommand user secret) birth boot_seed known
      (OfUnlock (first_unlock user known.slots.items known.to_try.items secret job))
  unlock-begins secret job = record {
    owned = refl;
    few = omega arith;
    makes = omega arith;
    draws = omega arith;
    held = refl;
    rests = λ facts share present installed accepted seeded knows. record {
      of_user = refl;
      accepted = refl;
      serves = record { command = refl; changes = refl; shut = refl };
      facts = (knows.0.gave, (knows.1, (knows.0.left, tt)));
      known = (tt, (tt, (tt, tt)));
      owned = λ blob none. absurd (Contains-none blob none);
    };
  }

  fixate-left : left_of (first known.slots.items known.newest) ≤ length known.slots.items + 1
  fixate-left = let fewer = length-without known.newest known.slots.items in
      elim (eq_by_cmp slot_cmp known.newest Current) as (λ t. length (without known.newest known.slots.items)
      + cond t 0 1 ≤ length known.slots.items + 1) [
        | true ↦ omega arith
        | false ↦ omega arith
      ]

  pub fixate-begins : Begins (FixateCommand user) birth boot_seed known
      (OfFixate (first_fixate user known.slots.items known.newest))
  fixate-begins = record {
    owned = refl;
    few = omega (arith, fixate-left);
    makes = omega arith;
    draws = omega arith;
    held = refl;
    rests = λ facts share present installed accepted seeded knows. record {
      of_user = refl;
      accepted = refl;
      serves = record { command = refl };
      facts = (
        slots-split share known.slots.items known.newest knows.0
            (subst (λ (one : Record). IsSome (map.get one.secrets known.newest))
            (same_Some _ _ (sym knows.1.there ∙ knows.0.there)) knows.1.newest.there),
        (knows.1, tt),
      );
      known = (tt, (tt, tt));
      owned = λ blob none. absurd (Contains-none blob none);
    };
  }

  -- by what is in the ring and whether a temporary directory is there
  abbrev begun_destroy : Bool → Bool → Bool → Destroying
  begun_destroy has_ce has_de has_temp = first_destroy user known.slots.items has_ce has_de has_temp

  destroy-few : (has_ce has_de has_temp : Bool)
      → (destroy_rest (begun_destroy has_ce has_de has_temp)).left ≤ length known.slots.items + 5
  destroy-few true has_de has_temp = omega arith
  destroy-few false true has_temp = omega arith
  destroy-few false false true = omega arith
  destroy-few false false false = omega arith

  destroy-rests : (has_ce has_de has_temp : Bool) (share : Share)
      → AllHas (rest_before (begun_destroy has_ce has_de has_temp)
      (HasKey ForCe has_ce ∷ HasKey ForDe has_de ∷ []) has_temp 0).facts share
      → Rests (destroy_rest (begun_destroy has_ce has_de has_temp)) birth.boot
      (accepted (DestroyCommand user) birth.index) share
  destroy-rests true has_de has_temp share has = before-rests birth (begun_destroy true has_de has_temp) share
      (HasKey ForDe has_de ∷ []) has_temp 2 (tt, tt) (has.0, (has.1.0, has.1.1.1))
  destroy-rests false true has_temp share has = before-rests birth (begun_destroy false true has_temp) share
      (HasKey ForCe false ∷ []) has_temp 1 (tt, tt) (has.0, (has.1.0, (has.1.1.0, tt)))
  destroy-rests false false true share has = before-rests birth (begun_destroy false false true) share no_keys true 0
      (tt, (tt, tt)) has
  destroy-rests false false false share has = before-rests birth (begun_destroy false false false) share no_keys
      false 0 (tt, (tt, tt)) has

  destroy-free : (has_ce has_de has_temp : Bool) →
      let rest = destroy_rest (begun_destroy has_ce has_de has_temp) in
      (rest.makes ≡ 0) × (rest.draws ≡ 0) × (rest.held ≡ [])
  destroy-free true has_de has_temp = (refl, refl, refl)
  destroy-free false true has_temp = (refl, refl, refl)
  destroy-free false false true = (refl, refl, refl)
  destroy-free false false false = (refl, refl, refl)

  pub destroy-begins : Begins (DestroyCommand user) birth boot_seed known
      (OfDestroy (begun_destroy known.has_ce known.has_de known.has_temp))
  destroy-begins =
      let free = destroy-free known.has_ce known.has_de known.has_temp in
      let few = destroy-few known.has_ce known.has_de known.has_temp in
      record {
        owned = refl;
        few = omega (arith, few);
        makes = omega (arith, free.0);
        draws = omega (arith, free.1);
        held = free.2;
        rests = λ facts share present installed accepted seeded knows.
            destroy-rests known.has_ce known.has_de known.has_temp share
            (knows.0, (knows.1, (knows.2, (knows.3, tt))));
      }
