-- Each turn of a destroy shows what it has to.
use Rattle.std.proofs.Common.{◌≡◌, ℕ, ◌+◌, ◌<◌, Bool, true, false, List, [], ◌∷◌, length, refl, sym, ap, ◌∙◌}
use Rattle.std.proofs.Common.{subst, arith, inl, ◌++◌}
use Rattle.std.specs.FinMap as map
use Rattle.std.specs.Prelude.{Some, None, slice_get}
use Rattle.tree_model.specs.declared.places.Class.{Class}
use Rattle.tree_model.specs.declared.places.Class.TheVariants.{De as ForDe, Ce as ForCe}
use Rattle.tree_model.specs.declared.places.Slot.{Slot}
use Rattle.tree_model.specs.declared.sites.Site.TheVariants.{De, Ce, Temp}
use Rattle.tree_model.specs.declared.sites.LocalOp.TheVariants.{RemoveDir}
use Rattle.tree_model.proofs.Logic.{is_none}
use Rattle.keystore_model.proofs.Elements.{Contains-first}
use Rattle.journal_model.specs.declared.commands.Command.TheVariants.{Destroy as DestroyCommand}
use Rattle.journal_model.specs.declared.entries.Change.TheVariants.{Destroy as DestroyChange}
use Rattle.journal_model.specs.declared.commands.Reply.TheVariants.{Gone}
use Rattle.journal_model.specs.Machine.{AllowsChange, DidDestroy, Evicts}
use Rattle.user_world.specs.declared.changes.LocalChange.TheVariants.{Destroyed}
use Rattle.user_world.specs.Facts.{HasSites}
use Rattle.user_world.specs.OwnWorlds.{Step, quiet, notes, own_view, own_record}
use Rattle.user_world.proofs.Facts.{knows-step, logged-step}
use Rattle.user_world.proofs.OwnWorlds.{view-step}
use Rattle.blob_custody.proofs.Steps.{lets-none}
use Rattle.key_directory.specs.Vaults.{sealed}
use Rattle.task_turns.specs.declared.calls.Answer.TheVariants.{Done}
use Rattle.task_turns.specs.declared.calls.Call.TheVariants.{Sync, Remove}
use Rattle.task_turns.specs.declared.next.Next.{Next}
use Rattle.task_turns.specs.Shares.{Share, ShareFact, HasKey, AllHas, AreHeld}
use Rattle.task_turns.specs.Turns.{Rest, Rests, evidence_in, drops_at, noting, without_key, tells_deletes}
use Rattle.store_task.proofs.ShownTurns.{off-temp}
use Rattle.fixate_task.specs.Task.{without}
use Rattle.fixate_task.proofs.Fixing.{removal-gains}
use Rattle.user_tasks.specs.declared.destroys.Destroy.TheInside.{Inside}
use Rattle.user_tasks.specs.declared.destroys.DestroyStage.{DestroyStage}
use Rattle.user_tasks.specs.declared.destroys.DestroyStage.TheVariants.{EvictingCe, EvictingDe, Clearing, Removing}
use Rattle.user_tasks.specs.declared.destroys.DestroyStage.TheVariants.{Sweeping, Ending}
use Rattle.user_tasks.specs.declared.looks.Looks.{Looks}
use Rattle.user_tasks.specs.declared.tasks.UserTask.TheVariants.{Destroy as OfDestroy}
use Rattle.user_tasks.specs.Destroy.{Destroying, stage_from, sites_of, rest_before, destroy_rest, no_keys}
use Rattle.user_tasks.specs.Destroy.{after_sweeping, after_at, after, removal_turn}
use Rattle.user_tasks.specs.Tasks.{UserTurns, tasks}
use Rattle.user_tasks.specs.Turns.{quiet_turn, removing_turn, ending_turn}
use Rattle.user_tasks.proofs.AsideOps.{aside-step, aside-gains}
use Rattle.user_tasks.proofs.Removing.{no-temp, no-device, first-removed, slot-removed, vacant-synced}
use Rattle.user_tasks.proofs.Removing.{end-step, end-gains, sweep-step, logged-still, logged-settled}
use Rattle.user_tasks.proofs.Removing.{first-slot, no-slot}
use Rattle.user_tasks.proofs.Ending.{IsEnding, ending-shows}
use Rattle.user_tasks.proofs.Leading.{leads-to}
use Rattle.user_tasks.proofs.Rights.{gave-none, keeps-right}

abbrev pub view_of : Inside → Destroying
view_of d = record {
  user = d.user;
  stage = d.stage;
  has_de = d.has_de;
  has_temp = d.has_temp;
  slots = d.slots.items;
}

-- the user has no key of either class
none-in : (share : Share) → AllHas no_keys share → (class : Class) → share.keys class ≡ None
none-in share out ForCe = is_none (share.keys ForCe) out.0
none-in share out ForDe = is_none (share.keys ForDe) out.1.0

module _ (destroy : Destroying) where
  abbrev staged : DestroyStage → Destroying
  staged stage = record destroy { stage = stage }

  at-stage : (stage : DestroyStage) (looks : Looks) (next : Next) → destroy.stage ≡ stage
      → UserTurns (OfDestroy (staged stage)) looks next → UserTurns (OfDestroy destroy) looks next
  at-stage stage looks next here turns = subst (λ s. UserTurns (OfDestroy (staged s)) looks next) (sym here) turns

  -- once the key of this class, with these facts on the keys, is out of the ring, it rests as before the user's end,
  -- with a number of turns left
  record RestsBefore (class : Class) (keys : List ShareFact) (stage : DestroyStage) (most : ℕ) : Type 1 where
    more : ℕ
    fewer : more < most
    left : List ShareFact
    rests : destroy_rest (staged stage) ≡ rest_before destroy left destroy.has_temp more
    known : AreHeld [] left
    has : (share : Share) → AllHas keys share → AllHas left (without_key share class)

  none-rests : (temp : Bool) → destroy.has_temp ≡ temp
      → destroy_rest (staged (stage_from false false temp)) ≡ rest_before destroy no_keys destroy.has_temp 0
  none-rests true is = ap (λ t. rest_before destroy no_keys t 0) (sym is)
  none-rests false is = ap (λ t. rest_before destroy no_keys t 0) (sym is)

  none-left : (class : Class) (keys : List ShareFact) (most : ℕ) → 0 < most
      → ((share : Share) → AllHas keys share → AllHas no_keys (without_key share class))
      → RestsBefore class keys (stage_from false false destroy.has_temp) most
  none-left class keys most some has = record {
    more = 0;
    fewer = some;
    left = no_keys;
    rests = none-rests destroy.has_temp refl;
    known = (tt, (tt, tt));
    has = has;
  }

  without-ce : RestsBefore ForCe (HasKey ForDe destroy.has_de ∷ [])
      (stage_from false destroy.has_de destroy.has_temp) 2
  without-ce = by destroy.has_de refl
    where
      by : (de : Bool) → destroy.has_de ≡ de
          → RestsBefore ForCe (HasKey ForDe destroy.has_de ∷ []) (stage_from false de destroy.has_temp) 2
      by true is = record {
        more = 1;
        fewer = omega arith;
        left = HasKey ForCe false ∷ [];
        rests = refl;
        known = (tt, tt);
        has = λ share has. (refl, tt);
      }
      by false is = none-left ForCe (HasKey ForDe destroy.has_de ∷ []) 2 (omega arith)
          (λ share has. (refl, (has.0 ∙ is, tt)))

  without-de : RestsBefore ForDe (HasKey ForCe false ∷ []) (stage_from false false destroy.has_temp) 1
  without-de = none-left ForDe (HasKey ForCe false ∷ []) 1 (omega arith)
      (λ share has. (has.0, (refl, tt)))

  -- a key leaves the ring
  module _ (class : Class) (keys : List ShareFact) (stage then : DestroyStage) (more : ℕ)
      (now : destroy_rest (staged stage) ≡ rest_before destroy keys destroy.has_temp more)
      (goes : RestsBefore class keys then more)
      (next : tasks.after (OfDestroy (staged stage)) Done ≡ OfDestroy (staged then)) where
    then-rests : tasks.rest_of (tasks.after (OfDestroy (staged stage)) Done)
        ≡ rest_before destroy goes.left destroy.has_temp goes.more
    then-rests = ap tasks.rest_of next ∙ goes.rests

    evicts : (looks : Looks) → UserTurns (OfDestroy (staged stage)) looks (quiet_turn (Remove destroy.user class))
    evicts looks = λ scene sound finds rests_now.
        let rests = subst (λ rest. Rests rest scene.boot scene.began scene.share) now rests_now in record {
          stands = record {
            quiet = refl;
            mine = refl;
            may = subst (λ command. Evicts command destroy.user class) (sym rests.serves.command) refl;
            held = ap (λ (rest : Rest). rest.held) then-rests ∙ ap (λ (rest : Rest). rest.held) (sym now);
            leads = leads-to tasks (OfDestroy (staged stage)) Done refl now then-rests (record {
              facts = (
                rests.facts.0,
                (
                  record {
                    known = rests.facts.1.0.known;
                    there = rests.facts.1.0.there;
                    few = rests.facts.1.0.few;
                  },
                  goes.has scene.share rests.facts.1.1,
                ),
              );
              known = (tt, (tt, goes.known));
              serves = rests.serves;
              same_user = refl;
              falls = omega (arith, goes.fewer);
              makes = omega arith;
              draws = omega arith;
            });
          };
          may = tt;
          lasts = subst (λ (rest : Rest). 1 < rest.left + 0) (sym now) (omega arith);
        }

  pub evict-ce : destroy.stage ≡ EvictingCe → (looks : Looks)
      → UserTurns (OfDestroy destroy) looks (quiet_turn (Remove destroy.user ForCe))
  evict-ce here looks = at-stage EvictingCe looks (quiet_turn (Remove destroy.user ForCe)) here
      (evicts ForCe (HasKey ForDe destroy.has_de ∷ []) EvictingCe
      (stage_from false destroy.has_de destroy.has_temp) 2 refl without-ce refl looks)

  pub evict-de : destroy.stage ≡ EvictingDe → (looks : Looks)
      → UserTurns (OfDestroy destroy) looks (quiet_turn (Remove destroy.user ForDe))
  evict-de here looks = at-stage EvictingDe looks (quiet_turn (Remove destroy.user ForDe)) here
      (evicts ForDe (HasKey ForCe false ∷ []) EvictingDe (stage_from false false destroy.has_temp) 1 refl
      without-de refl looks)

  -- what an earlier command left at the temporary place is removed
  pub clears-turn : destroy.stage ≡ Clearing → (looks : Looks)
      → UserTurns (OfDestroy destroy) looks (removing_turn destroy.user Temp)
  clears-turn here looks = at-stage Clearing looks (removing_turn destroy.user Temp) here (λ scene sound finds rests.
      let own = scene.share.own in
      let op = RemoveDir Temp in
      let has = rests.facts.0 in
      let few = rests.facts.1.0 in
      let there = has.there Temp (Contains-first Temp (De ∷ sites_of destroy.slots)) in record {
        stands = record {
          mine = refl;
          step = aside-step (sealed scene.share.vault) destroy.user own op off-temp there;
          brings = record { brings = refl; long = tt };
          gains = [];
          gained = aside-gains own op off-temp;
          lets_go = lets-none [] [] refl;
          held = inl refl;
          leads = record {
            hears = refl;
            facts = (
              subst (λ view. HasSites view (De ∷ sites_of destroy.slots)) (sym (view-step own (quiet op)))
                  (first-removed (own_view own) Temp (De ∷ sites_of destroy.slots) (no-temp destroy.slots) has),
              (
                record {
                  known = few.known;
                  there = knows-step own (quiet op) (Some few.known) few.there;
                  few = few.few;
                },
                rests.facts.1.1,
              ),
            );
            known = (tt, (tt, (tt, (tt, tt))));
            serves = rests.serves;
            same_user = refl;
            falls = omega arith;
            makes = omega arith;
            draws = omega arith;
          };
        };
        may = tt;
        lasts = omega arith;
      })

  -- the device key's directory is, which ends the user
  pub ends-turn : destroy.stage ≡ Removing → (looks : Looks)
      → UserTurns (OfDestroy destroy) looks (removal_turn destroy.user)
  ends-turn here looks = at-stage Removing looks (removal_turn destroy.user) here (λ scene sound finds rests.
      let own = scene.share.own in
      let step : Step = record { op = RemoveDir De; note = Some Destroyed } in
      let has = rests.facts.0 in
      let few = rests.facts.1.0 in
      let there = has.there De (Contains-first De (sites_of destroy.slots)) in
      let lists : drops_at De (own_record own) ≡ length (map.keys few.known.secrets) + 1 =
      ap (drops_at De) few.there in record {
        stands = record {
          mine = refl;
          step = end-step (sealed (noting destroy.user scene (Some Destroyed))) destroy.user own there;
          brings = record { brings = refl; long = tt };
          gains = [];
          gained = end-gains own;
          lets_go = lets-none [] [] refl;
          held = inl refl;
          leads = record {
            hears = refl;
            facts = (
              logged-step own (RemoveDir De) Destroyed,
              (
                subst (λ view. HasSites view (sites_of destroy.slots)) (sym (view-step own step))
                    (first-removed (own_view own) De (sites_of destroy.slots) (no-device destroy.slots) has),
                (knows-step own step (own_record own) refl, tt),
              ),
            );
            known = (tt, (tt, (tt, tt)));
            serves = record {
              command = rests.serves.command;
              so_far = ap (λ changes. changes ++ DestroyChange destroy.user ∷ []) rests.serves.so_far;
            };
            same_user = refl;
            falls = omega (arith, lists, few.few);
            makes = omega arith;
            draws = omega arith;
          };
        };
        may = record {
          allowed = subst (λ command. AllowsChange (evidence_in destroy.user scene.share) scene.boot scene.began
              command (DestroyChange destroy.user)) (sym rests.serves.command) (rests.serves.so_far, refl);
          right = gave-none scene destroy.user (DestroyCommand destroy.user) rests.serves.command refl;
          keeps = keeps-right scene destroy.user Destroyed (λ attempts known secret. tt);
          keyless = none-in scene.share rests.facts.1.1;
        };
        lasts = omega arith;
      })

  -- then each credential key's directory is removed
  module _ (slot : Slot) (slots : List Slot) where
    abbrev sweeping : Destroying
    sweeping = record destroy { stage = Sweeping; slots = slot ∷ slots }

    sweeps : (looks : Looks) → UserTurns (OfDestroy sweeping) looks (removing_turn destroy.user (Ce slot))
    sweeps looks = λ scene sound finds rests.
        let own = scene.share.own in
        let op = RemoveDir (Ce slot) in
        let has = rests.facts.1.0 in
        let absent = rests.facts.1.1.0 in
        let there = has.there (Ce slot) (Contains-first (Ce slot) (sites_of slots)) in
        let lists : drops_at (Ce slot) (own_record own) ≡ 0 = ap (drops_at (Ce slot)) absent in record {
          stands = record {
            mine = refl;
            step = sweep-step (sealed scene.share.vault) destroy.user own slot sound.images absent there;
            brings = record { brings = refl; long = tt };
            gains = [];
            gained = removal-gains own slot;
            lets_go = lets-none [] [] refl;
            held = inl refl;
            leads = record {
              hears = refl;
              facts = (
                logged-still own op Destroyed rests.facts.0,
                (
                  subst (λ view. HasSites view (sites_of (without slot (slot ∷ slots))))
                      (sym (view-step own (quiet op))) (slot-removed (own_view own) slot slots has),
                  (knows-step own (quiet op) None absent, tt),
                ),
              );
              known = (tt, (tt, (tt, tt)));
              serves = rests.serves;
              same_user = refl;
              falls = omega (arith, lists);
              makes = omega arith;
              draws = omega arith;
            };
          };
          may = tt;
          lasts = omega arith;
        }

  pub sweeps-turn : destroy.stage ≡ Sweeping → (slot : Slot) → slice_get destroy.slots 0 ≡ Some slot
      → (looks : Looks) → UserTurns (OfDestroy destroy) looks (removing_turn destroy.user (Ce slot))
  sweeps-turn here slot first looks =
      let split = first-slot destroy.slots slot first in
      at-stage Sweeping looks (removing_turn destroy.user (Ce slot)) here
      (subst (λ slots. UserTurns (OfDestroy (record destroy { stage = Sweeping; slots = slots })) looks
      (removing_turn destroy.user (Ce slot))) (sym split.1) (sweeps slot split.0 looks))

  -- and behind the last it syncs
  syncs : (looks : Looks)
      → UserTurns (OfDestroy (record destroy { stage = Sweeping; slots = [] })) looks (quiet_turn Sync)
  syncs looks = λ scene sound finds rests. record {
    stands = record {
      quiet = refl;
      held = refl;
      leads = record {
        hears = refl;
        facts = (
          logged-settled scene.share.own Destroyed rests.facts.0,
          (refl, (vacant-synced scene.share.own rests.facts.1.0, tt)),
        );
        known = (tt, (tt, (tt, tt)));
        serves = rests.serves;
        same_user = refl;
        falls = omega arith;
        makes = omega arith;
        draws = omega arith;
      };
    };
    may = tt;
    lasts = omega arith;
  }

  pub sync-turn : destroy.stage ≡ Sweeping → slice_get destroy.slots 0 ≡ None → (looks : Looks)
      → UserTurns (OfDestroy destroy) looks (quiet_turn Sync)
  sync-turn here none looks = at-stage Sweeping looks (quiet_turn Sync) here
      (subst (λ slots. UserTurns (OfDestroy (record destroy { stage = Sweeping; slots = slots })) looks
      (quiet_turn Sync)) (sym (no-slot destroy.slots none)) (syncs looks))

  -- where all is done what is due is deleted, and then it is told so
  is-ending : IsEnding tasks (OfDestroy (staged Ending))
  is-ending = record { hears = refl; stays = refl; left = omega arith; held = refl }

  pub ending-turn : destroy.stage ≡ Ending → (looks : Looks)
      → UserTurns (OfDestroy destroy) looks (ending_turn looks.due true Gone)
  ending-turn here looks = at-stage Ending looks (ending_turn looks.due true Gone) here (λ scene sound finds rests.
      ending-shows tasks (OfDestroy (staged Ending)) is-ending looks scene finds rests true Gone
      (sym (ap tells_deletes rests.serves.command)) (λ none. record {
        outcome = refl;
        may = subst (DidDestroy (evidence_in destroy.user scene.share) scene.began) (sym rests.serves.command) (
          rests.serves.so_far,
          (refl, rests.facts.0),
          (refl, ap notes rests.facts.1.0),
        );
        right = λ opened. absurd opened;
        gone = λ is. record {
          still = rests.facts.1.0;
          vacant = rests.facts.1.1.0;
          ended = finds.due ∙ none;
        };
        lasts = omega arith;
        held = refl;
      }))

  -- the slot whose directory was removed is no longer one to remove
  abbrev left_with : List Slot → Destroying
  left_with slots = record destroy { slots = slots }

  pub after-sweep : (slot : Slot) → destroy.stage ≡ Sweeping → slice_get destroy.slots 0 ≡ Some slot
      → record destroy { slots = without slot destroy.slots } ≡ after destroy
  after-sweep slot here first =
      let split = first-slot destroy.slots slot first in
      ap (λ slots. left_with (without slot slots)) split.1
      ∙ ap (λ slots. after_sweeping slots destroy) (sym split.1) ∙ ap (λ stage. after_at stage destroy) (sym here)
