-- Each turn of an unlock shows what it has to.
use Rattle.std.proofs.Common.{◌≡◌, ℕ, ◌<◌, ◌≤◌, Bool, true, false, cond, List, [], ◌∷◌, length, refl, sym, ap}
use Rattle.std.proofs.Common.{subst, arith}
use Rattle.std.specs.Prelude.{Option, Some, None}
use Rattle.std.specs.Ordering.{eq_by_cmp}
use Rattle.tree_model.specs.declared.places.Class.TheVariants.{Ce as ForCe}
use Rattle.tree_model.specs.declared.places.Slot.TheVariants.{Current}
use Rattle.tree_model.specs.Order.{slot_cmp}
use Rattle.journal_model.specs.declared.commands.Reply.TheVariants.{Done as DoneReply, WrongSecret}
use Rattle.journal_model.specs.Machine.{AllowsChange, DidWork, GaveWrongSecret, Installs}
use Rattle.user_world.specs.Changes.{change_of}
use Rattle.user_world.specs.Facts.{Durable, Holds}
use Rattle.task_turns.specs.declared.calls.Answer.{Answer}
use Rattle.task_turns.specs.declared.calls.Answer.TheVariants.{Done, Installed}
use Rattle.task_turns.specs.declared.calls.Call.TheVariants.{Sync}
use Rattle.task_turns.specs.declared.next.Next.{Next}
use Rattle.task_turns.specs.declared.next.Next.TheVariants.{Reply as ReplyNext}
use Rattle.task_turns.specs.Shares.{Share, NewestUnder, MadeKey, HasSlots, IsKeptUnder, IsGiven, AllHas, IsSound}
use Rattle.task_turns.specs.Turns.{Scene, Rests, Leads, TurnShows, evidence_in, no_cost, seen_of}
use Rattle.task_turns.specs.Turns.{with_key, tells_deletes}
use Rattle.open_task.specs.declared.stages.Doing.{Doing as OpenDoing}
use Rattle.open_task.specs.Task.{HasEnded, key_in, slot_at_hand, facts_at as open_facts_at, after as open_after}
use Rattle.open_task.specs.Turns.{Leads as OpenLeads, OpenTurns}
use Rattle.fixate_task.specs.declared.task.Doing.{Doing as FixDoing}
use Rattle.fixate_task.specs.Task.{Fixing as FixTask, without, has_ended, change_by}
use Rattle.fixate_task.specs.Turns.{FixTurns}
use Rattle.fixate_task.proofs.Without.{length-without}
use Rattle.user_tasks.specs.declared.looks.Looks.{Looks}
use Rattle.user_tasks.specs.declared.tasks.UserTask.TheVariants.{Unlock as OfUnlock}
use Rattle.user_tasks.specs.declared.unlocks.Unlock.{Unlock}
use Rattle.user_tasks.specs.declared.unlocks.UnlockStage.{UnlockStage}
use Rattle.user_tasks.specs.declared.unlocks.UnlockStage.TheVariants.{Opening as IsOpening, Fixing, Installing, Ending}
use Rattle.user_tasks.specs.Tasks.{UserTurns, tasks}
use Rattle.user_tasks.specs.Turns.{quiet_turn, opening_turn, fixing_turn, ending_turn}
use Rattle.user_tasks.specs.Unlock.{IsUnlock, facts_at, unlock_rest, with_opened, after_step, adding_turn}
use Rattle.user_tasks.proofs.Ending.{IsEnding, ending-shows}
use Rattle.user_tasks.proofs.Fixing.{at_end, ended-is, Frame, IsFixing, fixing_rest, fixing-shows, moves-on, one-slot}
use Rattle.user_tasks.proofs.Fixing.{KeepsUser, keeps-synced, slots-last, ends-none}
use Rattle.user_tasks.proofs.Kept.{keeps-slots, kept-under, under-then, given-then, under-last, given-last}
use Rattle.user_tasks.proofs.Kept.{unlock-right, unlock-keeps}
use Rattle.user_tasks.proofs.Leading.{LeadsTo, leads-to}
use Rattle.user_tasks.proofs.Openings.{holds-none, some-key, none-left, opening-shows, given-first, gave-wrong}

-- a test counts for one at most
one-most : (test : Bool) → cond test 0 1 ≤ 1
one-most true = omega arith
one-most false = omega arith

module _ (unlock : Unlock) where
  abbrev pub staged : UnlockStage → Unlock
  staged stage = record unlock { stage = stage }

  at-stage : (stage : UnlockStage) (looks : Looks) (next : Next) → unlock.stage ≡ stage
      → UserTurns (OfUnlock (staged stage)) looks next → UserTurns (OfUnlock unlock) looks next
  at-stage stage looks next here turns = subst (λ s. UserTurns (OfUnlock (staged s)) looks next) (sym here) turns

  -- while the key is being opened
  module _ (scene : Scene) (sound : IsSound unlock.opening.user scene.share)
      (rests : Rests (unlock_rest (staged IsOpening)) scene.boot scene.began scene.share) (answer : Answer)
      (leads : OpenLeads unlock.opening answer scene.share) where
    abbrev opened_later : Unlock
    opened_later = record unlock { opening = open_after unlock.opening answer; stage = IsOpening }

    -- another slot is at hand, or one opened, which is kept from then on
    opened-leads : (key : Option (List ℕ)) → key_in opened_later.opening.stage ≡ key
        → LeadsTo scene (unlock_rest (staged IsOpening)) (unlock_rest (with_opened key opened_later)) None no_cost
        scene.share
    opened-leads None none = record {
      facts = (rests.facts.0, (rests.facts.1.0, leads.facts));
      known = (tt, (tt, holds-none unlock.opening.secret _ opened_later.opening.stage));
      serves = record { command = rests.serves.command; changes = rests.serves.changes; shut = none };
      same_user = refl;
      falls = omega (arith, leads.falls);
      makes = omega arith;
      draws = omega arith;
    }
    opened-leads (Some key) is =
        let user = unlock.opening.user in
        let secret = unlock.opening.secret in
        let others = unlock.fixing.others in
        let slot = slot_at_hand opened_later.opening.left in
        let opened = (subst (λ stage. AllHas (open_facts_at secret opened_later.opening.left stage) scene.share)
        (some-key opened_later.opening.stage key is) leads.facts).0 in
        let gave = rests.facts.0 in
        let fewer : length (without slot others) ≤ length others = length-without slot others in
        let one : cond (eq_by_cmp slot_cmp slot Current) 0 1 ≤ 1 = one-most _ in record {
          facts = (
            keeps-slots user scene.share sound secret slot key opened others rests.facts.1.0,
            (
              kept-under user scene.share sound secret slot key opened gave,
              (given-first user scene.share sound opened.present secret slot key opened gave, tt),
            ),
          );
          known = (tt, (tt, (tt, tt)));
          serves = record { command = rests.serves.command };
          same_user = refl;
          falls = omega arith;
          makes = omega arith;
          draws = omega arith;
        }

    leads-on : Leads (seen_of tasks (OfUnlock (staged IsOpening))) answer scene None no_cost scene.share
    leads-on = leads-to tasks (OfUnlock (staged IsOpening)) answer leads.answers refl refl
        (opened-leads (key_in opened_later.opening.stage) refl)

  pub opens-turn : unlock.stage ≡ IsOpening → (doing : OpenDoing) → OpenTurns unlock.opening (Some doing)
      → (looks : Looks) → UserTurns (OfUnlock unlock) looks (opening_turn unlock.opening.user doing)
  opens-turn here doing turns looks = at-stage IsOpening looks (opening_turn unlock.opening.user doing) here
      (λ scene sound finds rests.
      opening-shows tasks (OfUnlock (staged IsOpening)) unlock.opening scene refl (omega arith) (λ answer. refl)
      (leads-on scene sound rests) doing (turns.1 scene.share sound rests.facts.1.1))

  -- no slot is left
  pub refuses-turn : unlock.stage ≡ IsOpening → HasEnded unlock.opening → (looks : Looks)
      → UserTurns (OfUnlock unlock) looks (ReplyNext WrongSecret)
  refuses-turn here ended looks = at-stage IsOpening looks (ReplyNext WrongSecret) here (λ scene sound finds rests.
      let secret = unlock.opening.secret in
      let nothing = none-left unlock.opening.stage unlock.opening.left ended rests.serves.shut in
      let left = (subst (λ stage. AllHas (open_facts_at secret [] stage) scene.share) nothing.0
      (subst (λ slots. AllHas (open_facts_at secret slots unlock.opening.stage) scene.share) nothing.1
      rests.facts.1.1)).0 in record {
        outcome = refl;
        may = subst (GaveWrongSecret (evidence_in unlock.opening.user scene.share) scene.began)
            (sym rests.serves.command) (
              rests.serves.changes,
              gave-wrong unlock.opening.user scene.share sound left.present secret left,
            );
        right = λ opened. absurd opened;
        gone = λ is. cc;
        lasts = omega arith;
        held = refl;
      })

  -- while the slot that opened is made the user's one
  module _ (key : List ℕ) where
    abbrev frame_of : Frame
    frame_of = record {
      user = unlock.opening.user;
      facts = λ kept. NewestUnder unlock.opening.user unlock.opening.secret kept
          ∷ MadeKey unlock.opening.user ForCe key ∷ [];
      serves = IsUnlock unlock.opening.user unlock.opening.secret;
      more = 3;
    }

    is-fixing : IsFixing tasks (OfUnlock (staged (Fixing key))) frame_of unlock.fixing
    is-fixing = record {
      rests = refl;
      hears = tt;
      goes_on = λ on. ap (λ ended. unlock_rest (after_step ended key (staged (Fixing key)))) on;
      behind = omega arith;
    }

    pub drops-turn : unlock.stage ≡ Fixing key → (doing : FixDoing) → has_ended unlock.fixing ≡ false
        → FixTurns unlock.fixing (Some doing) → (looks : Looks)
        → UserTurns (OfUnlock unlock) looks (fixing_turn unlock.opening.user doing)
    drops-turn here doing on turns looks = at-stage (Fixing key) looks (fixing_turn unlock.opening.user doing) here
        (λ scene sound finds rests.
        let user = unlock.opening.user in
        let secret = unlock.opening.secret in
        let slots = rests.facts.0 in
        let under = rests.facts.1.0 in
        let given = rests.facts.1.1.0 in
        let shows = turns user scene.share sound slots in
        fixing-shows tasks (OfUnlock (staged (Fixing key))) frame_of unlock.fixing is-fixing scene doing on (record {
          shows = shows;
          facts = (
            under-then scene.share unlock.fixing doing user secret under
                (moves-on user scene.share unlock.fixing doing under.known slots shows under.there),
            (
              given-then scene.share unlock.fixing doing user ForCe key given
                  (moves-on user scene.share unlock.fixing doing given.known slots shows given.there),
              tt,
            ),
          );
          known = (tt, (tt, tt));
          serves = record { command = rests.serves.command };
          may = record {
            allowed = subst (λ command. AllowsChange (evidence_in user scene.share) scene.boot scene.began command
                (change_of user (change_by doing))) (sym rests.serves.command) (
                  slots.known,
                  (refl, slots.there),
                  (unlock.fixing.kept, slots.has_kept, shows.allowed slots.known slots.there),
                );
            right = unlock-right scene user secret rests.serves.command unlock.fixing.kept under;
            keeps = unlock-keeps scene user secret rests.serves.command unlock.fixing.kept under doing
                (shows.allowed under.known under.there);
            keyless = ends-none scene.share doing;
          };
        }))

    -- what it rests on behind the last change
    has-ended : has_ended unlock.fixing ≡ true → (share : Share) → AllHas (facts_at (Fixing key) unlock) share
        → AllHas (fixing_rest frame_of at_end).facts share
    has-ended ended share has = subst (λ (fixing : FixTask). AllHas (fixing_rest frame_of fixing).facts share)
        (ended-is unlock.fixing ended) has

    -- which is made durable
    then-installs : has_ended unlock.fixing ≡ true
        → unlock_rest (after_step (has_ended unlock.fixing) key (staged (Fixing key)))
        ≡ unlock_rest (staged (Installing key))
    then-installs ended = ap (λ e. unlock_rest (after_step e key (staged (Fixing key)))) ended

    pub sync-turn : unlock.stage ≡ Fixing key → has_ended unlock.fixing ≡ true → (looks : Looks)
        → UserTurns (OfUnlock unlock) looks (quiet_turn Sync)
    sync-turn here ended looks = at-stage (Fixing key) looks (quiet_turn Sync) here (λ scene sound finds rests.
        let user = unlock.opening.user in
        let facts = has-ended ended scene.share rests.facts in
        let keeps = keeps-synced scene.share in record {
          stands = record {
            quiet = refl;
            held = ap (λ rest. rest.held) (then-installs ended);
            leads = leads-to tasks (OfUnlock (staged (Fixing key))) Done tt refl (then-installs ended) (record {
              facts = (
                slots-last scene.share _ keeps Current [] facts.0,
                (
                  refl,
                  (
                    under-last scene.share _ keeps user unlock.opening.secret Current facts.1.0,
                    (given-last scene.share _ keeps user ForCe key facts.1.1.0, tt),
                  ),
                ),
              );
              known = (tt, (tt, (tt, (tt, tt))));
              serves = record { command = rests.serves.command };
              same_user = refl;
              falls = omega arith;
              makes = omega arith;
              draws = omega arith;
            });
          };
          may = tt;
          lasts = omega arith;
        })

  -- the current slot is the user's one, durable, and the newest under the secret
  record IsFixed (share : Share) : Type 0 where
    slots : HasSlots share Current []
    durable : Holds Durable share.own
    under : IsKeptUnder share unlock.opening.user unlock.opening.secret Current

  -- and the key comes into the ring
  record IsReady (stage : UnlockStage) (key : List ℕ) (scene : Scene) : Type 1 where
    hears : tasks.hears (OfUnlock (staged stage)) Installed
    then : tasks.rest_of (tasks.after (OfUnlock (staged stage)) Installed) ≡ unlock_rest (staged Ending)
    behind : 1 < (unlock_rest (staged stage)).left
    serves : IsUnlock unlock.opening.user unlock.opening.secret scene.boot scene.began
    fixed : IsFixed scene.share
    given : IsGiven scene.share unlock.opening.user ForCe key

  installs : (stage : UnlockStage) (key : List ℕ) (scene : Scene) → IsReady stage key scene
      → TurnShows (seen_of tasks (OfUnlock (staged stage))) scene (adding_turn unlock.opening.user key)
  installs stage key scene ready =
      let user = unlock.opening.user in
      let fixed = ready.fixed in
      let keeps : KeepsUser scene.share (with_key scene.share ForCe key) =
      record { known = refl; seed = refl; attempts = refl } in record {
        stands = record {
          quiet = refl;
          mine = refl;
          given = ready.given;
          may = subst (λ command. Installs command user ForCe) (sym ready.serves.command) (refl, refl);
          right = unlock-right scene user unlock.opening.secret ready.serves.command Current fixed.under;
          held = ap (λ rest. rest.held) ready.then;
          leads = leads-to tasks (OfUnlock (staged stage)) Installed ready.hears refl ready.then (record {
            facts = (
              slots-last scene.share _ keeps Current [] fixed.slots,
              (
                fixed.durable,
                (under-last scene.share _ keeps user unlock.opening.secret Current fixed.under, (refl, tt)),
              ),
            );
            known = (tt, (tt, (tt, (tt, tt))));
            serves = record { command = ready.serves.command };
            same_user = refl;
            falls = omega (arith, ready.behind);
            makes = omega arith;
            draws = omega arith;
          });
        };
        may = tt;
        lasts = omega (arith, ready.behind);
      }

  -- behind a sync, or where every change is durable already
  pub adds-turn : (key : List ℕ) → unlock.stage ≡ Installing key → (looks : Looks)
      → UserTurns (OfUnlock unlock) looks (adding_turn unlock.opening.user key)
  adds-turn key here looks = at-stage (Installing key) looks (adding_turn unlock.opening.user key) here
      (λ scene sound finds rests. installs (Installing key) key scene (record {
        hears = refl;
        then = refl;
        behind = omega arith;
        serves = rests.serves;
        fixed = record {
          slots = rests.facts.0;
          durable = rests.facts.1.0;
          under = rests.facts.1.1.0;
        };
        given = rests.facts.1.1.1.0;
      }))

  pub adds-durable : (key : List ℕ) → unlock.stage ≡ Fixing key → has_ended unlock.fixing ≡ true → (looks : Looks)
      → looks.durable ≡ true → UserTurns (OfUnlock unlock) looks (adding_turn unlock.opening.user key)
  adds-durable key here ended looks durable = at-stage (Fixing key) looks (adding_turn unlock.opening.user key) here
      (λ scene sound finds rests.
      let facts = has-ended key ended scene.share rests.facts in
      installs (Fixing key) key scene (record {
        hears = tt;
        then = refl;
        behind = omega arith;
        serves = rests.serves;
        fixed = record { slots = facts.0; durable = finds.durable durable; under = facts.1.0 };
        given = facts.1.1.0;
      }))

  -- with the key in the ring what is due is deleted, and then it is told so
  is-ending : IsEnding tasks (OfUnlock (staged Ending))
  is-ending = record { hears = refl; stays = refl; left = omega arith; held = refl }

  pub ends-turn : unlock.stage ≡ Ending → (looks : Looks)
      → UserTurns (OfUnlock unlock) looks (ending_turn looks.due false DoneReply)
  ends-turn here looks = at-stage Ending looks (ending_turn looks.due false DoneReply) here (λ scene sound finds rests.
      let user = unlock.opening.user in
      let slots = rests.facts.0 in
      ending-shows tasks (OfUnlock (staged Ending)) is-ending looks scene finds rests false DoneReply
      (sym (ap tells_deletes rests.serves.command)) (λ none. record {
        outcome = refl;
        may = subst (DidWork (evidence_in user scene.share) scene.boot scene.began) (sym rests.serves.command) (
          (refl, rests.facts.1.1.1.0),
          (
            (slots.known, (refl, slots.there), one-slot scene.share Current slots),
            (refl, rests.facts.1.0),
          ),
        );
        right = λ opened.
            unlock-right scene user unlock.opening.secret rests.serves.command Current rests.facts.1.1.0;
        gone = λ is. cc;
        lasts = omega arith;
        held = refl;
      }))
