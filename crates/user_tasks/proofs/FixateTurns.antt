-- Each turn of a fixate shows what it has to.
use Rattle.std.proofs.Common.{◌≡◌, ℕ, ◌<◌, ◌+◌, Bool, true, false, [], ◌∷◌, refl, sym, ap, ◌∙◌, subst, arith}
use Rattle.std.specs.Prelude.{Option, Some, None, IfSome}
use Rattle.deferred_delete.specs.declared.items.Item.{Item}
use Rattle.tree_model.specs.declared.places.Slot.TheVariants.{Current}
use Rattle.journal_model.specs.declared.commands.Command.TheVariants.{Fixate as FixateCommand}
use Rattle.journal_model.specs.declared.commands.Reply.TheVariants.{Done as DoneReply}
use Rattle.journal_model.specs.Machine.{AllowsChange, DidWork}
use Rattle.journal_model.specs.Users.{Record}
use Rattle.user_world.specs.declared.changes.LocalChange.{LocalChange}
use Rattle.user_world.specs.Changes.{change_of}
use Rattle.user_world.specs.Facts.{Durable, Holds}
use Rattle.user_world.specs.OwnWorlds.{own_record}
use Rattle.task_turns.specs.declared.calls.Answer.TheVariants.{Done}
use Rattle.task_turns.specs.declared.calls.Call.TheVariants.{Sync, Delete}
use Rattle.task_turns.specs.Shares.{Share, Newest, HasSlots, AllHas}
use Rattle.task_turns.specs.declared.next.Next.TheVariants.{Reply as ReplyNext}
use Rattle.task_turns.specs.Turns.{KeepsNewest, KeepsRight, opening_secret, tells_deletes}
use Rattle.task_turns.specs.Turns.{Scene, Leads, TurnShows, cost_of, evidence_in, seen_of, without_entry}
use Rattle.fixate_task.specs.declared.task.Doing.{Doing}
use Rattle.fixate_task.specs.Task.{Fixing, after as fix_after, has_ended, change_by}
use Rattle.fixate_task.specs.Turns.{FixTurns}
use Rattle.user_tasks.specs.declared.fixates.Fixate.{Fixate}
use Rattle.user_tasks.specs.declared.looks.Looks.{Looks}
use Rattle.user_tasks.specs.declared.tasks.UserTask.TheVariants.{Fixate as OfFixate}
use Rattle.user_tasks.specs.Fixate.{IsFixate, facts_at, left_at, fixate_rest, after_with, after}
use Rattle.user_tasks.specs.Tasks.{UserTurns, tasks}
use Rattle.user_tasks.specs.Turns.{quiet_turn, fixing_turn, ending_turn}
use Rattle.user_tasks.proofs.Fixing.{at_end, Frame, IsFixing, fixing-shows, moves-on, newest-moved, one-slot, ended-is}
use Rattle.user_tasks.proofs.Fixing.{KeepsUser, keeps-synced, slots-last, ends-none}
use Rattle.user_tasks.proofs.Leading.{leads-to}
use Rattle.user_tasks.proofs.Rights.{gave-none}

abbrev frame_of : Fixate → Frame
frame_of fixate = record {
  user = fixate.user;
  facts = λ kept. Newest kept ∷ [];
  serves = IsFixate fixate.user;
  more = 2;
}

-- it was given no secret that a drop could leave without its newest slot
fixate-keeps : (scene : Scene) (user : ℕ) (change : LocalChange) → scene.began.command ≡ FixateCommand user
    → KeepsRight user scene change
fixate-keeps scene user change is = by (own_record scene.share.own)
  where
    by : (found : Option Record) → IfSome found (λ known. IfSome (opening_secret scene.began.command)
        (KeepsNewest (scene.share.vault.attempts user) known change))
    by None = tt
    by (Some known) = subst (λ command. IfSome (opening_secret command)
        (KeepsNewest (scene.share.vault.attempts user) known change)) (sym is) tt

module _ (fixate : Fixate) (still : fixate.fixed ≡ false) where
  is-fixing : IsFixing tasks (OfFixate fixate) (frame_of fixate) fixate.fixing
  is-fixing = record {
    rests = ap (λ fixed. fixate_rest (record fixate { fixed = fixed })) still;
    hears = refl;
    goes_on = λ on. ap (λ ended. fixate_rest (after_with ended fixate)) on
        ∙ ap (λ fixed. fixate_rest (record fixate { fixing = fix_after fixate.fixing; fixed = fixed })) still;
    behind = omega arith;
  }

  has-now : (scene : Scene) → AllHas (fixate_rest fixate).facts scene.share
      → AllHas (facts_at false fixate.fixing) scene.share
  has-now scene has = subst (λ fixed. AllHas (facts_at fixed fixate.fixing) scene.share) still has

  -- another slot is dropped, or the kept one becomes the current one
  pub drops-turn : (doing : Doing) → has_ended fixate.fixing ≡ false → FixTurns fixate.fixing (Some doing)
      → (looks : Looks) → UserTurns (OfFixate fixate) looks (fixing_turn fixate.user doing)
  drops-turn doing on turns looks = λ scene sound finds rests.
      let facts = has-now scene rests.facts in
      let shows = turns fixate.user scene.share sound facts.0 in
      let newest = facts.1.0 in
      let moved = moves-on fixate.user scene.share fixate.fixing doing newest.known facts.0 shows newest.there in
      fixing-shows tasks (OfFixate fixate) (frame_of fixate) fixate.fixing is-fixing scene doing on (record {
        shows = shows;
        facts = (
          record { known = moved.then; there = moved.there; newest = newest-moved moved.moves newest.newest },
          tt,
        );
        known = (tt, tt);
        serves = record { command = rests.serves.command };
        may = record {
          allowed = subst (λ command. AllowsChange (evidence_in fixate.user scene.share) scene.boot scene.began command
              (change_of fixate.user (change_by doing))) (sym rests.serves.command) (
                newest.known,
                (refl, newest.there),
                (fixate.fixing.kept, newest.newest, shows.allowed newest.known newest.there),
              );
          right = gave-none scene fixate.user (FixateCommand fixate.user) rests.serves.command refl;
          keeps = fixate-keeps scene fixate.user (change_by doing) rests.serves.command;
          keyless = ends-none scene.share doing;
        };
      })

  -- what a fixation that has ended rests on, and what it is then
  has-ended : has_ended fixate.fixing ≡ true → (scene : Scene) → AllHas (fixate_rest fixate).facts scene.share
      → AllHas (facts_at false at_end) scene.share
  has-ended ended scene has = subst (λ (fixing : Fixing). AllHas (facts_at false fixing) scene.share)
      (ended-is fixate.fixing ended) (has-now scene has)

  then-fixed : has_ended fixate.fixing ≡ true
      → fixate_rest (after fixate) ≡ fixate_rest (record fixate { fixed = true })
  then-fixed ended = ap (λ e. fixate_rest (after_with e fixate)) ended

  -- behind its last change it syncs
  pub sync-turn : has_ended fixate.fixing ≡ true → (looks : Looks)
      → UserTurns (OfFixate fixate) looks (quiet_turn Sync)
  sync-turn ended looks = λ scene sound finds rests. record {
    stands = record {
      quiet = refl;
      held = ap (λ rest. rest.held) (then-fixed ended);
      leads = leads-to tasks (OfFixate fixate) Done refl is-fixing.rests (then-fixed ended) (record {
        facts = (
          slots-last scene.share _ (keeps-synced scene.share) Current [] (has-ended ended scene rests.facts).0,
          (refl, tt),
        );
        known = (tt, (tt, tt));
        serves = record { command = rests.serves.command };
        same_user = refl;
        falls = omega arith;
        makes = omega arith;
        draws = omega arith;
      });
    };
    may = tt;
    lasts = subst (λ rest. 1 < rest.left + 0) (sym is-fixing.rests) (omega arith);
  }

-- what it rests on in the end: the current slot is the user's one, and that is durable
record IsDone (share : Share) : Type 0 where
  slots : HasSlots share Current []
  durable : Holds Durable share.own

-- where all is done what is due is deleted, and then it is told so
module _ (fixate : Fixate) (then : fixate_rest (after fixate) ≡ fixate_rest (record fixate { fixed = true }))
    (some : 0 < (fixate_rest fixate).left) (scene : Scene) (serves : IsFixate fixate.user scene.boot scene.began)
    (done : IsDone scene.share) where
  deleted : (item : Item) (share : Share) → KeepsUser scene.share share → Holds Durable share.own
      → Leads (seen_of tasks (OfFixate fixate)) Done scene None (cost_of None (Delete item false)) share
  deleted item share keeps durable = leads-to tasks (OfFixate fixate) Done refl refl then (record {
    facts = (slots-last scene.share share keeps Current [] done.slots, (durable, tt));
    known = (tt, (tt, tt));
    serves = record { command = serves.command };
    same_user = refl;
    falls = omega (arith, some);
    makes = omega arith;
    draws = omega arith;
  })

  deletes : (item : Item) → scene.due ≡ Some item
      → TurnShows (seen_of tasks (OfFixate fixate)) scene (quiet_turn (Delete item false))
  deletes item due = record {
    stands = record {
      quiet = refl;
      is_due = due;
      telling = sym (ap tells_deletes serves.command);
      held = refl;
      leads = deleted item (without_entry scene.share item.blob)
          (record { known = refl; seed = refl; attempts = refl }) done.durable;
      goes_on = λ told.
          deleted item scene.share (record { known = refl; seed = refl; attempts = refl }) done.durable;
    };
    may = tt;
    lasts = omega (arith, some);
  }

  replies : TurnShows (seen_of tasks (OfFixate fixate)) scene (ReplyNext DoneReply)
  replies = record {
    outcome = refl;
    may = subst (DidWork (evidence_in fixate.user scene.share) scene.boot scene.began) (sym serves.command) (
      (done.slots.known, (refl, done.slots.there), one-slot scene.share Current done.slots),
      (refl, done.durable),
    );
    right = λ opened. gave-none scene fixate.user (FixateCommand fixate.user) serves.command refl;
    gone = λ is. cc;
    lasts = some;
    held = refl;
  }

  ends : (due : Option Item) → scene.due ≡ due
      → TurnShows (seen_of tasks (OfFixate fixate)) scene (ending_turn due false DoneReply)
  ends None none = replies
  ends (Some item) due = deletes item due

pub fixed-turn : (fixate : Fixate) → fixate.fixed ≡ true → (looks : Looks)
    → UserTurns (OfFixate fixate) looks (ending_turn looks.due false DoneReply)
fixed-turn fixate fixed looks = λ scene sound finds rests.
    let facts = subst (λ f. AllHas (facts_at f fixate.fixing) scene.share) fixed rests.facts in
    ends fixate (still-fixed (has_ended fixate.fixing))
    (subst (λ f. 0 < left_at f fixate.fixing) (sym fixed) (omega arith)) scene rests.serves
    (record { slots = facts.0; durable = facts.1.0 }) looks.due finds.due
  where
    still-fixed : (ended : Bool) → fixate_rest (after_with ended fixate) ≡ fixate_rest (record fixate { fixed = true })
    still-fixed true = refl
    still-fixed false =
        ap (λ f. fixate_rest (record fixate { fixing = fix_after fixate.fixing; fixed = f })) fixed

-- nor is a sync needed where every change is durable already
pub durable-turn : (fixate : Fixate) → fixate.fixed ≡ false → has_ended fixate.fixing ≡ true → (looks : Looks)
    → looks.durable ≡ true → UserTurns (OfFixate fixate) looks (ending_turn looks.due false DoneReply)
durable-turn fixate still ended looks durable = λ scene sound finds rests.
    ends fixate (then-fixed fixate still ended)
    (subst (λ f. 0 < left_at f fixate.fixing) (sym still) (omega arith)) scene rests.serves (record {
      slots = (has-ended fixate still ended scene rests.facts).0;
      durable = finds.durable durable;
    }) looks.due finds.due
