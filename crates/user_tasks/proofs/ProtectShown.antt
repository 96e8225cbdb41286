-- By its stage, each turn of a protect shows what it has to, asks for no more jobs than it says, and for those of its
-- own numbers.
use Rattle.std.proofs.Common.{◌≡◌, ◌≢◌, ℕ, ◌*◌, ◌<◌, List, [], ◌∷◌, refl, sym, ap, subst, arith, inl, inr}
use Rattle.std.specs.Prelude.{false, Option, Some, None, IfSome, Ok, Contains}
use Rattle.tree_model.specs.declared.blobs.Blob.{Blob}
use Rattle.tree_model.specs.declared.sites.Site.{Site}
use Rattle.tree_model.specs.declared.sites.Site.TheVariants.{De, Ce, Temp}
use Rattle.tree_model.specs.declared.sites.LocalOp.TheVariants.{RemoveDir}
use Rattle.tree_model.specs.Named.{PartNames}
use Rattle.tree_model.specs.Parts.{Part}
use Rattle.journal_model.specs.declared.commands.Reply.TheVariants.{Done as DoneReply, WrongSecret}
use Rattle.journal_model.specs.Machine.{DidWork}
use Rattle.keystore_model.proofs.Elements.{Contains-none}
use Rattle.step_core.specs.declared.jobs.Job.{Job}
use Rattle.step_core.specs.Jobs.{output_of}
use Rattle.user_world.specs.Facts.{Logged}
use Rattle.user_world.specs.OwnWorlds.{own_view}
use Rattle.user_world.proofs.Facts.{later-facts}
use Rattle.task_turns.specs.declared.calls.Answer.{Answer}
use Rattle.task_turns.specs.declared.calls.Answer.TheVariants.{Done, Output}
use Rattle.task_turns.specs.declared.calls.Call.TheVariants.{Op as OpCall, Sync as SyncCall}
use Rattle.task_turns.specs.declared.next.Next.{Next}
use Rattle.task_turns.specs.declared.next.Next.TheVariants.{Call as CallNext, Work as WorkNext, Reply as ReplyNext}
use Rattle.task_turns.specs.Shares.{AllHas, IsSound, IsUnder}
use Rattle.task_turns.specs.Turns.{Scene, Rests, Asks, AsksFor, seen_of, evidence_in, opening_secret, TellsOpened}
use Rattle.task_turns.specs.Turns.{tells_deletes}
use Rattle.open_task.specs.declared.stages.Doing.{Doing}
use Rattle.open_task.specs.declared.stages.Doing.TheVariants.{Read, Work, Decrypt}
use Rattle.open_task.specs.Task.{HasEnded, key_in, after as open_after, asks_of as open_asks}
use Rattle.open_task.specs.Turns.{OpenTurns, OpenAsks}
use Rattle.store_task.specs.declared.stages.Stage.TheVariants.{First}
use Rattle.store_task.specs.Task.{after as store_after, held_at, held_of, asks_at as store_asks_at}
use Rattle.store_task.specs.Turns.{AsksFirst}
use Rattle.store_task.proofs.AskedJobs.{asked}
use Rattle.user_tasks.specs.declared.protects.ProtectStage.{ProtectStage}
use Rattle.user_tasks.specs.declared.protects.ProtectStage.TheVariants.{Opening as IsOpening, Clearing, Storing, Added}
use Rattle.user_tasks.specs.declared.protects.ProtectStage.TheVariants.{Ended}
use Rattle.user_tasks.specs.declared.tasks.UserTask.TheVariants.{Protect as OfProtect}
use Rattle.user_tasks.specs.declared.looks.Looks.{Looks}
use Rattle.user_tasks.specs.Looks.{IsNextToClear, Finds}
use Rattle.user_tasks.specs.Protect.{Protecting, IsProtecting, slot_of, change_by, protect_rest, with_opened}
use Rattle.user_tasks.specs.Protect.{after_store, after_storing, asks_of}
use Rattle.user_tasks.specs.Stores.{IsStoreTurn}
use Rattle.user_tasks.specs.Tasks.{UserTurns, UserJobs, IsNumbered, tasks}
use Rattle.user_tasks.specs.Turns.{opening_turn, ending_turn}
use Rattle.user_tasks.proofs.AskedJobs.{store-asks}
use Rattle.user_tasks.proofs.Cleared.{as-cleared}
use Rattle.user_tasks.proofs.JobNumbers.{IsJob, store-job}
use Rattle.user_tasks.proofs.Leading.{leads-to}
use Rattle.user_tasks.proofs.Ending.{IsEnding, ending-shows, ending-asks, ending-jobs}
use Rattle.user_tasks.proofs.ProtectTurns.{staged, seen_at, opening-turns, refuses, removes, stores, stored-has}
use Rattle.user_tasks.proofs.ProtectTurns.{begun-has, cleared, begun-fits}

-- the temporary directory is the first that is in the way
temp-clear : (view : Part) (way : Option Site) → way ≢ Some Temp → IsNextToClear view way → view Temp ≡ None
temp-clear view None other clear = clear Temp tt
temp-clear view (Some De) other clear = absurd clear.0
temp-clear view (Some (Ce slot)) other clear = clear.2 (λ e. cc)
temp-clear view (Some Temp) other clear = absurd (other refl)

-- all that is shown of a turn
pub record Shows (protect : Protecting) (looks : Looks) (next : Next) : Type 0 where
  pub turn : UserTurns (OfProtect protect) looks next
  pub asks : Asks (seen_of tasks (OfProtect protect)) next
  pub jobs : UserJobs (OfProtect protect) looks next

-- a job of the task that stores the key is one of the protect's
stored-job : (protect : Protecting) (next : Next) → IsJob protect.store.job next → IsNumbered (OfProtect protect) next
stored-job protect (WorkNext job) is = inr is
stored-job protect (CallNext call change) is = tt
stored-job protect (ReplyNext reply) is = tt

module _ (protect : Protecting) where
  -- it asks for fewer jobs once it heard an output
  fewer-opening : (answer : Answer) (key : Option (List ℕ)) → protect.store.stage ≡ First
      → open_asks (open_after protect.opening answer) < open_asks protect.opening
      → asks_of (with_opened key (record (staged protect IsOpening) { opening = open_after protect.opening answer }))
      < 2 * open_asks protect.opening
  fewer-opening answer None first fewer = omega (arith, fewer)
  fewer-opening answer (Some key) first fewer =
      let one : store_asks_at protect.store.stage ≡ 1 = ap store_asks_at first in omega (arith, fewer, one)

  opening-asks : (doing : Doing) → protect.store.stage ≡ First → OpenAsks protect.opening (Some doing)
      → Asks (seen_at protect IsOpening) (opening_turn protect.opening.user doing)
  opening-asks (Read slot) first asks = tt
  opening-asks (Work job) first asks = record {
    whole = asks.whole;
    hears = asks.hears;
    fewer = fewer-opening (Output (output_of job.input)) _ first asks.fewer;
  }
  opening-asks (Decrypt blob app_id text) first asks = tt

  fewer-stored : (job : Job) → AsksFirst protect.store job
      → asks_of (after_storing protect (Output (output_of job.input))) < store_asks_at protect.store.stage
  fewer-stored job first =
      let is = asked protect.store job first in
      let then = store_after protect.store (Output (output_of job.input)) in
      let same = ap (λ progress. asks_of (record protect { store = then; stage = after_store progress })) is.absent in
      omega (arith, is.fewer, same)

  clearing-asks : (job : Job) → AsksFirst protect.store job → AsksFor (seen_at protect Clearing) job
  clearing-asks job first = let is = asked protect.store job first in
      record { whole = is.whole; hears = is.hears; fewer = fewer-stored job first }

  storing-asks : (job : Job) → AsksFirst protect.store job → AsksFor (seen_at protect Storing) job
  storing-asks job first = let is = asked protect.store job first in
      record { whole = is.whole; hears = is.hears; fewer = fewer-stored job first }

  opening-jobs : (looks : Looks) (doing : Doing) → OpenTurns protect.opening (Some doing)
      → UserJobs (OfProtect (staged protect IsOpening)) looks (opening_turn protect.opening.user doing)
  opening-jobs looks (Read slot) turns = λ scene sound finds rests. tt
  opening-jobs looks (Work job) turns =
      λ scene sound finds rests. inl (turns.1 scene.share sound rests.facts.1.1.1).number
  opening-jobs looks (Decrypt blob app_id text) turns = λ scene sound finds rests. tt

module _ (protect : Protecting) (looks : Looks) where
  -- the turns by stage
  pub opening-shown : (doing : Doing) → protect.store.stage ≡ First → OpenTurns protect.opening (Some doing)
      → OpenAsks protect.opening (Some doing)
      → Shows (staged protect IsOpening) looks (opening_turn protect.opening.user doing)
  opening-shown doing first turns asks = record {
    turn = λ scene sound finds rests. opening-turns protect scene rests.facts rests.serves doing turns sound;
    asks = opening-asks protect doing first asks;
    jobs = opening-jobs protect looks doing turns;
  }

  pub refused-shown : HasEnded protect.opening → key_in protect.opening.stage ≡ None
      → Shows (staged protect IsOpening) looks (ReplyNext WrongSecret)
  refused-shown ended none = record {
    turn = λ scene sound finds rests. refuses protect scene rests.facts rests.serves sound ended none;
    asks = tt;
    jobs = λ scene sound finds rests. tt;
  }

  pub removed-shown : looks.in_the_way ≡ Some Temp
      → Shows (staged protect Clearing) looks (CallNext (OpCall protect.opening.user (RemoveDir Temp) None) None)
  removed-shown is = record {
    turn = λ scene sound finds rests. removes protect scene rests.facts rests.serves
        (subst (IsNextToClear (own_view scene.share.own)) is finds.clear).1;
    asks = tt;
    jobs = λ scene sound finds rests. tt;
  }

  module _ (next : Next) (turn : IsStoreTurn protect.opening.user protect.store (Some (change_by protect)) next) where
    pub begun-shown : IsProtecting (staged protect Clearing) → looks.in_the_way ≢ Some Temp
        → Shows (staged protect Clearing) looks next
    begun-shown is other = record {
      turn = λ scene sound finds rests.
          as-cleared tasks (OfProtect (staged protect Clearing)) (OfProtect (staged protect Storing)) protect.store
          (cleared protect is.stage) scene next
          (stores protect scene sound (begun-fits protect is) (begun scene sound finds rests) rests.serves
          (held-none scene) next turn);
      asks = store-asks tasks (OfProtect (staged protect Clearing)) protect.store (clearing-asks protect) {E = Next}
          protect.opening.user (Some (change_by protect)) (Ok next) turn;
      jobs = λ scene sound finds rests. stored-job (staged protect Clearing) next
          (store-job protect.opening.user protect.store (Some (change_by protect)) scene.share next
          (stored-has protect scene sound (begun-fits protect is) (begun scene sound finds rests) rests.serves
          (held-none scene)) turn);
    }
      where
        begun : (scene : Scene) → IsSound protect.opening.user scene.share
            → Finds scene [] looks
            → Rests (protect_rest (staged protect Clearing)) scene.boot scene.began scene.share
            → AllHas (protect_rest (staged protect Storing)).facts scene.share
        begun scene sound finds rests = begun-has protect scene.share is.stage is.placed sound
            (temp-clear (own_view scene.share.own) looks.in_the_way other finds.clear) rests.facts

        held-none : (scene : Scene) (named : Blob) → Contains (held_of protect.store) named
            → ¬ (PartNames (own_view scene.share.own) named)
        held-none scene named has =
            absurd (Contains-none named (subst (λ stage. Contains (held_at stage) named) is.stage has))

    pub stored-shown : IsProtecting (staged protect Storing) → Shows (staged protect Storing) looks next
    stored-shown is = record {
      turn = λ scene sound finds rests.
          stores protect scene sound is rests.facts rests.serves finds.unnamed next turn;
      asks = store-asks tasks (OfProtect (staged protect Storing)) protect.store (storing-asks protect) {E = Next}
          protect.opening.user (Some (change_by protect)) (Ok next) turn;
      jobs = λ scene sound finds rests. stored-job (staged protect Storing) next
          (store-job protect.opening.user protect.store (Some (change_by protect)) scene.share next
          (stored-has protect scene sound is rests.facts rests.serves finds.unnamed) turn);
    }

  -- the sync behind the rename, and the reply
  pub synced-shown : Shows (staged protect Added) looks (CallNext SyncCall None)
  synced-shown = record {
    turn = λ scene sound finds rests. record {
      stands = record {
        quiet = refl;
        held = refl;
        leads = leads-to tasks (OfProtect (staged protect Added)) Done refl refl refl (record {
          facts = (
            (later-facts (Logged (change_by protect) ∷ []) scene.share.own _ (inr refl) (rests.facts.0, tt)).0,
            (refl, tt),
          );
          known = (tt, (tt, tt));
          serves = rests.serves;
          same_user = refl;
          falls = omega arith;
          makes = omega arith;
          draws = omega arith;
        });
      };
      may = tt;
      lasts = omega arith;
    };
    asks = tt;
    jobs = λ scene sound finds rests. tt;
  }

  -- and once all is deleted that was due, the reply
  ended : IsEnding tasks (OfProtect (staged protect Ended))
  ended = record { hears = refl; stays = refl; left = omega arith; held = refl }

  pub ended-shown : Shows (staged protect Ended) looks (ending_turn looks.due false DoneReply)
  ended-shown = record {
    turn = λ scene sound finds rests.
        ending-shows tasks (OfProtect (staged protect Ended)) ended looks scene finds rests false DoneReply
        (sym (ap tells_deletes rests.serves.command)) (λ none. record {
          outcome = refl;
          may = subst (DidWork (evidence_in protect.opening.user scene.share) scene.boot scene.began)
              (sym rests.serves.command) (
                (slot_of protect, rests.serves.changes, (refl, rests.facts.0)),
                (refl, rests.facts.1.0),
              );
          right = subst (λ command. TellsOpened DoneReply command → IfSome (opening_secret command)
              (IsUnder scene.share protect.opening.user)) (sym rests.serves.command) (λ opened. absurd opened);
          gone = λ gone. cc;
          lasts = omega arith;
          held = refl;
        });
    asks = ending-asks tasks (OfProtect (staged protect Ended)) looks.due false DoneReply;
    jobs = ending-jobs (OfProtect (staged protect Ended)) looks false DoneReply;
  }

-- at the stage that the protect is at, as it is seen
pub at-stage : (P : Protecting → Type 0) (protect now : Protecting) (stage : ProtectStage) → protect ≡ now
    → protect.stage ≡ stage → IsProtecting protect
    → (IsProtecting (staged protect stage) → P (staged protect stage)) → P now
at-stage P protect now stage seen here is holds =
    subst P seen (subst (λ s. IsProtecting (staged protect s) → P (staged protect s)) (sym here) holds is)
