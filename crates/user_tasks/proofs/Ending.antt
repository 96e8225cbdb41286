-- A command that has done its work: what it listed is deleted, item by item, and behind the last comes its reply.
use Rattle.std.proofs.Common.{◌≡◌, ◌<◌, List, [], refl, ap, ◌∙◌, subst, arith, inl}
use Rattle.std.specs.Prelude.{Bool, Option, Some, None, IfSome, Contains}
use Rattle.deferred_delete.specs.declared.items.Item.{Item}
use Rattle.tree_model.specs.declared.blobs.Blob.{Blob}
use Rattle.tree_model.specs.Named.{PartNames}
use Rattle.journal_model.specs.declared.commands.Reply.{Reply}
use Rattle.keystore_model.proofs.Elements.{Contains-none}
use Rattle.keystore_model.proofs.Stores.{entry-without_other}
use Rattle.user_world.specs.OwnWorlds.{own_view}
use Rattle.task_turns.specs.declared.calls.Answer.TheVariants.{Done}
use Rattle.task_turns.specs.declared.calls.Call.TheVariants.{Delete}
use Rattle.task_turns.specs.Shares.{Share, AllHas, LaterShare}
use Rattle.task_turns.specs.Turns.{seen_of, Rest, Tasks, Scene, Rests, Asks, Leads, CallShows, ReplyShows, TurnShows}
use Rattle.task_turns.specs.Turns.{cost_of, without_entry, tells_deletes}
use Rattle.task_turns.proofs.Lasting.{facts-last}
use Rattle.user_tasks.specs.declared.looks.Looks.{Looks}
use Rattle.user_tasks.specs.declared.tasks.UserTask.{UserTask}
use Rattle.user_tasks.specs.Looks.{Finds}
use Rattle.user_tasks.specs.Tasks.{UserJobs, IsNumbered}
use Rattle.user_tasks.specs.Turns.{ending_turn}
use Rattle.user_tasks.proofs.Leading.{none-more, leads-to}

-- without the entry of a blob that no directory of the user's names a share is later
later-deleted : (held : List Blob) → held ≡ [] → (share : Share) (blob : Blob)
    → ¬ (PartNames (own_view share.own) blob) → LaterShare held share (without_entry share blob)
later-deleted held none share blob spared = record {
  own = inl refl;
  level = refl;
  seed = refl;
  attempts = λ user. none-more (share.vault.attempts user);
  keys = refl;
  kept = λ other has. absurd (Contains-none other (subst (λ blobs. Contains blobs other) none has));
  named = λ other names entry live. entry-without_other share.vault.entries blob other
      (λ same. spared (subst (PartNames (own_view share.own)) same names)) ∙ live;
}

-- a task that is where it was once an item is deleted: it hears so, has a turn left, and holds no blob
pub record IsEnding {T : Type 0} (tasks : Tasks T) (task : T) : Type 1 where
  pub hears : tasks.hears task Done
  pub stays : tasks.rest_of (tasks.after task Done) ≡ tasks.rest_of task
  pub left : 0 < (tasks.rest_of task).left
  pub held : (tasks.rest_of task).held ≡ []

module _ {T : Type 0} (tasks : Tasks T) (task : T) (ends : IsEnding tasks task) (looks : Looks) (scene : Scene)
    (finds : Finds scene (tasks.rest_of task).held looks)
    (rests : Rests (tasks.rest_of task) scene.boot scene.began scene.share) where
  -- it rests where it did in any share in which its facts hold
  leads-still : (item : Item) (tells : Bool) (share : Share) → AllHas (tasks.rest_of task).facts share
      → Leads (seen_of tasks task) Done scene None (cost_of None (Delete item tells)) share
  leads-still item tells share has = leads-to tasks task Done ends.hears refl ends.stays (record {
    facts = has;
    known = rests.known;
    serves = rests.serves;
    same_user = refl;
    falls = omega arith;
    makes = omega arith;
    draws = omega arith;
  })

  -- the item that is due is deleted
  pub deletes-due : (item : Item) → looks.due ≡ Some item → (tells : Bool)
      → tells ≡ tells_deletes scene.began.command → CallShows (seen_of tasks task) scene (Delete item tells) None
  deletes-due item due tells telling =
      let held = (tasks.rest_of task).held in
      let spared = subst (λ found. IfSome found (λ one. ¬ (PartNames (own_view scene.share.own) one.blob))) due
      finds.spared in
      record {
        stands = record {
          quiet = refl;
          is_due = finds.due ∙ due;
          telling = telling;
          held = ap (λ (rest : Rest). rest.held) ends.stays;
          leads = leads-still item tells (without_entry scene.share item.blob)
              (facts-last (tasks.rest_of task).facts held scene.share _
              (later-deleted held ends.held scene.share item.blob spared) rests.known rests.facts);
          goes_on = λ quiet. leads-still item tells scene.share rests.facts;
        };
        may = tt;
        lasts = omega (arith, ends.left);
      }

  -- and where none is, comes the reply
  pub ending-shows : (tells : Bool) (reply : Reply) → tells ≡ tells_deletes scene.began.command
      → (looks.due ≡ None → ReplyShows (seen_of tasks task) scene reply)
      → TurnShows (seen_of tasks task) scene (ending_turn looks.due tells reply)
  ending-shows tells reply telling replies = by looks.due refl
    where
      by : (due : Option Item) → looks.due ≡ due
          → TurnShows (seen_of tasks task) scene (ending_turn due tells reply)
      by None none = replies none
      by (Some item) due = deletes-due item due tells telling

-- it asks for no job
pub ending-asks : {T : Type 0} (tasks : Tasks T) (task : T) (due : Option Item) (tells : Bool) (reply : Reply)
    → Asks (seen_of tasks task) (ending_turn due tells reply)
ending-asks tasks task None tells reply = tt
ending-asks tasks task (Some item) tells reply = tt

pub ending-jobs : (task : UserTask) (looks : Looks) (tells : Bool) (reply : Reply)
    → UserJobs task looks (ending_turn looks.due tells reply)
ending-jobs task looks tells reply = λ scene sound finds rests. by looks.due
  where
    by : (due : Option Item) → IsNumbered task (ending_turn due tells reply)
    by None = tt
    by (Some item) = tt
