-- A task that clears something before its store task begins shows what the task shows that is past that.
use Rattle.std.proofs.Common.{◌≡◌, true, List, [], ◌∷◌, ◌++◌, refl, sym, ap, ◌∙◌, subst, arith}
use Rattle.std.specs.Prelude.{Option, Some, None, is_some, IfSome}
use Rattle.tree_model.specs.declared.blobs.Blob.{Blob}
use Rattle.tree_model.specs.Dir.{Files}
use Rattle.journal_model.specs.Machine.{AllowsOutcome}
use Rattle.step_core.specs.Jobs.{output_of}
use Rattle.user_world.specs.declared.changes.LocalChange.{LocalChange}
use Rattle.user_world.specs.Turns.{with_note}
use Rattle.task_turns.specs.declared.calls.Answer.{Answer}
use Rattle.task_turns.specs.declared.calls.Answer.TheVariants.{Done, Directory, Blob as IsBlob, Sealed, Decrypted}
use Rattle.task_turns.specs.declared.calls.Answer.TheVariants.{Output, Installed}
use Rattle.task_turns.specs.declared.calls.Call.TheVariants.{Op as OpCall, Sync as SyncCall, List as ListCall, Read}
use Rattle.task_turns.specs.declared.calls.Call.TheVariants.{Generate, Encrypt, Decrypt, Entries, Add, Remove}
use Rattle.task_turns.specs.declared.calls.Call.TheVariants.{Delete}
use Rattle.task_turns.specs.declared.next.Next.{Next}
use Rattle.task_turns.specs.declared.next.Next.TheVariants.{Call as CallNext, Work as WorkNext, Reply as ReplyNext}
use Rattle.task_turns.specs.Shares.{Share}
use Rattle.task_turns.specs.Turns.{seen_of, Tasks, Scene, Cost, Leads, TurnShows, evidence_in, GaveRight}
use Rattle.task_turns.specs.Turns.{TellsOpened, MayChange}
use Rattle.store_task.specs.declared.stages.Stage.TheVariants.{First}
use Rattle.store_task.specs.Task.{Task, IsAnswer, AnswersStage}
use Rattle.user_tasks.proofs.Leading.{leads-to}

-- the task clears before its store task begins, and hears each answer to that as the one that is past it; neither
-- holds
-- a blob
pub record IsCleared {T : Type 0} (tasks : Tasks T) (clearing storing : T) (store : Task) : Type 1 where
  pub first : store.stage ≡ First
  pub hears : (answer : Answer) → tasks.hears storing answer → IsAnswer store answer
  pub heard : (answer : Answer) → IsAnswer store answer → tasks.hears clearing answer
  pub same : (answer : Answer) → IsAnswer store answer → tasks.after clearing answer ≡ tasks.after storing answer
  pub user : (tasks.rest_of clearing).user ≡ (tasks.rest_of storing).user
  pub left : (tasks.rest_of clearing).left ≡ (tasks.rest_of storing).left
  pub makes : (tasks.rest_of clearing).makes ≡ (tasks.rest_of storing).makes
  pub draws : (tasks.rest_of clearing).draws ≡ (tasks.rest_of storing).draws
  pub held : (tasks.rest_of storing).held ≡ []
  pub none : (tasks.rest_of clearing).held ≡ []

-- a store task that has not begun hears the output of its job alone
module _ (store : Task) (first : store.stage ≡ First) where
  unheard : (answer : Answer) → IsAnswer store answer → AnswersStage store.spec.secret First answer
  unheard answer answers = subst (λ stage. AnswersStage store.spec.secret stage answer) first answers

  pub not-done : IsAnswer store Done → ⊥
  not-done answers = unheard Done answers

  not-read : (found : Option Files) → is_some found ≡ true
      → ((files : Files) → found ≡ Some files → IsAnswer store (Directory files)) → ⊥
  not-read None there each = cc
  not-read (Some files) there each = unheard (Directory files) (each files refl)

module _ {T : Type 0} (tasks : Tasks T) (clearing storing : T) (store : Task)
    (cleared : IsCleared tasks clearing storing store) (scene : Scene) where
  leads-cleared : (answer : Answer) (note : Option LocalChange) (cost : Cost) (share : Share)
      → Leads (seen_of tasks storing) answer scene note cost share
      → Leads (seen_of tasks clearing) answer scene note cost share
  leads-cleared answer note cost share leads =
      let answers = cleared.hears answer leads.hears in
      leads-to tasks clearing answer (cleared.heard answer answers) refl
      (ap tasks.rest_of (cleared.same answer answers)) (record {
        facts = leads.facts;
        known = leads.known;
        serves = subst (λ user. (tasks.rest_of (tasks.after storing answer)).serves scene.boot
            (with_note user scene.began note)) (sym cleared.user) leads.serves;
        same_user = leads.same_user ∙ sym cleared.user;
        falls = omega (arith, leads.falls, cleared.left);
        makes = omega (arith, leads.makes, cleared.makes);
        draws = omega (arith, leads.draws, cleared.draws);
      })

  -- it holds then what the other one holds
  held-cleared : (answer : Answer) (gains : List Blob) → tasks.hears storing answer
      → (tasks.rest_of (tasks.after storing answer)).held ≡ (tasks.rest_of storing).held ++ gains
      → (tasks.rest_of (tasks.after clearing answer)).held ≡ (tasks.rest_of clearing).held ++ gains
  held-cleared answer gains heard held =
      ap (λ task. (tasks.rest_of task).held) (cleared.same answer (cleared.hears answer heard)) ∙ held
      ∙ ap (λ blobs. blobs ++ gains) (cleared.held ∙ sym cleared.none)

  may-cleared : (change : Option LocalChange)
      → IfSome change (MayChange (tasks.rest_of storing).user scene)
      → IfSome change (MayChange (tasks.rest_of clearing).user scene)
  may-cleared change may = subst (λ user. IfSome change (MayChange user scene)) (sym cleared.user) may

  done-cleared : tasks.hears storing Done → ⊥
  done-cleared heard = not-done store cleared.first (cleared.hears Done heard)

  pub as-cleared : (next : Next) → TurnShows (seen_of tasks storing) scene next
      → TurnShows (seen_of tasks clearing) scene next
  as-cleared (CallNext (OpCall owner op names) change) shows = absurd (done-cleared shows.stands.leads.hears)
  as-cleared (CallNext SyncCall change) shows = absurd (done-cleared shows.stands.leads.hears)
  as-cleared (CallNext ListCall change) shows = absurd shows.stands
  as-cleared (CallNext (Read place) change) shows = absurd (not-read store cleared.first _ shows.stands.there
      (λ files is. cleared.hears (Directory files) (shows.stands.each files is).leads.hears))
  as-cleared (CallNext (Generate tag app_id) change) shows = record {
    stands = record {
      quiet = shows.stands.quiet;
      tagged = shows.stands.tagged ∙ sym cleared.user;
      each = λ blob key long none.
          let each = shows.stands.each blob key long none in record {
            held = held-cleared (IsBlob blob) (blob ∷ []) each.leads.hears each.held;
            leads = leads-cleared (IsBlob blob) None _ _ each.leads;
          };
    };
    may = may-cleared change shows.may;
    lasts = omega (arith, shows.lasts, cleared.left);
  }
  as-cleared (CallNext (Encrypt blob app_id nonce key) change) shows =
      absurd (unheard store cleared.first (Sealed _) (cleared.hears (Sealed _) shows.stands.1.leads.hears))
  as-cleared (CallNext (Decrypt blob app_id text) change) shows =
      absurd (unheard store cleared.first (Decrypted _) (cleared.hears (Decrypted _) shows.stands.leads.hears))
  as-cleared (CallNext Entries change) shows = absurd shows.stands
  as-cleared (CallNext (Delete item tells) change) shows = absurd (done-cleared shows.stands.leads.hears)
  as-cleared (CallNext (Add owner class key) change) shows =
      absurd (unheard store cleared.first Installed (cleared.hears Installed shows.stands.leads.hears))
  as-cleared (CallNext (Remove owner class) change) shows = absurd (done-cleared shows.stands.leads.hears)
  as-cleared (WorkNext job) shows = record {
    held =
        let output = Output (output_of job.input) in
        ap (λ task. (tasks.rest_of task).held) (cleared.same output (cleared.hears output shows.leads.hears))
        ∙ shows.held ∙ cleared.held ∙ sym cleared.none;
    leads = leads-cleared (Output _) None _ _ shows.leads;
  }
  as-cleared (ReplyNext reply) shows = record {
    outcome = shows.outcome;
    may = subst (λ user. AllowsOutcome (evidence_in user scene.share) scene.boot scene.began reply) (sym cleared.user)
        shows.may;
    right = subst (λ user. TellsOpened reply scene.began.command → GaveRight user scene) (sym cleared.user)
        shows.right;
    gone = shows.gone;
    lasts = omega (arith, shows.lasts, cleared.left);
    held = cleared.none;
  }
