-- A create's jobs have the numbers of its store tasks.
use Rattle.std.proofs.Common.{◌≡◌, ℕ, sym, subst, inl, inr}
use Rattle.std.specs.Prelude.{Option, None}
use Rattle.tree_model.specs.declared.blobs.Blob.{Blob}
use Rattle.tree_model.specs.declared.sites.LocalOp.{LocalOp}
use Rattle.tree_model.specs.declared.sites.LocalOp.TheVariants.{MakeDir, Write, RenameFile, RenameDir, RemoveFile}
use Rattle.tree_model.specs.declared.sites.LocalOp.TheVariants.{RemoveDir}
use Rattle.user_world.specs.declared.changes.LocalChange.{LocalChange}
use Rattle.user_world.specs.OwnWorlds.{own_view}
use Rattle.task_turns.specs.declared.calls.Call.{Call}
use Rattle.task_turns.specs.declared.next.Next.{Next}
use Rattle.task_turns.specs.declared.next.Next.TheVariants.{Call as CallNext, Work as WorkNext, Reply as ReplyNext}
use Rattle.task_turns.specs.Shares.{Share, AllHas}
use Rattle.store_task.specs.declared.turns.Doing.{Doing}
use Rattle.store_task.specs.declared.turns.Doing.TheVariants.{Work, Generate, Encrypt, Tree, Sync}
use Rattle.store_task.specs.Task.{Task, facts_of}
use Rattle.store_task.specs.Turns.{DoingShows}
use Rattle.user_tasks.specs.declared.creates.Stage.{Stage}
use Rattle.user_tasks.specs.declared.creates.Stage.TheVariants.{Clearing, StoringCe, StoringDe}
use Rattle.user_tasks.specs.declared.looks.Looks.{Looks}
use Rattle.user_tasks.specs.Looks.{IsNextToClear}
use Rattle.user_tasks.specs.Create.{Creating, IsCreating}
use Rattle.user_tasks.specs.Stores.{turn_of, op_turn, IsStoreTurn}
use Rattle.user_tasks.specs.Tasks.{IsNumbered, UserJobs}
use Rattle.user_tasks.proofs.CreateTurns.{stage-fits, begun-has}
use Rattle.user_tasks.specs.declared.tasks.UserTask.TheVariants.{Create as OfCreate}

-- a job of the turn has this number
abbrev pub IsJob : ℕ → Next → Type 0
IsJob number (WorkNext job) = job.number ≡ number
IsJob number (CallNext call change) = Unit {0}
IsJob number (ReplyNext reply) = Unit {0}

op-job : (number user : ℕ) (op : LocalOp) (named : Option Blob) (change : Option LocalChange)
    → IsJob number (op_turn user op named change)
op-job number user (MakeDir site) named change = tt
op-job number user (Write site file bytes) named change = tt
op-job number user (RenameFile site from to) named change = tt
op-job number user (RenameDir from to) named change = tt
op-job number user (RemoveFile site file) named change = tt
op-job number user (RemoveDir site) named change = tt

module _ (user : ℕ) (store : Task) (change : Option LocalChange) (share : Share) where
  doing-job : (doing : Doing) (named : Option Blob) → DoingShows store share doing
      → IsJob store.job (turn_of user doing named change)
  doing-job (Work job) named shows = shows.number
  doing-job (Generate tag app_id) named shows = tt
  doing-job (Encrypt blob app_id nonce key) named shows = tt
  doing-job (Tree op) named shows = op-job store.job user op named change
  doing-job Sync named shows = tt

  pub store-job : (next : Next) → AllHas (facts_of store) share → IsStoreTurn user store change next
      → IsJob store.job next
  store-job next has turn =
      subst (IsJob store.job) (sym turn.is) (doing-job turn.doing turn.named (turn.shows.1 share has))

-- it is one of the create's
ce-job : (create : Creating) (next : Next) → IsJob create.ce.job next → IsNumbered (OfCreate create) next
ce-job create (WorkNext job) is = inl is
ce-job create (CallNext call change) is = tt
ce-job create (ReplyNext reply) is = tt

de-job : (create : Creating) (next : Next) → IsJob create.de.job next → IsNumbered (OfCreate create) next
de-job create (WorkNext job) is = inr is
de-job create (CallNext call change) is = tt
de-job create (ReplyNext reply) is = tt

pub call-jobs : (create : Creating) (looks : Looks) (next : Next) (call : Call) (change : Option LocalChange)
    → next ≡ CallNext call change → UserJobs (OfCreate create) looks next
call-jobs create looks next call change named =
    subst (UserJobs (OfCreate create) looks) (sym named) (λ scene sound clear rests. tt)

module _ (create : Creating) (is : IsCreating create) (looks : Looks) where
  at-stage : (stage : Stage) (next : Next) → create.stage ≡ stage
      → UserJobs (OfCreate (record create { stage = stage })) looks next
      → UserJobs (OfCreate create) looks next
  at-stage stage next here jobs =
      subst (λ s. UserJobs (OfCreate (record create { stage = s })) looks next) (sym here) jobs

  pub begin-jobs : (next : Next) → create.stage ≡ Clearing → looks.in_the_way ≡ None
      → IsStoreTurn create.user create.ce None next
      → UserJobs (OfCreate create) looks next
  begin-jobs next here nothing turn = at-stage Clearing next here
      (λ scene sound clear rests.
      let has = begun-has create is looks scene sound.images rests.facts (stage-fits create is looks Clearing here).0
      (subst (IsNextToClear (own_view scene.share.own)) nothing clear.clear) in
      ce-job create next (store-job create.user create.ce None scene.share next has.1.1.1.1 turn))

  pub ce-jobs : (next : Next) → create.stage ≡ StoringCe → IsStoreTurn create.user create.ce None next
      → UserJobs (OfCreate create) looks next
  ce-jobs next here turn = at-stage StoringCe next here
      (λ scene sound clear rests.
      ce-job create next (store-job create.user create.ce None scene.share next rests.facts.1.1.1.1 turn))

  pub de-jobs : (change : Option LocalChange) (next : Next) → create.stage ≡ StoringDe
      → IsStoreTurn create.user create.de change next
      → UserJobs (OfCreate create) looks next
  de-jobs change next here turn = at-stage StoringDe next here
      (λ scene sound clear rests.
      de-job create next (store-job create.user create.de change scene.share next rests.facts.1.1.1.1.1 turn))
