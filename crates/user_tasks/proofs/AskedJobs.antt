-- A create asks for a job only where it says so, and for fewer once it heard the output.
use Rattle.std.proofs.Common.{◌≡◌, ℕ, ◌<◌, sym, subst}
use Rattle.std.specs.Prelude.{Option, Some, None, Result, Ok, Err, IfOk}
use Rattle.tree_model.specs.declared.blobs.Blob.{Blob}
use Rattle.tree_model.specs.declared.sites.LocalOp.{LocalOp}
use Rattle.tree_model.specs.declared.sites.LocalOp.TheVariants.{MakeDir, Write, RenameFile, RenameDir, RemoveFile}
use Rattle.tree_model.specs.declared.sites.LocalOp.TheVariants.{RemoveDir}
use Rattle.step_core.specs.declared.jobs.Job.{Job}
use Rattle.step_core.specs.Jobs.{output_of}
use Rattle.user_world.specs.declared.changes.LocalChange.{LocalChange}
use Rattle.user_world.specs.declared.changes.LocalChange.TheVariants.{Born}
use Rattle.task_turns.specs.declared.calls.Answer.{Answer}
use Rattle.task_turns.specs.declared.calls.Answer.TheVariants.{Output}
use Rattle.task_turns.specs.declared.next.Next.{Next}
use Rattle.task_turns.specs.Turns.{seen_of, Tasks, AsksFor, Asks}
use Rattle.store_task.specs.declared.turns.Doing.{Doing}
use Rattle.store_task.specs.declared.turns.Doing.TheVariants.{Work, Generate, Encrypt, Tree, Sync}
use Rattle.store_task.specs.Task.{Task, after as store_after, asks_of as store_asks_of}
use Rattle.store_task.specs.Turns.{AsksFirst, StoreAsks}
use Rattle.store_task.proofs.AskedJobs.{asked}
use Rattle.user_tasks.specs.declared.creates.Stage.{Stage}
use Rattle.user_tasks.specs.declared.creates.Stage.TheVariants.{Clearing, StoringCe, StoringDe}
use Rattle.user_tasks.specs.Create.{Creating, creates, after_ce, after_de, with_ce, with_de, asks_at, asks_of}
use Rattle.user_tasks.specs.Stores.{op_turn, turn_of, IsStoreTurn}

-- the job of a store task is one of its command's
module _ {T : Type 0} (tasks : Tasks T) (task : T) (store : Task)
    (asks : (job : Job) → AsksFirst store job → AsksFor (seen_of tasks task) job) where
  op-asks : (user : ℕ) (op : LocalOp) (named : Option Blob) (change : Option LocalChange)
      → Asks (seen_of tasks task) (op_turn user op named change)
  op-asks user (MakeDir site) named change = tt
  op-asks user (Write site file bytes) named change = tt
  op-asks user (RenameFile site from to) named change = tt
  op-asks user (RenameDir from to) named change = tt
  op-asks user (RemoveFile site file) named change = tt
  op-asks user (RemoveDir site) named change = tt

  doing-asks : (user : ℕ) (doing : Doing) (named : Option Blob) (change : Option LocalChange)
      → StoreAsks store (Some doing) → Asks (seen_of tasks task) (turn_of user doing named change)
  doing-asks user (Work job) named change first = asks job first
  doing-asks user (Generate tag app_id) named change first = tt
  doing-asks user (Encrypt blob app_id nonce key) named change first = tt
  doing-asks user (Tree op) named change first = op-asks user op named change
  doing-asks user Sync named change first = tt

  pub store-asks : {E : Type 0} (user : ℕ) (change : Option LocalChange) (result : Result Next E)
      → IfOk result (IsStoreTurn user store change) → IfOk result (Asks (seen_of tasks task))
  store-asks user change (Ok next) turn =
      subst (Asks (seen_of tasks task)) (sym turn.is) (doing-asks user turn.doing turn.named change turn.asks)
  store-asks user change (Err fault) turn = tt

module _ (create : Creating) where
  abbrev staged : Stage → Creating
  staged stage = record create { stage = stage }

  abbrev output : Job → Answer
  output job = Output (output_of job.input)

  -- a store task that has the output has not begun its directory, so the create goes on with it
  ce-fewer : (job : Job) → AsksFirst create.ce job
      → asks_of (with_ce create (store_after create.ce (output job))) < store_asks_of create.ce
  ce-fewer job first = let is = asked create.ce job first in
      subst (λ progress. asks_at (after_ce progress) (with_ce create (store_after create.ce (output job)))
      < store_asks_of create.ce) (sym is.absent) is.fewer

  de-fewer : (job : Job) → AsksFirst create.de job
      → asks_of (with_de create (store_after create.de (output job))) < store_asks_of create.de
  de-fewer job first = let is = asked create.de job first in
      subst (λ progress. asks_at (after_de progress) (with_de create (store_after create.de (output job)))
      < store_asks_of create.de) (sym is.absent) is.fewer

  clearing-job : (job : Job) → AsksFirst create.ce job → AsksFor (seen_of creates (staged Clearing)) job
  clearing-job job first = let is = asked create.ce job first in
      record { whole = is.whole; hears = is.hears; fewer = ce-fewer job first }

  ce-job : (job : Job) → AsksFirst create.ce job → AsksFor (seen_of creates (staged StoringCe)) job
  ce-job job first = let is = asked create.ce job first in
      record { whole = is.whole; hears = is.hears; fewer = ce-fewer job first }

  de-job : (job : Job) → AsksFirst create.de job → AsksFor (seen_of creates (staged StoringDe)) job
  de-job job first = let is = asked create.de job first in
      record { whole = is.whole; hears = is.hears; fewer = de-fewer job first }

  -- the turns of its store tasks
  module _ {E : Type 0} (result : Result Next E) where
    at-stage : (stage : Stage) → create.stage ≡ stage → IfOk result (Asks (seen_of creates (staged stage)))
        → IfOk result (Asks (seen_of creates create))
    at-stage stage here asks = subst (λ s. IfOk result (Asks (seen_of creates (staged s)))) (sym here) asks

    pub clearing-asks : create.stage ≡ Clearing → IfOk result (IsStoreTurn create.user create.ce None)
        → IfOk result (Asks (seen_of creates create))
    clearing-asks here turn = at-stage Clearing here
        (store-asks creates (staged Clearing) create.ce clearing-job create.user None result turn)

    pub ce-asks : create.stage ≡ StoringCe → IfOk result (IsStoreTurn create.user create.ce None)
        → IfOk result (Asks (seen_of creates create))
    ce-asks here turn = at-stage StoringCe here
        (store-asks creates (staged StoringCe) create.ce ce-job create.user None result turn)

    pub de-asks : create.stage ≡ StoringDe
        → IfOk result (IsStoreTurn create.user create.de (Some (Born create.birth)))
        → IfOk result (Asks (seen_of creates create))
    de-asks here turn = at-stage StoringDe here
        (store-asks creates (staged StoringDe) create.de de-job create.user (Some (Born create.birth)) result turn)
