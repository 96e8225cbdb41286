use Rattle.std.proofs.Common.{◌≡◌, sym, subst}
use Rattle.std.proofs.lemmas.Result.{IfOk-weaker}
use Rattle.std.specs.Prelude.{None, IfOk}
use Rattle.journal_model.specs.declared.commands.Actor.{Actor}
use Rattle.task_turns.specs.declared.next.Next.{Next}
use Rattle.user_tasks.specs.Tasks.{user_of}
use Rattle.vold_book.specs.declared.plans.Planned.{Planned}
use Rattle.vold_book.specs.declared.tasks.Running.{Running}
use Rattle.vold_book.specs.Knowing.{IsTold}
use Rattle.vold_book.specs.Plans.{next_of}
use Rattle.vold_book.specs.State.{Plain, seen, senses}
use Rattle.vold_book.specs.Steps.{IsPlanned, task_now}
use Rattle.vold_book.specs.Tasks.{Plans}
use Rattle.vold_book.proofs.Planned.{planned-user}
use Rattle.vold_book.proofs.PlannedRecovery.{recovery-settled, planned-recovery}
use Rattle.vold_book.proofs.book.Book.planned.Goals as goal

pub with_no_job-requires : goal.with_no_job-requires
with_no_job-requires g c =
    recovery-settled _ c.self.invariant c.args.actor c.in-Some.it.now c.in-Recovery.recovery c.is_dirty.result
    (sym c.in-Some.ensures) c.in-Recovery.is c.is_dirty.ensures c.next-next.result c.next-next.ensures

pub returns-in-User-clause-plans : goal.returns-in-User-clause-plans
returns-in-User-clause-plans g c =
    let eyes = senses g.T.TreeDisk.disk g.T.TreeDisk.counts g.K.Keystore.store g.K.Keystore.counts g.G.KeyRing.ring
    g.G.KeyRing.counts in
    let it = c.in-Some.it.now in
    let looks = c.looks-looks.result in
    let told = subst (λ user. IsTold (seen eyes c.args.self.now) user it.owed looks) c.user.ensures
    c.looks-looks.ensures in
    subst (λ book. IfOk c.planned_user.result (IsPlanned (seen eyes book) c.args.actor)) c.self.view_is
    (IfOk-weaker c.planned_user.result _ _ (λ planned plans.
    planned-user _ c.self.invariant c.args.actor it c.in-User.task looks planned (sym c.in-Some.ensures) c.in-User.is
    (subst (λ book. IsTold (seen eyes book) (user_of c.in-User.task) it.owed looks) (sym c.self.view_is) told) plans)
    c.planned_user.ensures)

-- what a task does next without a job is what the Book plans
plans-as-is : (book : Plain) (actor : Actor) (it : Running) (planned : Planned) (next : Next) → planned.task ≡ None
    → next_of planned.plan ≡ next → Plans book actor it it.task next → IsPlanned book actor planned
plans-as-is book actor it planned next none is plans = record {
  it = it;
  plans = subst (λ task. Plans book actor it (task_now task it.task) (next_of planned.plan)) (sym none)
      (subst (λ then. Plans book actor it it.task then) (sym is) plans);
}

pub returns-in-Recovery-clause-plans : goal.returns-in-Recovery-clause-plans
returns-in-Recovery-clause-plans g c =
    let eyes = senses g.T.TreeDisk.disk g.T.TreeDisk.counts g.K.Keystore.store g.K.Keystore.counts g.G.KeyRing.ring
    g.G.KeyRing.counts in
    subst (λ book. IsPlanned (seen eyes book) c.args.actor c.with_no_job.result) c.self.view_is
    (plans-as-is _ c.args.actor c.in-Some.it.now c.with_no_job.result c.next-next.result c.with_no_job.ensures.task
    c.with_no_job.ensures.plan
    (planned-recovery _ c.self.invariant c.args.actor c.in-Some.it.now c.in-Recovery.recovery c.is_dirty.result
    (sym c.in-Some.ensures) c.in-Recovery.is c.is_dirty.ensures c.next-next.result c.next-next.ensures))
