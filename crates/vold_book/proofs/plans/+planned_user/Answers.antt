use Rattle.std.proofs.Common.{◌<◌, ◌∷◌, [], sym, ap, ◌∙◌, subst}
use Rattle.std.specs.Prelude.{unwrap_or}
use Rattle.step_core.specs.declared.jobs.Job.{Job}
use Rattle.step_core.specs.Jobs.{output_of}
use Rattle.task_turns.specs.declared.calls.Answer.TheVariants.{Output}
use Rattle.task_turns.specs.Turns.{Asks, AsksFor, seen_of}
use Rattle.user_tasks.specs.Tasks.{tasks, UserTurns}
use Rattle.vold_book.specs.Plans.{Works, next_of}
use Rattle.vold_book.proofs.plans.+planned_user.Goals as goal

-- with each job it asks for fewer further ones
pub planned_user-requires : goal.planned_user-requires
planned_user-requires t c =
    let asks : AsksFor (seen_of tasks c.args.task.now) c.in-Work.job =
    subst (Asks (seen_of tasks c.args.task.now)) c.in-Work.is c.in_ok-next.ensures.asks in
    let then = c.heard.ensures.after
    ∙ λ i. tasks.after (c.in_ok-then-in-Work.ensures i)
    (Output ((c.into_output.ensures ∙ ap (λ (job : Job). output_of job.input) c.in-Ok.ensures.done) i)) in (
      subst (λ most. tasks.asks c.heard.new.self < most) c.decreases
          (subst (λ task. tasks.asks task < tasks.asks c.args.task.now) (sym then) asks.fewer),
      tt,
    )

pub returns-in_ok-task-in-Work : goal.returns-in_ok-task-in-Work
returns-in_ok-task-in-Work t c =
    let inner = c.in_ok-task-in-Work.ensures in
    let then = c.heard.ensures.after
    ∙ λ i. tasks.after (c.in_ok-then-in-Work.ensures i)
    (Output ((c.into_output.ensures ∙ ap (λ (job : Job). output_of job.input) c.in-Ok.ensures.done) i)) in
    let last = sym c.unwrap_or.ensures in record {
      jobs = c.in-Work.job ∷ inner.jobs;
      works = (
        subst (UserTurns c.args.task.now c.args.looks.now) c.in-Work.is c.in_ok-next.ensures.turn,
        subst (λ now. Works (tasks.after c.args.task.now (Output (output_of c.in-Work.job.input))) c.args.looks.now now
            inner.jobs) last
            (subst (λ task. Works task c.args.looks.now
            (unwrap_or c.in_ok-task-in-Work.field-0.task c.heard.new.self) inner.jobs) then inner.works),
      );
      turns = subst (λ now. UserTurns now c.args.looks.now (next_of c.in_ok-task-in-Work.field-0.plan))
          last inner.turns;
    }

pub returns-in_default : goal.returns-in_default
returns-in_default t c = record {
  jobs = [];
  works = ap (λ found. unwrap_or found c.args.task.now) c.with_no_job.ensures.task;
  turns = subst (λ now. UserTurns now c.args.looks.now (next_of c.with_no_job.result.plan))
      (sym (ap (λ found. unwrap_or found c.args.task.now) c.with_no_job.ensures.task))
      (subst (UserTurns c.args.task.now c.args.looks.now) (sym c.with_no_job.ensures.plan)
      c.in_ok-next.ensures.turn);
}
