use Rattle.std.proofs.Common.{sym, subst, ap, ◌∙◌, ◌≡◌}
use Rattle.std.specs.Prelude.{Some}
use Rattle.std.specs.List.{slice_get}
use Rattle.open_task.specs.declared.stages.Doing.TheVariants.{Read as ReadSlot, Work}
use Rattle.open_task.specs.Turns.{OpenTurns, OpenAsks, AsksFor}
use Rattle.open_task.specs.Task.{job_of}
use Rattle.open_task.proofs.Slots.{first-left}
use Rattle.open_task.proofs.ShownTurns.{read-turn, work-turn, decrypt-turn}
use Rattle.open_task.proofs.task.OpenTask.next.Goals as goal

pub returns-in-Some : goal.returns-in-Some
returns-in-Some c =
    let here : slice_get c.self.inside.slots.items c.self.inside.at ≡ Some c.in-Some.slot =
    ap (λ slots. slice_get slots c.self.inside.at) (sym c.as_slice.ensures.value) ∙ sym c.slot_at.ensures
    ∙ c.in-Some.is in
    record {
      turn = subst (λ task. OpenTurns task (Some (ReadSlot c.in-Some.slot))) c.self.view_is
          (read-turn _ c.in-Some.slot (first-left c.self.inside.slots.items c.self.inside.at c.in-Some.slot here)
          c.in-Reading.is);
      asks = tt;
    }

pub returns-in_ok-job-in-Read : goal.returns-in_ok-job-in-Read
returns-in_ok-job-in-Read c =
    let job = c.in_ok-job-in-Read.field-0 in
    let made : job ≡ job_of c.args.self.now c.in-Read.dir = c.in_ok-job-in-Read.ensures in
    let shown = subst (λ task. job ≡ job_of task c.in-Read.dir → OpenTurns task (Some (Work job)) × AsksFor task job)
    c.self.view_is (work-turn _ c.self.invariant c.in-Read.dir c.in-Read.is job) made in
    record { turn = shown.0; asks = shown.1 }

pub returns-in_ok-decrypt-in-Tied : goal.returns-in_ok-decrypt-in-Tied
returns-in_ok-decrypt-in-Tied c =
    let doing = c.in_ok-decrypt-in-Tied.field-0 in
    let shown = subst (λ task. OpenTurns task (Some doing) × OpenAsks task (Some doing)) c.self.view_is
    (decrypt-turn _ c.self.invariant c.in-Tied.dir c.in-Tied.app_id doing c.in-Tied.is
    c.in_ok-decrypt-in-Tied.ensures) in
    record { turn = shown.0; asks = shown.1 }
