use Rattle.std.proofs.Common.{subst, sym}
use Rattle.std.specs.Prelude.{IfOk}
use Rattle.journal_model.specs.declared.commands.Reply.TheVariants.{Done}
use Rattle.task_turns.specs.declared.next.Next.TheVariants.{Reply}
use Rattle.task_turns.specs.Turns.{seen_of, Asks}
use Rattle.user_tasks.specs.Tasks.{UserTurns, UserJobs, tasks}
use Rattle.user_tasks.proofs.AskedJobs.{clearing-asks, ce-asks, de-asks}
use Rattle.user_tasks.proofs.CreateTurns.{clear-turn, begin-turn, ce-turn, de-turn, turns-given}
use Rattle.user_tasks.proofs.Installing.{sync-turn, de-installed, ce-installed, reply-turn}
use Rattle.user_tasks.proofs.JobNumbers.{call-jobs, begin-jobs, ce-jobs, de-jobs}
use Rattle.user_tasks.proofs.creates.Create.next.Goals as goal
use Rattle.user_tasks.specs.declared.tasks.UserTask.TheVariants.{Create as OfCreate}

pub returns-in-Some : goal.returns-in-Some
returns-in-Some c =
    let looks = c.args.looks in
    let next = c.removing.result in record {
      turn = subst (λ create. UserTurns (OfCreate create) looks next) c.self.view_is
          (clear-turn _ c.self.invariant looks c.in-Some.site next c.in-Clearing.is c.in-Some.is c.removing.ensures);
      asks = subst (Asks (seen_of tasks (OfCreate c.args.self.now))) (sym c.removing.ensures) tt;
      jobs = call-jobs c.args.self.now looks next _ _ c.removing.ensures;
    }

pub returns-in-None : goal.returns-in-None
returns-in-None c =
    let looks = c.args.looks in
    let result = c.store_turn.result in record {
      turn = subst (λ create. IfOk result (UserTurns (OfCreate create) looks)) c.self.view_is
          (turns-given _ _ result c.store_turn.ensures.turn
          (λ next turn. begin-turn _ c.self.invariant looks next c.in-Clearing.is c.in-None.is turn));
      asks = subst (λ create. IfOk c.store_turn.result (Asks (seen_of tasks (OfCreate create)))) c.self.view_is
          (clearing-asks _ c.store_turn.result c.in-Clearing.is c.store_turn.ensures.turn);
      jobs = subst (λ create. IfOk result (UserJobs (OfCreate create) looks)) c.self.view_is
          (turns-given _ _ result c.store_turn.ensures.turn
          (λ next turn. begin-jobs _ c.self.invariant looks next c.in-Clearing.is c.in-None.is turn));
    }

pub returns-in-StoringCe : goal.returns-in-StoringCe
returns-in-StoringCe c =
    let looks = c.args.looks in
    let result = c.store_turn-in-StoringCe.result in record {
      turn = subst (λ create. IfOk result (UserTurns (OfCreate create) looks)) c.self.view_is
          (turns-given _ _ result c.store_turn-in-StoringCe.ensures.turn
          (λ next turn. ce-turn _ c.self.invariant looks next c.in-StoringCe.is turn));
      asks = subst (λ create. IfOk c.store_turn-in-StoringCe.result (Asks (seen_of tasks (OfCreate create))))
          c.self.view_is
          (ce-asks _ c.store_turn-in-StoringCe.result c.in-StoringCe.is c.store_turn-in-StoringCe.ensures.turn);
      jobs = subst (λ create. IfOk result (UserJobs (OfCreate create) looks)) c.self.view_is
          (turns-given _ _ result c.store_turn-in-StoringCe.ensures.turn
          (λ next turn. ce-jobs _ c.self.invariant looks next c.in-StoringCe.is turn));
    }

pub returns-in-StoringDe : goal.returns-in-StoringDe
returns-in-StoringDe c =
    let looks = c.args.looks in
    let result = c.store_turn-in-StoringDe.result in record {
      turn = subst (λ create. IfOk result (UserTurns (OfCreate create) looks)) c.self.view_is
          (turns-given _ _ result c.store_turn-in-StoringDe.ensures.turn
          (λ next turn. de-turn _ c.self.invariant looks next c.in-StoringDe.is turn));
      asks = subst (λ create. IfOk c.store_turn-in-StoringDe.result (Asks (seen_of tasks (OfCreate create))))
          c.self.view_is
          (de-asks _ c.store_turn-in-StoringDe.result c.in-StoringDe.is c.store_turn-in-StoringDe.ensures.turn);
      jobs = subst (λ create. IfOk result (UserJobs (OfCreate create) looks)) c.self.view_is
          (turns-given _ _ result c.store_turn-in-StoringDe.ensures.turn
          (λ next turn. de-jobs _ c.self.invariant looks _ next c.in-StoringDe.is turn));
    }

pub returns-in-Created : goal.returns-in-Created
returns-in-Created c =
    let looks = c.args.looks in
    let next = c.quiet.result in record {
      turn = subst (λ create. UserTurns (OfCreate create) looks next) c.self.view_is
          (sync-turn _ c.self.invariant looks next c.in-Created.is c.quiet.ensures);
      asks = subst (Asks (seen_of tasks (OfCreate c.args.self.now))) (sym c.quiet.ensures) tt;
      jobs = call-jobs c.args.self.now looks next _ _ c.quiet.ensures;
    }

pub returns-in-InstallingDe : goal.returns-in-InstallingDe
returns-in-InstallingDe c =
    let looks = c.args.looks in
    let next = c.install.result in record {
      turn = subst (λ create. UserTurns (OfCreate create) looks next) c.self.view_is
          (de-installed _ c.self.invariant looks next c.in-InstallingDe.is c.install.ensures);
      asks = subst (Asks (seen_of tasks (OfCreate c.args.self.now))) (sym c.install.ensures) tt;
      jobs = call-jobs c.args.self.now looks next _ _ c.install.ensures;
    }

pub returns-in-InstallingCe : goal.returns-in-InstallingCe
returns-in-InstallingCe c =
    let looks = c.args.looks in
    let next = c.install-in-InstallingCe.result in record {
      turn = subst (λ create. UserTurns (OfCreate create) looks next) c.self.view_is
          (ce-installed _ c.self.invariant looks next c.in-InstallingCe.is c.install-in-InstallingCe.ensures);
      asks = subst (Asks (seen_of tasks (OfCreate c.args.self.now))) (sym c.install-in-InstallingCe.ensures) tt;
      jobs = call-jobs c.args.self.now looks next _ _ c.install-in-InstallingCe.ensures;
    }

pub returns-in-Ended : goal.returns-in-Ended
returns-in-Ended c = record {
  turn = subst (λ create. UserTurns (OfCreate create) c.args.looks (Reply Done)) c.self.view_is
      (reply-turn _ c.self.invariant c.args.looks c.in-Ended.is);
  asks = tt;
  jobs = λ scene images clear rests. tt;
}
