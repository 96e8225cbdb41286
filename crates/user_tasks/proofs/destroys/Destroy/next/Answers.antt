use Rattle.std.proofs.Common.{◌≡◌, sym, ap, ◌∙◌, subst}
use Rattle.std.specs.Prelude.{slice_get}
use Rattle.task_turns.specs.declared.next.Next.{Next}
use Rattle.user_tasks.specs.declared.looks.Looks.{Looks}
use Rattle.user_tasks.specs.declared.tasks.UserTask.TheVariants.{Destroy as OfDestroy}
use Rattle.user_tasks.specs.Destroy.{Destroying}
use Rattle.user_tasks.specs.Tasks.{UserTurns}
use Rattle.user_tasks.proofs.DestroyTurns.{evict-ce, evict-de, clears-turn, ends-turn, sweeps-turn, sync-turn}
use Rattle.user_tasks.proofs.DestroyTurns.{view_of, ending-turn}
use Rattle.user_tasks.proofs.destroys.Destroy.next.Goals as goal

shown : (inside now : Destroying) (looks : Looks) (given next : Next) → inside ≡ now → next ≡ given
    → UserTurns (OfDestroy inside) looks given → UserTurns (OfDestroy now) looks next
shown inside now looks given next same named turns = subst (λ destroy. UserTurns (OfDestroy destroy) looks next) same
    (subst (UserTurns (OfDestroy inside) looks) (sym named) turns)

pub returns-in-EvictingCe-clause-turn : goal.returns-in-EvictingCe-clause-turn
returns-in-EvictingCe-clause-turn c = shown _ _ c.args.looks _ _ c.self.view_is c.quiet.ensures
    (evict-ce (view_of c.self.inside) c.in-EvictingCe.is c.args.looks)

pub returns-in-EvictingDe-clause-turn : goal.returns-in-EvictingDe-clause-turn
returns-in-EvictingDe-clause-turn c = shown _ _ c.args.looks _ _ c.self.view_is c.quiet-in-EvictingDe.ensures
    (evict-de (view_of c.self.inside) c.in-EvictingDe.is c.args.looks)

pub returns-in-Clearing-clause-turn : goal.returns-in-Clearing-clause-turn
returns-in-Clearing-clause-turn c = shown _ _ c.args.looks _ _ c.self.view_is c.removing.ensures
    (clears-turn (view_of c.self.inside) c.in-Clearing.is c.args.looks)

pub returns-in-Removing-clause-turn : goal.returns-in-Removing-clause-turn
returns-in-Removing-clause-turn c = shown _ _ c.args.looks _ _ c.self.view_is c.ends_user.ensures
    (ends-turn (view_of c.self.inside) c.in-Removing.is c.args.looks)

pub returns-in-Some-clause-turn : goal.returns-in-Some-clause-turn
returns-in-Some-clause-turn c = shown _ _ c.args.looks _ _ c.self.view_is c.removing-in-Some.ensures
    (sweeps-turn (view_of c.self.inside) c.in-Sweeping.is c.in-Some.slot.now
    (ap (λ slots. slice_get slots 0) (sym c.deref.ensures.value) ∙ sym c.in-Some.ensures.value) c.args.looks)

pub returns-in-None-clause-turn : goal.returns-in-None-clause-turn
returns-in-None-clause-turn c = shown _ _ c.args.looks _ _ c.self.view_is c.quiet-in-None.ensures
    (sync-turn (view_of c.self.inside) c.in-Sweeping.is
    (ap (λ slots. slice_get slots 0) (sym c.deref.ensures.value) ∙ sym c.in-None.ensures.value) c.args.looks)

pub returns-in-Ending-clause-turn : goal.returns-in-Ending-clause-turn
returns-in-Ending-clause-turn c = shown _ _ c.args.looks _ _ c.self.view_is c.ending.ensures
    (ending-turn (view_of c.self.inside) c.in-Ending.is c.args.looks)
