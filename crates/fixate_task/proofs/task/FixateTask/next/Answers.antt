use Rattle.std.proofs.Common.{rules, sym, ap, ◌∙◌, subst}
use Rattle.std.specs.Prelude.{Some, slice_get}
use Rattle.fixate_task.specs.declared.task.Doing.TheVariants.{Drop, Settle}
use Rattle.fixate_task.specs.Turns.{FixTurns}
use Rattle.fixate_task.proofs.Fixing.{drop-turn, settle-turn}
use Rattle.fixate_task.proofs.task.FixateTask.next.Goals as goal

pub returns-in-Some-clause-turn : goal.returns-in-Some-clause-turn
returns-in-Some-clause-turn c =
    subst (λ task. FixTurns task (Some (Drop c.in-Some.slot.now))) c.self.view_is
    (drop-turn c.self.inside.kept c.in-Some.slot.now c.self.inside.others.items
    (ap (λ slots. slice_get slots 0) (sym c.deref.ensures.value) ∙ sym c.in-Some.ensures.value))

pub returns-in-None-2-clause-turn : goal.returns-in-None-2-clause-turn
returns-in-None-2-clause-turn c =
    subst (λ task. FixTurns task (Some (Settle c.self.inside.kept))) c.self.view_is
    (settle-turn c.self.inside.kept c.self.inside.others.items
    (ap (λ slots. slice_get slots 0) (sym c.deref.ensures.value) ∙ sym c.in-None-2.ensures.value)
    (λ same. search rules))
