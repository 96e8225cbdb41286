use Rattle.std.proofs.Common.{ap, ◌∙◌}
use Rattle.std.specs.Prelude.{None}
use Rattle.tree_model.specs.declared.sites.LocalOp.TheVariants.{RemoveDir}
use Rattle.tree_model.specs.Tree.{user_of}
use Rattle.task_turns.specs.declared.calls.Call.TheVariants.{Op as OpCall}
use Rattle.task_turns.specs.declared.next.Next.TheVariants.{Call as CallNext}
use Rattle.vold_book.proofs.RecoveryPlans.{remove-turn, swept-turn, read-turn, entries-turn, at_stage}
use Rattle.vold_book.proofs.recovery.Recovery.next.Goals as goal

pub returns-in-Some : goal.returns-in-Some
returns-in-Some c =
    at_stage c.args.table.now.places c.args.dirty c.args.self _ _ c.call-in-Some.result c.in-Sweeping.is
    (c.call-in-Some.ensures
    ∙ ap (λ user. CallNext (OpCall user (RemoveDir c.of.result) None) None) c.user_of.ensures
    ∙ ap (λ site. CallNext (OpCall (user_of c.in-Some.place) (RemoveDir site) None) None) c.of.ensures)
    (remove-turn c.args.table.now.places c.args.dirty c.in-Some.place c.in-Some.ensures)

pub returns-in-None : goal.returns-in-None
returns-in-None c =
    at_stage c.args.table.now.places c.args.dirty c.args.self _ _ c.read.result c.in-Sweeping.is c.read.ensures
    (swept-turn c.args.table.now.places c.args.dirty c.in-None.ensures)

pub returns-in-Reading : goal.returns-in-Reading
returns-in-Reading c =
    at_stage c.args.table.now.places c.args.dirty c.args.self _ _ c.read-in-Reading.result c.in-Reading.is
    c.read-in-Reading.ensures (read-turn c.args.table.now.places c.args.dirty c.in-Reading.count)

pub returns-in-Settled : goal.returns-in-Settled
returns-in-Settled c =
    at_stage c.args.table.now.places c.args.dirty c.args.self _ _ c.call-in-Settled.result c.in-Settled.is
    c.call-in-Settled.ensures (entries-turn c.args.table.now.places c.args.dirty)
