use Rattle.std.proofs.Common.{◌<◌, sym, ap, ◌∙◌, subst}
use Rattle.tree_model.specs.Tree.{after_op}
use Rattle.tree_memory.proofs.Layered.{layered-more}
use Rattle.tree_memory.proofs.layers.Layers.record.Goals as goal

pub invariant_of-self : goal.invariant_of-self
invariant_of-self c =
    layered-more c.self.invariant c.unwrap-view.result c.apply.new.self c.args.later c.push.new.self.items _
    (sym c.take.ensures.value ∙ c.unwrap-view.ensures)
    (subst (λ held. 0 < held.room) (sym c.self.view_is) c.requires.room)
    (c.apply.ensures.tree ∙ ap (after_op c.unwrap-view.result.tree) (sym c.requires.same))
    (rw c.unwrap.ensures at c.push.ensures.items)
