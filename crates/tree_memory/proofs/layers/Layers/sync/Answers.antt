use Rattle.std.proofs.Common.{ap, ◌∙◌}
use Rattle.tree_model.specs.Disk.{image, synced}
use Rattle.tree_memory.proofs.Trees.{image-none}
use Rattle.tree_memory.proofs.Layered.{layered-synced}
use Rattle.tree_memory.proofs.layers.Layers.sync.Goals as goal

pub invariant_of-self : goal.invariant_of-self
invariant_of-self c =
    layered-synced c.self.invariant c.replay.new.self c.replay.new.ops.items _ c.replay.ensures.tree
    c.new-fills.ensures.items c.replay.ensures.done

pub returns : goal.returns
returns c =
    let tree = c.replay.ensures.tree
    ∙ ap (image c.self.inside.stable.tree c.self.inside.pending.items) c.new-fills.ensures.items
    ∙ image-none c.self.inside.stable.tree c.self.inside.pending.items in
    (λ i. record { stable = tree i; pending = c.replay.ensures.done i }) ∙ ap (λ held. synced held.disk) c.self.view_is
