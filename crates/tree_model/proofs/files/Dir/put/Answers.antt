use Rattle.std.proofs.Common.{ap, ◌∙◌}
use Rattle.std.specs.Prelude.{Some, slice_set}
use Rattle.std.specs.FinMap as map
use Rattle.tree_model.specs.Dir.{files_of}
use Rattle.tree_model.proofs.Slots.{files_of-put}
use Rattle.tree_model.proofs.files.Dir.put.Goals as goal

pub returns-clause-put : goal.returns-clause-put
returns-clause-put c =
    ap (λ i. files_of (slice_set c.self.inside.slots i (Some c.args.bytes))) c.index.ensures
    ∙ files_of-put c.self.inside.slots c.self.invariant.slot_count c.args.file c.args.bytes
    ∙ ap (λ files. map.insert files c.args.file c.args.bytes) c.self.view_is
