use Rattle.std.proofs.Common.{sym, ap, ◌∙◌}
use Rattle.std.specs.FinMap as map
use Rattle.tree_model.proofs.Slots.{in_slot-read, get-files_of}
use Rattle.tree_model.proofs.files.Dir.get.Goals as goal

pub returns : goal.returns
returns c =
    c.as_ref.ensures.value
    ∙ in_slot-read c.self.inside.slots c.self.invariant.slot_count c.args.file _ _ c.index.ensures
    ∙ sym (get-files_of c.self.inside.slots c.args.file)
    ∙ ap (λ files. map.get files c.args.file) c.self.view_is
