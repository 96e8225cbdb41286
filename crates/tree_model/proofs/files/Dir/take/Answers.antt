use Rattle.std.proofs.Common.{sym, ap, ◌∙◌}
use Rattle.std.specs.Prelude.{slice_set}
use Rattle.std.specs.FinMap as map
use Rattle.tree_model.specs.Dir.{files_of}
use Rattle.tree_model.proofs.Slots.{files_of-take, in_slot-read, get-files_of}
use Rattle.tree_model.proofs.files.Dir.take.Goals as goal

pub returns-clause-taken : goal.returns-clause-taken
returns-clause-taken c =
    c.take-bytes.ensures.value
    ∙ in_slot-read c.self.inside.slots c.self.invariant.slot_count c.args.file _ _ c.index.ensures
    ∙ sym (get-files_of c.self.inside.slots c.args.file)
    ∙ ap (λ files. map.get files c.args.file) c.self.view_is

pub returns-clause-rest : goal.returns-clause-rest
returns-clause-rest c =
    ap (λ held. files_of (slice_set c.self.inside.slots c.index.result held)) c.take-bytes.ensures.after
    ∙ ap (λ i. files_of (slice_set c.self.inside.slots i _)) c.index.ensures
    ∙ files_of-take c.self.inside.slots c.self.invariant.slot_count c.args.file
    ∙ ap (λ files. map.remove files c.args.file) c.self.view_is
