use Rattle.std.proofs.Common.{ap, ◌∙◌}
use Rattle.std.specs.List.{slice_get}
use Rattle.std.specs.Option.{unwrap_or}
use Rattle.tree_model.specs.declared.places.Slot.TheVariants.{Current}
use Rattle.open_task.specs.Task.{Opening, slot_at_hand}
use Rattle.open_task.proofs.Slots.{slot-left}
use Rattle.open_task.proofs.task.OpenTask.slot.Goals as goal

pub returns : goal.returns
returns c =
    c.unwrap_or.ensures ∙ ap (λ found. unwrap_or found Current) c.slot_at.ensures
    ∙ ap (λ slots. unwrap_or (slice_get slots c.self.inside.at) Current) c.as_slice.ensures.value
    ∙ slot-left c.self.inside.slots.items c.self.inside.at
    ∙ ap (λ (task : Opening). slot_at_hand task.left) c.self.view_is
