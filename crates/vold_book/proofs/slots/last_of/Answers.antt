use Rattle.std.proofs.Common.{◌∙◌, sym, ap}
use Rattle.std.specs.Prelude.{unwrap_or}
use Rattle.tree_model.specs.declared.places.Slot.TheVariants.{Current}
use Rattle.vold_book.proofs.PlacedSlots.{last-is}
use Rattle.vold_book.proofs.slots.last_of.Goals as goal

pub returns : goal.returns
returns c = c.unwrap_or.ensures ∙ ap (λ found. unwrap_or found Current) (c.copied.ensures ∙ c.last.ensures.value)
    ∙ sym (last-is Current c.args.slots.now)
