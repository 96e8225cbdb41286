use Rattle.std.proofs.Common.{◌∙◌, sym, ap}
use Rattle.vold_book.specs.Slots.{slot_numbered, slot_next}
use Rattle.vold_book.proofs.slots.slot_next.Goals as goal

pub returns-in-Protect : goal.returns-in-Protect
returns-in-Protect c = c.slot_numbered.ensures ∙ ap slot_numbered c.numbering.ensures.next
    ∙ sym (ap (slot_next c.args.table.now.places) c.in-Protect.is)
