use Rattle.std.proofs.Common.{ap, ◌∙◌, arith}
use Rattle.std.specs.Prelude.{List, ℕ, max}
use Rattle.tree_model.specs.declared.places.Slot.{Slot}
use Rattle.journal_model.specs.Users.{after_slot}
use Rattle.journal_model.proofs.Slots.{next_number-more}
use Rattle.journal_model.proofs.user_map.is_full.Goals as goal

pub loop-row-preserved : goal.loop-row-preserved
loop-row-preserved c =
    next_number-more c.in-Some-slots.slots.now c.loop-row.row-index c.row-item.result c.loop-row.next _ (omega arith)
    (c.next_after-next.ensures
    ∙ ap (λ (row : Slot × List ℕ). max (after_slot row.0) c.loop-row.next) c.row-item.is)
    c.loop-row.invariant
