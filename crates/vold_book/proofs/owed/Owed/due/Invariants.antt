-- Nothing is due of the items before this one.
use Rattle.std.proofs.Common.{◌≡◌, drop}
use Rattle.vold_book.specs.Owed.{due_of, due_among}
use Rattle.vold_book.proofs.owed.Owed.due.Given as goal

abbrev pub invariant-loop-item : goal.invariant-loop-item
invariant-loop-item l =
    due_of l.list l.self ≡ due_among l.list l.self.from (drop l.item-index l.self.items)
