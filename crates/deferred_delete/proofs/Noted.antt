-- A sync leaves the numbers and the room of a list as they were.
use Rattle.std.proofs.Common.{◌≡◌, ℕ, ◌+◌, ◌≤◌, List, ◌++◌, take, drop, length, sym, subst, ◌∙◌}
use Rattle.std.proofs.lemmas.List.{length-map, take_all, drop_all, append-nil}
use Rattle.deferred_delete.specs.declared.items.Item.{Item}
use Rattle.deferred_delete.specs.Deferral.{IsKept, noted, now_synced}
use Rattle.deferred_delete.proofs.Numbered.{numbered-noted}

-- a loop that went through all items noted each
pub noted-all : (items : List Item) (i : ℕ) → length items ≤ i → noted (take i items) ++ drop i items ≡ noted items
noted-all items i all =
    (λ j. noted (take_all i items all j) ++ drop_all i items all j) ∙ append-nil (noted items)

pub kept-noted : {items : List Item} {next promised capacity : ℕ} → IsKept items next promised capacity
    → IsKept (noted items) next promised capacity
kept-noted {items} {next} {promised} {capacity} kept = record {
  numbered = numbered-noted (record { items = items; next = next; promised = promised }) kept.numbered;
  room = subst (λ count. count + promised ≤ capacity) (sym (length-map items now_synced)) kept.room;
}
