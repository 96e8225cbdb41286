use Rattle.std.proofs.Common.{◌≡◌}
use Rattle.sorted_map.specs.Maps.{held}
use Rattle.tree_model.specs.Order.{place_cmp}
use Rattle.step_core.proofs.Unmarked.{Unmarking}
use Rattle.step_core.proofs.table.Table.unmark_all.Given as goal

abbrev pub invariant-loop-i : goal.invariant-loop-i
invariant-loop-i l = record {
  unmarking : Unmarking (held place_cmp l.initial.self-inside.rows) (held place_cmp l.self-inside.rows) l.i;
  room_of_rows : l.self-inside.rows.room ≡ l.initial.self-inside.rows.room;
  room : l.self-inside.room ≡ l.initial.self-inside.room;
  dirty : l.self-inside.dirty ≡ l.initial.self-inside.dirty;
}
