use Rattle.std.proofs.Common.{ap, ◌∙◌, rules}
use Rattle.std.specs.FinSet as set
use Rattle.sorted_map.specs.Maps.{held}
use Rattle.tree_model.specs.Order.{place_cmp}
use Rattle.step_core.specs.Table.{TableState}
use Rattle.step_core.proofs.Unmarked.{there-listed, unmarking-within, unmarking-next, unmarking-goes, unmarking-ends}
use Rattle.step_core.proofs.Tables.{table_of, table-unmarked}
use Rattle.step_core.proofs.table.Table.unmark_all.Goals as goal

pub offset_bounds-keys-i : goal.offset_bounds-keys-i
offset_bounds-keys-i c =
    let within = unmarking-within c.loop-i.invariant.unmarking c.len-i-end.ensures c.loop-i-test.true c.keys.ensures in
    search rules

pub bounds-keys-i : goal.bounds-keys-i
bounds-keys-i c = unmarking-within c.loop-i.invariant.unmarking c.len-i-end.ensures c.loop-i-test.true c.keys.ensures

pub unmark-requires : goal.unmark-requires
unmark-requires c =
    let next = unmarking-next c.loop-i.invariant.unmarking c.len-i-end.ensures c.loop-i-test.true c.keys.ensures _ in
    record { there = there-listed _ c.loop-i.i _ next }

pub loop-i-preserved : goal.loop-i-preserved
loop-i-preserved c =
    let so_far = c.loop-i.invariant in
    let next = unmarking-next so_far.unmarking c.len-i-end.ensures c.loop-i-test.true c.keys.ensures _ in
    record {
      unmarking = unmarking-goes so_far.unmarking next c.unmark.ensures.unmarked;
      room_of_rows = c.unmark.ensures.room ∙ so_far.room_of_rows;
      room = so_far.room;
      dirty = so_far.dirty;
    }

pub returns : goal.returns
returns c =
    let all = c.loop-i.invariant in
    (λ i. table_of (held place_cmp c.loop-i.self-inside.rows) (all.dirty i) (all.room i))
    ∙ table-unmarked c.self.inside.dirty c.self.inside.room (held place_cmp c.self.inside.rows) _ all.unmarking.named
    (unmarking-ends all.unmarking c.len-i-end.ensures c.loop-i-test.false)
    ∙ ap (λ (table : TableState). record table { marks = set.empty }) c.self.view_is
