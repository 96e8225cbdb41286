use Rattle.std.proofs.Common.{◌≡◌, ◌≤◌, length, vec_len}
use Rattle.std.specs.Prelude.{reverse}
use Rattle.tree_model.specs.Disk.{image}
use Rattle.tree_memory.proofs.folders.Folders.replay.Given as goal

abbrev pub invariant-loop-op : goal.invariant-loop-op
invariant-loop-op l = record {
  few : length l.ops.items ≤ l.self.room;
  rest : image l.self.tree (reverse l.ops.items) (reverse l.fills.items)
      ≡ image l.fn.self.tree l.fn.ops.items l.fn.fills.items;
}

abbrev pub decreases-loop-op : goal.decreases-loop-op
decreases-loop-op l = vec_len l.ops
