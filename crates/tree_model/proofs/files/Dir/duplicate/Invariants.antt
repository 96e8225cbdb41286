use Rattle.std.proofs.Common.{◌≡◌, take, length}
use Rattle.tree_model.proofs.files.Dir.duplicate.Given as goal

abbrev pub invariant-loop-i : goal.invariant-loop-i
invariant-loop-i l = record {
  slot_count : length l.slots ≡ 8;
  copied : take l.i l.slots ≡ take l.i l.self-inside.slots;
}
