use Rattle.std.proofs.Common.{◌≡◌, ◌≤◌, take, length}
use Rattle.std.specs.Prelude.{filter, is_some}
use Rattle.tree_model.specs.Dir.{every, in_slot}
use Rattle.tree_model.proofs.files.list_names.Given as goal

abbrev pub invariant-loop-file : goal.invariant-loop-file
invariant-loop-file l = record {
  few : l.count ≤ l.file-index;
  order_count : length l.order ≡ 8;
  listed : take l.count l.order ≡ filter (λ file. is_some (in_slot l.slots file)) (take l.file-index every);
}
