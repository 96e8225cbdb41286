use Rattle.std.proofs.Common.{refl, sym, lit≤}
use Rattle.tree_model.proofs.Slots.{files_of-none, keys-files_of-none}
use Rattle.tree_model.proofs.files.Dir.new.Goals as goal

pub invariant_of-result : goal.invariant_of-result
invariant_of-result c =
    record { slot_count = refl; order_count = refl; few = lit≤ tt; listed = sym keys-files_of-none }

pub returns : goal.returns
returns c = files_of-none
