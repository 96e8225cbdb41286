use Rattle.std.proofs.Common.{false}
use Rattle.step_core.proofs.Tables.{table-empty}
use Rattle.step_core.proofs.table.Table.new.Goals as goal

pub returns : goal.returns
returns c = table-empty false 0 _ c.new.ensures
