use Rattle.std.proofs.Common.{ap, ◌∙◌}
use Rattle.step_core.specs.Table.{without_places}
use Rattle.step_core.proofs.Tables.{table-empty}
use Rattle.step_core.proofs.table.Table.clear.Goals as goal

pub returns : goal.returns
returns c = table-empty c.self.inside.dirty c.self.inside.room _ c.clear.ensures.held
    ∙ ap without_places c.self.view_is
