use Rattle.std.proofs.Common.{ap, ◌∙◌}
use Rattle.step_core.specs.Table.{without_place}
use Rattle.step_core.proofs.Tables.{table-removed}
use Rattle.step_core.proofs.table.Table.forget.Goals as goal

pub returns : goal.returns
returns c = table-removed c.self.inside.dirty c.self.inside.room _ _ c.args.place c.remove.ensures.held
    ∙ ap (λ table. without_place table c.args.place) c.self.view_is
