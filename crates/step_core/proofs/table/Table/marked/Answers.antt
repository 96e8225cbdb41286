use Rattle.std.proofs.Common.{ap, ◌∙◌}
use Rattle.std.specs.FinSet as set
use Rattle.step_core.specs.Table.{TableState}
use Rattle.step_core.proofs.Tables.{marked-table}
use Rattle.step_core.proofs.table.Table.marked.Goals as goal

pub returns-in-Some : goal.returns-in-Some
returns-in-Some c = marked-table _ c.args.user _ c.in-Some.ensures
    ∙ ap (λ (table : TableState). set.contains table.marks c.args.user) c.self.view_is

pub returns-in-None : goal.returns-in-None
returns-in-None c = marked-table _ c.args.user _ c.in-None.ensures
    ∙ ap (λ (table : TableState). set.contains table.marks c.args.user) c.self.view_is
