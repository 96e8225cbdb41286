use Rattle.std.proofs.Common.{ap, ◌∙◌}
use Rattle.std.specs.FinMap as map
use Rattle.step_core.specs.Table.{TableState, named_by}
use Rattle.step_core.proofs.Tables.{named-table}
use Rattle.step_core.proofs.table.Table.named.Goals as goal

pub returns-in-Some : goal.returns-in-Some
returns-in-Some c = named-table _ c.args.place _ c.in-Some.ensures
    ∙ ap (λ (table : TableState). named_by (map.get table.places c.args.place)) c.self.view_is

pub returns-in-None : goal.returns-in-None
returns-in-None c = named-table _ c.args.place _ c.in-None.ensures
    ∙ ap (λ (table : TableState). named_by (map.get table.places c.args.place)) c.self.view_is
