use Rattle.std.proofs.Common.{sym, ap, ◌∙◌}
use Rattle.std.specs.Prelude.{is_some}
use Rattle.std.specs.FinMap as map
use Rattle.step_core.specs.Table.{TableState}
use Rattle.step_core.proofs.Tables.{there-table}
use Rattle.step_core.proofs.table.Table.has.Goals as goal

pub returns : goal.returns
returns c =
    let same = sym (there-table _ c.args.place)
    ∙ ap (λ (table : TableState). is_some (map.get table.places c.args.place)) c.self.view_is in
    (λ yes. sym same ∙ c.contains_key.ensures.0 yes, λ there. c.contains_key.ensures.1 (same ∙ there))
