use Rattle.std.proofs.Common.{sym, ap, ◌∙◌}
use Rattle.std.specs.FinMap as map
use Rattle.step_core.specs.Table.{TableState}
use Rattle.step_core.proofs.Named.{keys-places_of}
use Rattle.step_core.proofs.table.Table.places.Goals as goal

pub returns : goal.returns
returns c = c.keys.ensures ∙ sym (keys-places_of _) ∙ ap (λ (table : TableState). map.keys table.places) c.self.view_is
