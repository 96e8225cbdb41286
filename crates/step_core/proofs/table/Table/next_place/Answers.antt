use Rattle.std.proofs.Common.{◌≡◌, sym, ap, ◌∙◌}
use Rattle.std.specs.Prelude.{Option, Some, None, is_some}
use Rattle.std.specs.FinMap as map
use Rattle.tree_model.specs.declared.places.Place.{Place}
use Rattle.sorted_map.specs.Maps.{IsNextKey}
use Rattle.step_core.specs.Known.{KnownPlaces}
use Rattle.step_core.specs.Table.{TableState, NamedPlaces}
use Rattle.step_core.proofs.Tables.{there-table}
use Rattle.step_core.proofs.table.Table.next_place.Goals as goal

-- the next key of a map is that of each map with the same keys
same-next : (known : KnownPlaces) (places : NamedPlaces)
    → ((place : Place) → is_some (map.get known place) ≡ is_some (map.get places place)) → (after next : Option Place)
    → IsNextKey known after next → IsNextKey places after next
same-next known places same after None none = λ key there above. none key (same key ∙ there) above
same-next known places same after (Some next) is =
    (sym (same next) ∙ is.0, is.1, λ key there above. is.2 key (same key ∙ there) above)

pub returns : goal.returns
returns c = same-next _ c.args.self.now.places
    (λ place. sym (there-table _ place)
    ∙ ap (λ (table : TableState). is_some (map.get table.places place)) c.self.view_is)
    (Some c.args.after) c.next_key.result c.next_key.ensures
