-- How a table is kept: what is known of each place, and from that what its places name and which users are marked.
use Rattle.std.specs.Prelude.{◌≡◌, ℕ, Bool, false, List, [], ◌∷◌, map as map_list, Option, Some, None}
use Rattle.std.specs.FinMap as map
use Rattle.std.specs.FinSet as set
use Rattle.tree_model.specs.declared.places.Place.{Place}
use Rattle.tree_model.specs.declared.places.Place.TheVariants.{De, Ce, Temp}
use Rattle.tree_model.specs.Order.{place_cmp}
use Rattle.step_core.specs.declared.table.Known.{Known}
use Rattle.step_core.specs.Table.{NamedPlaces, Users}

abbrev pub KnownPlaces : Type 0
KnownPlaces = map.FinMap place_cmp Known

-- what each place names
unfoldable pub places_of : KnownPlaces → NamedPlaces
places_of known = map.from_sorted (map_list (λ row. (row.0, row.1.named)) (map.entries known))

abbrev pub is_marked : Option Known → Bool
is_marked None = false
is_marked (Some known) = known.marked

-- the users of the `De` places
abbrev pub de_users : List Place → List ℕ
de_users [] = []
de_users (De user ∷ places) = user ∷ de_users places
de_users (Ce user slot ∷ places) = de_users places
de_users (Temp user ∷ places) = de_users places

-- the users whose `De` place is marked
unfoldable pub marks_of : KnownPlaces → Users
marks_of known = set.retain (set.from_list (de_users (map.keys known))) (λ user. is_marked (map.get known (De user)))

-- one place has lost its mark, and no place got one
pub record Unmarks (before after : KnownPlaces) (place : Place) : Type 0 where
  pub named : places_of after ≡ places_of before
  pub gone : is_marked (map.get after place) ≡ false
  pub others : (other : Place) → is_marked (map.get before other) ≡ false → is_marked (map.get after other) ≡ false
