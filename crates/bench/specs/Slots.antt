-- The slots of a user's credential keys, by what is known of the tree's places.
use Rattle.std.specs.Prelude.{ℕ, ◌==◌, cond, List, [], ◌∷◌, flat_map}
use Rattle.std.specs.FinMap as map
use Rattle.tree_model.specs.declared.places.Place.{Place}
use Rattle.tree_model.specs.declared.places.Place.TheVariants.{Ce}
use Rattle.tree_model.specs.declared.places.Slot.{Slot}
use Rattle.step_core.specs.Table.{NamedPlaces}

-- the slot of a place, where it is one of the user's
abbrev pub slot_of : ℕ → Place → List Slot
slot_of user (Ce owner slot) = cond (owner == user) (slot ∷ []) []
slot_of user place = []

-- all slots of a user
abbrev pub slots_known : NamedPlaces → ℕ → List Slot
slots_known places user = flat_map (slot_of user) (map.keys places)
