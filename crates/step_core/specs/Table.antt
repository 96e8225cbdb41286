-- What the program knows of the tree: the places that are there, the blob that each names, and which users are marked.
use Rattle.std.specs.Prelude.{ℕ, ◌-◌, Bool, false, List, Option, Some, None, refl}
use Rattle.std.specs.FinMap as map
use Rattle.std.specs.FinSet as set
use Rattle.std.specs.Ordering.{nat_cmp}
use Rattle.std.specs.Coded.{Coded, code_by, coded×, coded_ℕ, coded_bool, coded_list, coded_option}
use Rattle.tree_model.specs.declared.places.Place.{Place}
use Rattle.tree_model.specs.declared.places.Place.TheVariants.{De, Ce, Temp}
use Rattle.tree_model.specs.Order.{place_cmp, place_code}

-- for each place that is there the blob that its directory names, if any
abbrev pub NamedPlaces : Type 0
NamedPlaces = map.FinMap place_cmp (Option (List ℕ))

abbrev pub Users : Type 0
Users = set.FinSet nat_cmp

pub record TableState : Type 0 where
  pub places : NamedPlaces
  -- the users whose `De` place is marked
  pub marks : Users
  pub dirty : Bool
  -- for how many further places there is memory
  pub room : ℕ

abbrev pub table_code : Coded TableState
table_code =
    code_by (NamedPlaces × (Users × (Bool × ℕ)))
    (coded× (map.code place_code (coded_option (coded_list coded_ℕ)))
    (coded× (set.code coded_ℕ) (coded× coded_bool coded_ℕ)))
    (λ table. (table.places, (table.marks, (table.dirty, table.room))))
    (λ parts. record { places = parts.0; marks = parts.1.0; dirty = parts.1.1.0; room = parts.1.1.1 })
    (λ _. refl)

abbrev pub empty_table : TableState
empty_table = record { places = map.empty; marks = set.empty; dirty = false; room = 0 }

-- the room that is left once a place is put of which this was known
abbrev pub room_left : Option (Option (List ℕ)) → ℕ → ℕ
room_left None room = room - 1
room_left (Some named) room = room

-- the place is there and names this
abbrev pub with_place : TableState → Place → Option (List ℕ) → TableState
with_place table place named = record table {
  places = map.insert table.places place named;
  room = room_left (map.get table.places place) table.room;
}

-- the marks once a place is gone
abbrev pub without_mark : Users → Place → Users
without_mark marks (De user) = set.remove marks user
without_mark marks (Ce user slot) = marks
without_mark marks (Temp user) = marks

-- the place is gone
abbrev pub without_place : TableState → Place → TableState
without_place table place = record table {
  places = map.remove table.places place;
  marks = without_mark table.marks place;
}

-- no place is there
abbrev pub without_places : TableState → TableState
without_places table = record table { places = map.empty; marks = set.empty }

-- the blob that a place names, of which this is known
abbrev pub named_by : Option (Option (List ℕ)) → Option (List ℕ)
named_by None = None
named_by (Some named) = named
