-- A table as clauses see it, from what is known of each place: what an edit of the one does to the other.
use Rattle.std.proofs.Common.{◌≡◌, ℕ, ◌-◌, Bool, true, false, refl, sym, ap, ◌∙◌, subst, inl, inr}
use Rattle.std.specs.Prelude.{Option, Some, None, is_some, IsSome, ◌<◌, ◌⊎◌}
use Rattle.std.proofs.lemmas.Bool.{false≢true}
use Rattle.std.specs.FinMap as map
use Rattle.std.specs.FinSet as set
use Rattle.tree_model.specs.declared.places.Place.{Place}
use Rattle.tree_model.specs.declared.places.Place.TheVariants.{De}
use Rattle.tree_model.specs.Order.{place_cmp, place_total, place_exact}
use Rattle.tree_model.proofs.Maps.{insert_present}
use Rattle.step_core.specs.declared.table.Known.{Known}
use Rattle.step_core.specs.Table.{TableState, with_place, without_place, room_left, named_by}
use Rattle.step_core.specs.Known.{KnownPlaces, places_of, marks_of, is_marked}
use Rattle.step_core.proofs.Named.{naming, get-places_of, places_of-empty, places_of-insert, places_of-remove}
use Rattle.step_core.proofs.Marks.{contains-marks_of, marks_of-none, marks_of-kept, marks_of-marked, marks_of-remove}

-- a table of these places
abbrev pub table_of : KnownPlaces → Bool → ℕ → TableState
table_of known dirty room = record { places = places_of known; marks = marks_of known; dirty = dirty; room = room }

marks_of-empty : marks_of map.empty ≡ set.empty
marks_of-empty = marks_of-none map.empty (λ place. ap is_marked (map.get-empty place_cmp place))

pub table-empty : (dirty : Bool) (room : ℕ) (known : KnownPlaces) → known ≡ map.empty
    → table_of known dirty room ≡ record { places = map.empty; marks = set.empty; dirty = dirty; room = room }
table-empty dirty room known none = ap (λ k. table_of k dirty room) none
    ∙ (λ i. record { places = places_of-empty i; marks = marks_of-empty i; dirty = dirty; room = room })

module _ (dirty : Bool) (room : ℕ) (known after : KnownPlaces) where
  pub table-removed : (place : Place) → after ≡ map.remove known place
      → table_of after dirty room ≡ without_place (table_of known dirty room) place
  table-removed place is = ap (λ k. table_of k dirty room) is
      ∙ (λ i. record {
        places = places_of-remove known place i;
        marks = marks_of-remove known place i;
        dirty = dirty;
        room = room;
      })

  module _ (place : Place) (found of_place : Known) (there : map.get known place ≡ Some found)
      (is : after ≡ map.insert known place of_place) where
    -- a place that is put where it was
    pub table-replaced : found.marked ≡ of_place.marked
        → table_of after dirty room ≡ with_place (table_of known dirty room) place of_place.named
    table-replaced kept = ap (λ k. table_of k dirty room) is
        ∙ (λ i. record {
          places = places_of-insert known place of_place i;
          marks = marks_of-kept known place of_place (ap is_marked there ∙ kept) i;
          dirty = dirty;
          room = room_left (sym (get-places_of known place ∙ ap naming there) i) room;
        })

  -- a place that is put where it wasn't
  pub table-inserted : (place : Place) (of_place : Known) → map.get known place ≡ None
      → after ≡ map.insert known place of_place → of_place.marked ≡ false
      → table_of after dirty (room - 1) ≡ with_place (table_of known dirty room) place of_place.named
  table-inserted place of_place none is unmarked = ap (λ k. table_of k dirty (room - 1)) is
      ∙ (λ i. record {
        places = places_of-insert known place of_place i;
        marks = marks_of-kept known place of_place (ap is_marked none ∙ sym unmarked) i;
        dirty = dirty;
        room = room_left (sym (get-places_of known place ∙ ap naming none) i) room;
      })

  -- a user that gets a mark
  pub table-marked : (user : ℕ) (found of_place : Known) → map.get known (De user) ≡ Some found
      → found.named ≡ of_place.named → of_place.marked ≡ true → after ≡ map.insert known (De user) of_place
      → table_of after dirty room
      ≡ record (table_of known dirty room) { marks = set.insert (marks_of known) user }
  table-marked user found of_place there same marked is = ap (λ k. table_of k dirty room) is
      ∙ (λ i. record {
        places = (places_of-insert known (De user) of_place
            ∙ insert_present place_total place_exact (places_of known) (De user) of_place.named
            (get-places_of known (De user) ∙ ap naming there ∙ ap Some same)) i;
        marks = marks_of-marked known user of_place marked i;
        dirty = dirty;
        room = room;
      })

  -- marks that are gone
  pub table-unmarked : places_of after ≡ places_of known → ((place : Place) → is_marked (map.get after place) ≡ false)
      → table_of after dirty room ≡ record (table_of known dirty room) { marks = set.empty }
  table-unmarked same none = λ i. record {
    places = same i;
    marks = marks_of-none after none i;
    dirty = dirty;
    room = room;
  }

-- what a look-up of a place tells of the table
module _ (known : KnownPlaces) (place : Place) where
  pub there-table : is_some (map.get (places_of known) place) ≡ is_some (map.get known place)
  there-table = ap is_some (get-places_of known place) ∙ same (map.get known place)
    where
      same : (found : Option Known) → is_some (naming found) ≡ is_some found
      same None = refl
      same (Some of_place) = refl

  pub named-table : (found : Option Known) → found ≡ map.get known place
      → named_by (naming found) ≡ named_by (map.get (places_of known) place)
  named-table found is = ap (λ f. named_by (naming f)) is ∙ ap named_by (sym (get-places_of known place))

  -- a place that isn't there is put only where there is room
  pub room-table : (dirty : Bool) (room : ℕ) (table : TableState) → table_of known dirty room ≡ table
      → map.get known place ≡ None → IsSome (map.get table.places place) ⊎ (0 < table.room) → 0 < room
  room-table dirty room table is none (inl there) =
      absurd (false≢true (sym (ap is_some none) ∙ sym there-table
      ∙ ap (λ (t : TableState). is_some (map.get t.places place)) is ∙ there))
  room-table dirty room table is none (inr free) = subst (λ (t : TableState). 0 < t.room) (sym is) free

pub marked-table : (known : KnownPlaces) (user : ℕ) (found : Option Known) → found ≡ map.get known (De user)
    → is_marked found ≡ set.contains (marks_of known) user
marked-table known user found is = ap is_marked is ∙ sym (contains-marks_of known user)
