-- Which users are marked, from what is known of each place: look-ups, and what an edit of one place does.
use Rattle.std.proofs.Common.{◌≡◌, ℕ, Bool, true, false, cond, List, [], ◌∷◌, refl, sym, ap, ◌∙◌, subst, inl, inr}
use Rattle.std.specs.Prelude.{Option, Some, None, is_some, not, ◌&&◌, ◌||◌}
use Rattle.std.specs.List.{list_any}
use Rattle.std.specs.declared.cmp.Ordering.{Ordering}
use Rattle.std.specs.declared.cmp.Ordering.TheVariants.{Less, Equal, Greater}
use Rattle.std.specs.Ordering.{nat_cmp, eq_by_cmp, is_eq, ordering_then}
use Rattle.std.specs.Cmp.{nat_cmp_total}
use Rattle.std.specs.FinMap as map
use Rattle.std.specs.FinMap.{nat_cmp-IsAntisymmetric}
use Rattle.std.specs.FinSet as set
use Rattle.tree_model.specs.declared.places.Place.{Place}
use Rattle.tree_model.specs.declared.places.Place.TheVariants.{De, Ce, Temp}
use Rattle.tree_model.specs.Order.{place_cmp, place_total, place_exact}
use Rattle.tree_model.proofs.Maps.{decide_key, get-insert_same, get-insert_other, insert_present}
use Rattle.step_core.specs.declared.table.Known.{Known}
use Rattle.step_core.specs.Table.{Users, without_mark}
use Rattle.step_core.specs.Known.{KnownPlaces, places_of, marks_of, is_marked, de_users, Unmarks}
use Rattle.step_core.proofs.Named.{naming, get-places_of, places_of-insert}

then_equal : (o : Ordering) (f : Ordering → Bool) → f o ≡ f (ordering_then o Equal)
then_equal Less f = refl
then_equal Equal f = refl
then_equal Greater f = refl

any-de_users : (user : ℕ) (places : List Place)
    → list_any (eq_by_cmp nat_cmp user) (de_users places) ≡ list_any (eq_by_cmp place_cmp (De user)) places
any-de_users user [] = refl
any-de_users user (De other ∷ places) =
    λ i. then_equal (nat_cmp user other) is_eq i || any-de_users user places i
any-de_users user (Ce other slot ∷ places) = any-de_users user places
any-de_users user (Temp other ∷ places) = any-de_users user places

-- a user is marked where the user's `De` place is
pub contains-marks_of : (known : KnownPlaces) (user : ℕ)
    → set.contains (marks_of known) user ≡ is_marked (map.get known (De user))
unfolding marks_of
contains-marks_of known user =
    set.contains-retain _ (λ u. is_marked (map.get known (De u))) user
    (λ other tie. ap (λ u. is_marked (map.get known (De u))) (sym (nat_cmp-IsAntisymmetric user other tie)))
    ∙ ap (λ there. there && is_marked (map.get known (De user)))
    (set.contains-from_list nat_cmp_total (de_users (map.keys known)) user ∙ any-de_users user (map.keys known)
    ∙ sym (map.contains_key-keys known (De user)))
    ∙ only_there (map.get known (De user))
  where
    only_there : (found : Option Known) → (is_some found && is_marked found) ≡ is_marked found
    only_there None = refl
    only_there (Some of_place) = refl

-- equal users: those that are marked alike
same_marks : (known : KnownPlaces) (users : Users)
    → ((user : ℕ) → is_marked (map.get known (De user)) ≡ set.contains users user) → marks_of known ≡ users
same_marks known users alike = set.same_set nat_cmp_total nat_cmp-IsAntisymmetric _ _
    (λ user. contains-marks_of known user ∙ alike user)

-- no mark
pub marks_of-none : (known : KnownPlaces) → ((place : Place) → is_marked (map.get known place) ≡ false)
    → marks_of known ≡ set.empty
marks_of-none known none = same_marks known set.empty (λ user. none (De user) ∙ sym (set.contains-empty nat_cmp user))

-- a place that keeps its mark
pub marks_of-kept : (known : KnownPlaces) (place : Place) (of_place : Known)
    → is_marked (map.get known place) ≡ of_place.marked → marks_of (map.insert known place of_place) ≡ marks_of known
marks_of-kept known place of_place kept = same_marks _ _ (λ user.
    elim (decide_key place_total place_exact (De user) place) [
      | inl same ↦ ap is_marked (subst (λ p. map.get (map.insert known place of_place) p ≡ Some of_place) (sym same)
          (get-insert_same place_total place_exact known place of_place))
          ∙ sym kept ∙ ap (λ p. is_marked (map.get known p)) (sym same) ∙ sym (contains-marks_of known user)
      | inr differ ↦ ap is_marked (get-insert_other place_total place_exact known place of_place (De user) differ)
          ∙ sym (contains-marks_of known user)
    ])

-- whether two `De` places tie is whether their users do
same_users : (user other : ℕ) → eq_by_cmp nat_cmp user other ≡ eq_by_cmp place_cmp (De user) (De other)
same_users user other = then_equal (nat_cmp user other) is_eq

marked-or : (tie : Bool) (of_place : Known) (found : Option Known) → of_place.marked ≡ true
    → is_marked (cond tie (Some of_place) found) ≡ (tie || is_marked found)
marked-or true of_place found marked = marked
marked-or false of_place found marked = refl

marked-not : (tie : Bool) (found : Option Known) → is_marked (cond tie None found) ≡ (not tie && is_marked found)
marked-not true found = refl
marked-not false found = refl

-- a user that gets a mark
pub marks_of-marked : (known : KnownPlaces) (user : ℕ) (of_place : Known) → of_place.marked ≡ true
    → marks_of (map.insert known (De user) of_place) ≡ set.insert (marks_of known) user
marks_of-marked known user of_place marked = same_marks _ _ (λ other.
    ap is_marked (map.get-insert place_total known (De user) of_place (De other))
    ∙ marked-or (eq_by_cmp place_cmp (De other) (De user)) of_place (map.get known (De other)) marked
    ∙ (λ i. sym (same_users other user) i || sym (contains-marks_of known other) i)
    ∙ sym (set.contains-insert nat_cmp_total (marks_of known) user other))

-- a place that is gone
pub marks_of-remove : (known : KnownPlaces) (place : Place)
    → marks_of (map.remove known place) ≡ without_mark (marks_of known) place
marks_of-remove known (De user) = same_marks _ _ (λ other.
    ap is_marked (map.get-remove place_total known (De user) (De other))
    ∙ marked-not (eq_by_cmp place_cmp (De other) (De user)) (map.get known (De other))
    ∙ (λ i. not (sym (same_users other user) i) && sym (contains-marks_of known other) i)
    ∙ sym (set.contains-remove nat_cmp_total (marks_of known) user other))
marks_of-remove known (Ce user slot) = same_marks _ _ (λ other.
    ap is_marked (map.get-remove place_total known (Ce user slot) (De other)) ∙ sym (contains-marks_of known other))
marks_of-remove known (Temp user) = same_marks _ _ (λ other.
    ap is_marked (map.get-remove place_total known (Temp user) (De other)) ∙ sym (contains-marks_of known other))

-- a place whose mark is taken
pub unmarks-insert : (known after : KnownPlaces) (place : Place) (before of_place : Known)
    → map.get known place ≡ Some before → of_place.named ≡ before.named → of_place.marked ≡ false
    → after ≡ map.insert known place of_place → Unmarks known after place
unmarks-insert known after place before of_place there named unmarked is = record {
  named = ap places_of is ∙ places_of-insert known place of_place
      ∙ insert_present place_total place_exact (places_of known) place of_place.named
      (get-places_of known place ∙ ap naming there ∙ ap Some (sym named));
  gone = ap (λ k. is_marked (map.get k place)) is
      ∙ ap is_marked (get-insert_same place_total place_exact known place of_place) ∙ unmarked;
  others = λ other none. ap (λ k. is_marked (map.get k other)) is
      ∙ ap is_marked (map.get-insert place_total known place of_place other)
      ∙ neither (eq_by_cmp place_cmp other place) of_place (map.get known other) unmarked none;
}
  where
    neither : (tie : Bool) (k : Known) (found : Option Known) → k.marked ≡ false → is_marked found ≡ false
        → is_marked (cond tie (Some k) found) ≡ false
    neither true k found off none = off
    neither false k found off none = none
