-- A loop over a table in which each place is unmarked in turn.
use Rattle.std.proofs.Common.{◌≡◌, ℕ, zero, suc, ◌+◌, ◌<◌, ◌≤◌, true, false, List, [], ◌∷◌, length, get_or}
use Rattle.std.proofs.Common.{refl, sym, ap, ◌∙◌, subst, inl, inr, arith}
use Rattle.std.specs.Prelude.{Some, None, is_some, unwrap_or, ◌||◌, slice_get}
use Rattle.std.specs.List.{list_any}
use Rattle.std.specs.Ordering.{eq_by_cmp}
use Rattle.std.specs.FinMap as map
use Rattle.std.proofs.lemmas.Bool.{false≢true, cases_order}
use Rattle.std.proofs.lemmas.List.{length-map}
use Rattle.std.proofs.lemmas.Option.{slice_get-get_or}
use Rattle.tree_model.specs.declared.places.Place.{Place}
use Rattle.tree_model.specs.Order.{place_cmp, place_total, place_exact}
use Rattle.tree_model.proofs.Maps.{decide_key, tied, apart}
use Rattle.step_core.specs.Known.{KnownPlaces, places_of, is_marked, Unmarks}
use Rattle.step_core.proofs.Named.{keys-places_of}

some : {X : Type 0} (x : X) → None ≡ Some x → ⊥
some x is = false≢true (ap is_some is)

same_value : {X : Type 0} (x y : X) → Some x ≡ Some y → x ≡ y
same_value x y is = ap (λ found. unwrap_or found x) is

or-true : (b : _) → (b || true) ≡ true
or-true true = refl
or-true false = refl

-- a listed place is found in the list
any-listed : (places : List Place) (i : ℕ) (place : Place) → slice_get places i ≡ Some place
    → list_any (eq_by_cmp place_cmp place) places ≡ true
any-listed [] i place is = absurd (some place is)
any-listed (first ∷ places) zero place is =
    ap (λ b. b || list_any (eq_by_cmp place_cmp place) places)
    (tied place_total place_exact place first (sym (same_value first place is)))
any-listed (first ∷ places) (suc i) place is =
    ap (λ b. eq_by_cmp place_cmp place first || b) (any-listed places i place is)
    ∙ or-true (eq_by_cmp place_cmp place first)

-- and what is found is listed
listed-any : (places : List Place) (place : Place) → list_any (eq_by_cmp place_cmp place) places ≡ true
    → (i : ℕ) × ((i < length places) × (slice_get places i ≡ Some place))
listed-any [] place is = absurd (false≢true is)
listed-any (first ∷ places) place is = elim (decide_key place_total place_exact place first) [
  | inl same ↦ (0, (omega arith, ap Some (sym same)))
  | inr differ ↦
      let rest = listed-any places place (sym (ap (λ b. b || list_any (eq_by_cmp place_cmp place) places)
      (apart place_total place_exact place first differ)) ∙ is) in
      (suc rest.0, (omega (arith, rest.1.0), rest.1.1))
]

length-keys : (known : KnownPlaces) → length (map.keys known) ≡ map.len known
length-keys known = length-map (map.entries known) _ ∙ sym (map.len-entries known)

-- a listed key is there
pub there-listed : (known : KnownPlaces) (i : ℕ) (place : Place) → slice_get (map.keys known) i ≡ Some place
    → is_some (map.get known place) ≡ true
there-listed known i place is = map.contains_key-keys known place ∙ any-listed (map.keys known) i place is

-- the first i places are unmarked
pub record Unmarking (before now : KnownPlaces) (i : ℕ) : Type 0 where
  pub named : places_of now ≡ places_of before
  pub unmarked : (k : ℕ) (place : Place) → k < i → slice_get (map.keys before) k ≡ Some place
      → is_marked (map.get now place) ≡ false

same_keys : (before now : KnownPlaces) → places_of now ≡ places_of before → map.keys now ≡ map.keys before
same_keys before now same = sym (keys-places_of now) ∙ ap map.keys same ∙ keys-places_of before

pub unmarking-starts : (known : KnownPlaces) → Unmarking known known 0
unmarking-starts known = record { named = refl; unmarked = λ k place low. absurd (omega (arith, low)) }

pub unmarking-goes : {before now after : KnownPlaces} {i : ℕ} {place : Place} → Unmarking before now i
    → slice_get (map.keys now) i ≡ Some place → Unmarks now after place → Unmarking before after (i + 1)
unmarking-goes {before} {now} {after} {i} {place} so_far is unmarks = record {
  named = unmarks.named ∙ so_far.named;
  unmarked = λ k other low listed. elim (cases_order k i) [
    | inl same ↦ subst (λ p. is_marked (map.get after p) ≡ false)
        (same_value place other (sym is ∙ ap (λ places. slice_get places i) (same_keys before now so_far.named)
        ∙ ap (slice_get (map.keys before)) (sym same) ∙ listed)) unmarks.gone
    | inr (inl earlier) ↦ unmarks.others other (so_far.unmarked k other earlier listed)
    | inr (inr later) ↦ absurd (omega (arith, low, later))
  ];
}

-- in the end all are
pub unmarking-ends : {before now : KnownPlaces} {i n : ℕ} → Unmarking before now i → n ≡ map.len before → n ≤ i
    → (place : Place) → is_marked (map.get now place) ≡ false
unmarking-ends {before} {now} {i} so_far count all place = elim (map.get now place)
    as (λ found. map.get now place ≡ found → is_marked found ≡ false) [
      | None ↦ λ none. refl
      | Some of_place ↦ λ there.
          let at = listed-any (map.keys before) place
          (ap (list_any (eq_by_cmp place_cmp place)) (sym (same_keys before now so_far.named))
          ∙ sym (map.contains_key-keys now place) ∙ ap is_some there) in
          sym (ap is_marked there)
          ∙ so_far.unmarked at.0 place (omega (arith, at.1.0, all, count, length-keys before)) at.1.1
    ] refl

-- until then the next place is listed
module _ {before now : KnownPlaces} {i n : ℕ} (so_far : Unmarking before now i) (count : n ≡ map.len before)
    (low : i < n) {places : List Place} (are : places ≡ map.keys now) where
  pub unmarking-within : i < length places
  unmarking-within = omega (arith, low, count, length-keys before, ap length (are ∙ same_keys before now so_far.named))

  pub unmarking-next : (other : Place) → slice_get (map.keys now) i ≡ Some (get_or places i other)
  unmarking-next other = ap (λ list. slice_get list i) (sym are) ∙ slice_get-get_or places i other unmarking-within
