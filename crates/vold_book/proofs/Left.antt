-- A search through the places in order.
use Rattle.std.proofs.Common.{◌≡◌, ◌<◌, ◌≤◌, zero, suc, ℕ, ◌+◌, Bool, true, false, cond, List, [], ◌∷◌, ◌++◌}
use Rattle.std.proofs.Common.{length, get_or, take, refl, sym, ap, ◌∙◌, subst, arith}
use Rattle.std.specs.Prelude.{Option, Some, IsSome, IsTrue, ◌↔◌}
use Rattle.std.specs.declared.cmp.Ordering.TheVariants.{Less, Equal, Greater}
use Rattle.std.specs.Ordering.{eq_by_cmp, ordering_reverse}
use Rattle.std.specs.Cmp.{alike_right}
use Rattle.std.specs.FinMap as map
use Rattle.std.specs.FinMap.{entries_sorted}
use Rattle.std.specs.FinMap.Entries.{find, is_sorted, below_all}
use Rattle.std.proofs.lemmas.Bool.{and_parts}
use Rattle.std.proofs.lemmas.List.{take_more, take_all}
use Rattle.sorted_map.specs.Rows.{keys}
use Rattle.tree_model.proofs.Logic.{true_from_T, is_less, is_equal}
use Rattle.tree_model.proofs.Maps.{tied}
use Rattle.tree_model.specs.declared.places.Place.{Place}
use Rattle.tree_model.specs.Order.{place_cmp, place_total, place_exact}
use Rattle.step_core.specs.Table.{NamedPlaces}
use Rattle.vold_book.specs.Sweeping.{NoneLeft, NoneBelow}

pub denied : (b : Bool) (P : Type 0) → (IsTrue b ↔ P) → b ≡ false → ¬ P
denied b P iff off p = let on : b ≡ true = iff.1 p in differ (sym on ∙ off)
  where
    differ : true ≡ false → ⊥
    differ e = cc

-- of two places each can't be the lower
not_both : (a b : Place) → place_cmp a b ≡ Less → place_cmp b a ≡ Less → ⊥
not_both a b less back =
    let h : Less ≡ ordering_reverse Less = sym less ∙ place_total.antisymm a b ∙ ap ordering_reverse back in
    let z : Less ≡ Greater = h in cc

-- none of the places is such a one
abbrev pub NoneIn : (Place → Type 0) → List Place → Type 0
NoneIn Left [] = Unit {0}
NoneIn Left (place ∷ places) = ¬ (Left place) × NoneIn Left places

module _ (Left : Place → Type 0) where
  none_in-append : (places : List Place) (place : Place) → NoneIn Left places → ¬ (Left place)
      → NoneIn Left (places ++ place ∷ [])
  none_in-append [] place none one = (one, tt)
  none_in-append (first ∷ places) place none one = (none.0, none_in-append places place none.1 one)

  pub none_in-more : (places : List Place) (i : ℕ) (default : Place) → i < length places → NoneIn Left (take i places)
      → ¬ (Left (get_or places i default)) → NoneIn Left (take (i + 1) places)
  none_in-more places i default within none one = subst (NoneIn Left) (sym (take_more places i default within))
      (none_in-append (take i places) (get_or places i default) none one)

module _ {V : Type 0} where
  -- a key that is found is none of those
  contained : (Left : Place → Type 0) (place : Place) (rows : List (Place × V)) → NoneIn Left (keys rows)
      → IsSome (find place_cmp place rows) → ¬ (Left place)
  contained Left place [] none there left = cc
  contained Left place (row ∷ rows) none there left =
      elim (eq_by_cmp place_cmp place row.0) as (λ t. eq_by_cmp place_cmp place row.0 ≡ t
      → IsSome (cond t (Some row.1) (find place_cmp place rows)) → ⊥) [
        | true ↦ λ e h. none.0 (subst Left (place_exact place row.0 (is_equal (place_cmp place row.0) e)) left)
        | false ↦ λ e h. contained Left place rows none.1 h left
      ] refl there

  -- one of the keys is found
  key-found : (rows : List (Place × V)) (i : ℕ) (default place : Place) → i < length (keys rows)
      → place ≡ get_or (keys rows) i default → IsSome (find place_cmp place rows)
  key-found [] i default place within at = absurd (omega (arith, within))
  key-found (row ∷ rows) zero default place within at =
      subst (λ t. IsSome (cond t (Some row.1) (find place_cmp place rows)))
      (sym (tied place_total place_exact place row.0 at)) refl
  key-found (row ∷ rows) (suc i) default place within at =
      either (eq_by_cmp place_cmp place row.0) (key-found rows i default place (omega (arith, within)) at)
    where
      either : (t : Bool) → IsSome (find place_cmp place rows)
          → IsSome (cond t (Some row.1) (find place_cmp place rows))
      either true there = refl
      either false there = there

  below-find : (low q : Place) (rows : List (Place × V)) → below_all place_cmp low rows ≡ true
      → IsSome (find place_cmp q rows) → place_cmp low q ≡ Less
  below-find low q [] below there = cc
  below-find low q (row ∷ rows) below there =
      elim (eq_by_cmp place_cmp q row.0) as (λ t. eq_by_cmp place_cmp q row.0 ≡ t
      → IsSome (cond t (Some row.1) (find place_cmp q rows)) → place_cmp low q ≡ Less) [
        | true ↦ λ e h. alike_right place_total q row.0 low (is_equal (place_cmp q row.0) e)
            ∙ is_less (place_cmp low row.0) (and_parts _ _ below).0
        | false ↦ λ e h. below-find low q rows (and_parts _ _ below).1 h
      ] refl there

  -- a found key that is lower than one of the keys stands before it
  none-below : (Kind : Place → Type 0) (rows : List (Place × V)) (i : ℕ) (default : Place)
      → is_sorted place_cmp rows ≡ true
      → i < length (keys rows) → NoneIn Kind (take i (keys rows)) → (other : Place)
      → IsSome (find place_cmp other rows)
      → place_cmp other (get_or (keys rows) i default) ≡ Less → ¬ (Kind other)
  none-below Kind [] i default sorted within none other there less kind = absurd (omega (arith, within))
  none-below Kind (row ∷ rows) zero default sorted within none other there less kind =
      elim (eq_by_cmp place_cmp other row.0) as (λ t. eq_by_cmp place_cmp other row.0 ≡ t
      → IsSome (cond t (Some row.1) (find place_cmp other rows)) → ⊥) [
        | true ↦ λ e h. less_equal (sym less ∙ is_equal (place_cmp other row.0) e)
        | false ↦ λ e h. not_both other row.0 less (below-find row.0 other rows (and_parts _ _ sorted).0 h)
      ] refl there
    where
      less_equal : Less ≡ Equal → ⊥
      less_equal e = cc
  none-below Kind (row ∷ rows) (suc i) default sorted within none other there less kind =
      elim (eq_by_cmp place_cmp other row.0) as (λ t. eq_by_cmp place_cmp other row.0 ≡ t
      → IsSome (cond t (Some row.1) (find place_cmp other rows)) → ⊥) [
        | true ↦ λ e h. none.0 (subst Kind (place_exact other row.0 (is_equal (place_cmp other row.0) e)) kind)
        | false ↦ λ e h. none-below Kind rows i default (and_parts _ _ sorted).1
            (omega (arith, within)) none.1 other h less kind
      ] refl there

module _ (places : NamedPlaces) (items : List Place) (is : items ≡ map.keys places) (i : ℕ) where
  abbrev entries : List (Place × Option (List ℕ))
  entries = map.entries places

  -- the search ended: none of the known places is such a one
  pub none-left : (Left : Place → Type 0) → length items ≤ i → NoneIn Left (take i items) → NoneLeft places Left
  none-left Left all none place there =
      contained Left place entries (subst (NoneIn Left) (take_all i items all ∙ is) none)
      (subst IsSome (map.get-entries places place) there)

  module _ (default : Place) (within : i < length items) where
    -- it found one
    pub found-left : IsSome (map.get places (get_or items i default))
    found-left = subst IsSome (sym (map.get-entries places (get_or items i default)))
        (key-found entries i default (get_or items i default) (subst (λ ks. i < length ks) is within)
        (ap (λ ks. get_or ks i default) is))

    -- and none lower is such a one
    pub found-below : (Kind : Place → Type 0) → NoneIn Kind (take i items)
        → NoneBelow places Kind (get_or items i default)
    found-below Kind none other there less =
        none-below Kind entries i default (true_from_T _ (entries_sorted places))
        (subst (λ ks. i < length ks) is within)
        (subst (λ ks. NoneIn Kind (take i ks)) is none) other (subst IsSome (map.get-entries places other) there)
        (subst (λ ks. place_cmp other (get_or ks i default) ≡ Less) is less)
