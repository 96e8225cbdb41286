-- Finite maps: two insertions of one key, a key that was put in, the columns of a map, and the entries of the empty
-- one.
use Rattle.std.proofs.Common.{◌≡◌, List, [], ◌∷◌, length, arith, refl, sym, ap, ◌∙◌, subst}
use Rattle.std.specs.Prelude.{IsSome, is_some}
use Rattle.std.specs.declared.cmp.Ordering.{Ordering}
use Rattle.std.specs.Cmp.{IsTotalOrder}
use Rattle.std.specs.FinMap as map
use Rattle.std.specs.FinMap.{IsAntisymmetric, from_sorted, same_entries_map, entries_sorted}
use Rattle.std.specs.List.{zip}
use Rattle.std.proofs.lemmas.List.{length-map}
use Rattle.tree_model.proofs.Logic.{true_from_T}
use Rattle.tree_model.proofs.Maps.{same_at, get-insert_same, get-insert_other}
use Rattle.sorted_map.specs.Rows.{keys, values, IsAligned, IsSorted}

zip-columns : {K X : Type 0} (rows : List (K × X)) → zip (keys rows) (values rows) ≡ rows
zip-columns [] = refl
zip-columns (row ∷ rows) = ap (λ others. row ∷ others) (zip-columns rows)

no_rows : {X : Type 0} (rows : List X) → length rows ≡ 0 → rows ≡ []
no_rows [] is = refl
no_rows (row ∷ rows) is = absurd (omega arith)

-- the empty map has no entry
pub entries-empty : {K X : Type 0} (R : K → K → Ordering) → map.entries (map.empty {X = X} {R = R}) ≡ []
entries-empty {X = X} R = no_rows _ (sym (map.len-entries _) ∙ map.len-empty R X)

module _ {K X : Type 0} {R : K → K → Ordering} where
  module _ (total : IsTotalOrder R) (exact : IsAntisymmetric R) where
    -- of two insertions of a key the later one stays
    pub insert-insert : (m : map.FinMap R X) (k : K) (v w : X) → map.insert (map.insert m k v) k w ≡ map.insert m k w
    insert-insert m k v w = same_at total exact k _ _
        (get-insert_same total exact (map.insert m k v) k w ∙ sym (get-insert_same total exact m k w))
        (λ q differ. get-insert_other total exact (map.insert m k v) k w q differ
        ∙ get-insert_other total exact m k v q differ ∙ sym (get-insert_other total exact m k w q differ))

    -- a key that was put in is there
    pub there-insert : (m m' : map.FinMap R X) (k : K) (v : X) → m' ≡ map.insert m k v → IsSome (map.get m' k)
    there-insert m m' k v is =
        ap (λ edited. is_some (map.get edited k)) is ∙ ap is_some (get-insert_same total exact m k v)

  -- the keys and the values of a map are the columns of that map
  pub aligned-columns : (m : map.FinMap R X) → IsAligned R (map.keys m) (map.values m)
  aligned-columns m =
      let rows = map.entries m in
      record {
        lengths = length-map rows _ ∙ sym (length-map rows _);
        sorted = subst (IsSorted R) (sym (zip-columns rows)) (true_from_T _ (entries_sorted m));
      }

  pub from-columns : (m : map.FinMap R X) → from_sorted {R = R} (zip (map.keys m) (map.values m)) ≡ m
  from-columns m = ap (from_sorted {R = R}) (zip-columns (map.entries m))
      ∙ same_entries_map _ m (map.entries-from_sorted R (map.entries m) (entries_sorted m))
