-- Sorted rows as a finite map: what the list functions of the contracts do to it.
use Rattle.std.proofs.Common.{◌≡◌, Bool, true, false, cond, List, length, refl, sym, ap, ◌∙◌}
use Rattle.std.specs.Prelude.{Option, None, not}
use Rattle.std.specs.declared.cmp.Ordering.{Ordering}
use Rattle.std.specs.Ordering.{is_eq, eq_by_cmp}
use Rattle.std.specs.Cmp.{IsTotalOrder, eq_by_cmp_equiv}
use Rattle.std.specs.FinMap as map
use Rattle.std.specs.FinMap.{IsAntisymmetric, from_sorted, same_map, same_entries_map}
use Rattle.std.specs.FinMap.Entries.{find, put, find-where_key}
use Rattle.std.proofs.lemmas.Float.{T_from_true}
use Rattle.std.proofs.lemmas.Cmp.{alike_right}
use Rattle.sorted_map.specs.Rows.{keys, values, IsSorted, without}
use Rattle.sorted_map.proofs.Places.{sorted-put, sorted-without}

module _ {K V : Type 0} (R : K → K → Ordering) (rows : List (K × V)) (sorted : IsSorted R rows) where
  pub entries-rows : map.entries (from_sorted {R = R} rows) ≡ rows
  entries-rows = map.entries-from_sorted R rows (T_from_true _ sorted)

  -- a look-up
  pub get-rows : (key : K) → map.get (from_sorted {R = R} rows) key ≡ find R key rows
  get-rows key = map.get-from_sorted R rows key (T_from_true _ sorted)

  pub keys-rows : map.keys (from_sorted {R = R} rows) ≡ keys rows
  keys-rows = ap keys entries-rows

  pub values-rows : map.values (from_sorted {R = R} rows) ≡ values rows
  values-rows = ap values entries-rows

  pub len-rows : map.len (from_sorted {R = R} rows) ≡ length rows
  len-rows = map.len-entries _ ∙ ap length entries-rows

module _ {K V : Type 0} {R : K → K → Ordering} (total : IsTotalOrder R) (rows : List (K × V))
    (sorted : IsSorted R rows) where
  -- an insertion
  pub insert-rows : (key : K) (value : V)
      → from_sorted {R = R} (put R key value rows) ≡ map.insert (from_sorted {R = R} rows) key value
  insert-rows key value = same_entries_map _ _
      (entries-rows R _ (sorted-put total key value rows sorted)
      ∙ ap (put R key value) (sym (entries-rows R rows sorted))
      ∙ sym (map.entries-insert total (from_sorted {R = R} rows) key value))

  module _ (exact : IsAntisymmetric R) where
    -- a removal
    pub remove-rows : (key : K) → from_sorted {R = R} (without R key rows) ≡ map.remove (from_sorted {R = R} rows) key
    remove-rows key = same_map total exact _ _ (λ q.
        get-rows R _ (sorted-without total key rows sorted) q
        ∙ find-where_key R (λ other. not (eq_by_cmp R key other)) q
        (λ other same. ap (λ r. not (is_eq r)) (sym (alike_right total q other key same))) rows
        ∙ turned (eq_by_cmp R key q) (find R q rows)
        ∙ (λ i. cond (symmetric q key i) None (sym (get-rows R rows sorted q) i))
        ∙ sym (map.get-remove total (from_sorted {R = R} rows) key q))
      where
        turned : (b : Bool) (found : Option V) → cond (not b) found None ≡ cond b None found
        turned true found = refl
        turned false found = refl

        symmetric : (q k : K) → eq_by_cmp R k q ≡ eq_by_cmp R q k
        symmetric q k = (eq_by_cmp_equiv total).symm k q
