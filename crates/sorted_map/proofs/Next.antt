-- The first row whose key comes after another is the first key of the map after it.
use Rattle.std.proofs.Common.{◌≡◌, ◌⊎◌, inl, inr, Bool, true, false, cond, List, [], ◌∷◌, refl, sym, ap, ◌∙◌, subst}
use Rattle.std.specs.Prelude.{Option, Some, None, IsSome}
use Rattle.std.specs.declared.cmp.Ordering.{Ordering}
use Rattle.std.specs.declared.cmp.Ordering.TheVariants.{Less, Equal}
use Rattle.std.specs.Ordering.{is_lt, eq_by_cmp}
use Rattle.std.specs.Cmp.{IsTotalOrder, alike_right, tied_back}
use Rattle.std.specs.FinMap.{IsAntisymmetric, from_sorted}
use Rattle.std.specs.FinMap.Entries.{find, below_all}
use Rattle.std.specs.List.{find as find_first}
use Rattle.std.proofs.lemmas.Bool.{and_parts}
use Rattle.tree_model.proofs.Logic.{is_less, is_equal}
use Rattle.tree_model.proofs.Maps.{tied}
use Rattle.sorted_map.specs.Maps.{IsAfter, IsNextKey}
use Rattle.sorted_map.specs.Rows.{keys, IsSorted, is_after}
use Rattle.sorted_map.proofs.Rows.{get-rows}

module _ {K : Type 0} (R : K → K → Ordering) where
  comes-after : (after : Option K) (key : K) → is_after R after key ≡ true → IsAfter R after key
  comes-after None key e = tt
  comes-after (Some a) key e = is_less (R a key) e

  after-comes : (after : Option K) (key : K) → IsAfter R after key → is_after R after key ≡ true
  after-comes None key h = refl
  after-comes (Some a) key e = ap is_lt e

  -- the key that was found is no later than this one
  abbrev IsLeast : K → Option K → Type 0
  IsLeast key None = ⊥
  IsLeast key (Some next) = (R next key ≡ Less) ⊎ (R next key ≡ Equal)

module _ {K V : Type 0} {R : K → K → Ordering} (total : IsTotalOrder R) (exact : IsAntisymmetric R) where
  below-find : (low key : K) (rows : List (K × V)) → below_all R low rows ≡ true → IsSome (find R key rows)
      → R low key ≡ Less
  below-find low key [] below there = cc
  below-find low key (row ∷ rows) below there =
      elim (eq_by_cmp R key row.0) as (λ t. eq_by_cmp R key row.0 ≡ t → IsSome (cond t (Some row.1) (find R key rows))
      → R low key ≡ Less) [
        | true ↦ λ e h. alike_right total key row.0 low (is_equal (R key row.0) e)
            ∙ is_less (R low row.0) (and_parts _ _ below).0
        | false ↦ λ e h. below-find low key rows (and_parts _ _ below).1 h
      ] refl there

  next-there : (after : Option K) (next : K) (rows : List (K × V))
      → find_first (is_after R after) (keys rows) ≡ Some next
      → IsSome (find R next rows) × (is_after R after next ≡ true)
  next-there after next [] e = absurd (cc)
  next-there after next (row ∷ rows) is =
      elim (is_after R after row.0) as (λ t. is_after R after row.0 ≡ t
      → cond t (Some row.0) (find_first (is_after R after) (keys rows)) ≡ Some next
      → IsSome (cond (eq_by_cmp R next row.0) (Some row.1) (find R next rows)) × (is_after R after next ≡ true)) [
        | true ↦ λ comes e. let same : row.0 ≡ next = cc in (
          subst (λ t. IsSome (cond t (Some row.1) (find R next rows)))
              (sym (tied total exact next row.0 (sym same))) refl,
          subst (λ key. is_after R after key ≡ true) same comes,
        )
        | false ↦ λ fails e. let rest = next-there after next rows e in
            (either (eq_by_cmp R next row.0) (find R next rows) rest.0, rest.1)
      ] refl is
    where
      either : (t : Bool) (found : Option V) → IsSome found → IsSome (cond t (Some row.1) found)
      either true found h = refl
      either false found h = h

  -- no key that comes after is earlier than the next one
  next-least : (after : Option K) (key : K) (rows : List (K × V)) → IsSorted R rows → IsSome (find R key rows)
      → is_after R after key ≡ true → IsLeast R key (find_first (is_after R after) (keys rows))
  next-least after key [] sorted there comes = absurd (none there)
    where
      none : IsSome (find {X = V} R key []) → ⊥
      none e = cc
  next-least after key (row ∷ rows) sorted there comes =
      elim (is_after R after row.0) as (λ t. is_after R after row.0 ≡ t
      → IsLeast R key (cond t (Some row.0) (find_first (is_after R after) (keys rows)))) [
        | true ↦ λ e. elim (eq_by_cmp R key row.0) as (λ t. eq_by_cmp R key row.0 ≡ t
            → IsSome (cond t (Some row.1) (find R key rows)) → IsLeast R key (Some row.0)) [
              | true ↦ λ same h. inr (tied_back total key row.0 (is_equal (R key row.0) same))
              | false ↦ λ apart h. inl (below-find row.0 key rows (and_parts _ _ sorted).0 h)
            ] refl there
        | false ↦ λ e. elim (eq_by_cmp R key row.0) as (λ t. eq_by_cmp R key row.0 ≡ t
            → IsSome (cond t (Some row.1) (find R key rows))
            → IsLeast R key (find_first (is_after R after) (keys rows))) [
              | true ↦ λ same h.
                  let is : key ≡ row.0 = exact key row.0 (is_equal (R key row.0) same) in
                  absurd (differ (sym (subst (λ k. is_after R after k ≡ true) is comes) ∙ e))
              | false ↦ λ apart h. next-least after key rows (and_parts _ _ sorted).1 h comes
            ] refl there
      ] refl
    where
      differ : true ≡ false → ⊥
      differ e = cc

  -- the first row whose key comes after
  pub next-key : (rows : List (K × V)) → IsSorted R rows → (after next : Option K)
      → next ≡ find_first (is_after R after) (keys rows) → IsNextKey (from_sorted {R = R} rows) after next
  next-key rows sorted after None is = λ key there comes.
      let found = subst IsSome (get-rows R rows sorted key) there in
      subst (IsLeast R key) (sym is) (next-least after key rows sorted found (after-comes R after key comes))
  next-key rows sorted after (Some next) is =
      let found = next-there after next rows (sym is) in (
        subst IsSome (sym (get-rows R rows sorted next)) found.0,
        comes-after R after next found.1,
        λ key there comes.
            let held = subst IsSome (get-rows R rows sorted key) there in
            subst (IsLeast R key) (sym is) (next-least after key rows sorted held (after-comes R after key comes)),
      )
