-- Sums over the values of a finite map: what an insertion and a removal add and take.
use Rattle.std.proofs.Common.{◌≡◌, ℕ, ◌+◌, true, cond, T, List, [], ◌∷◌, refl, sym, ap, ◌∙◌, subst, arith}
use Rattle.std.specs.Prelude.{Option, Some, None, not, length, unwrap_or, map as map_list}
use Rattle.std.specs.declared.cmp.Ordering.{Ordering}
use Rattle.std.specs.declared.cmp.Ordering.TheVariants.{Less, Equal, Greater}
use Rattle.std.specs.Ordering.{is_lt, is_eq, eq_by_cmp}
use Rattle.std.specs.Cmp.{IsTotalOrder}
use Rattle.std.specs.FinMap as map
use Rattle.std.specs.FinMap.{IsAntisymmetric, from_sorted, same_entries_map, entries_sorted}
use Rattle.std.specs.FinMap.Entries.{find, put, by_order, is_sorted, below_all, is_sorted-where_key}
use Rattle.tree_model.proofs.Logic.{true_from_T, T_both, T_first, T_second, T_less}
use Rattle.sorted_map.specs.Sums.{total_by}
use Rattle.sorted_map.proofs.Rows.{remove-rows}
use Rattle.sorted_map.specs.Rows.{without}

-- what the value of an entry adds, where it is there
abbrev pub worth : {X : Type 0} → (X → ℕ) → Option X → ℕ
worth f None = 0
worth f (Some x) = f x

-- a list that may be there adds its length
pub worth-length : {X : Type 0} (found : Option (List X)) → worth length found ≡ length (unwrap_or found [])
worth-length None = refl
worth-length (Some xs) = refl

module _ {K X : Type 0} {R : K → K → Ordering} (total : IsTotalOrder R) (f : X → ℕ) where
  pub absent-below : (k : K) (es : List (K × X)) → T (below_all R k es) → find R k es ≡ None
  absent-below k [] below = refl
  absent-below k (e ∷ es) below =
      ap (λ r. cond (is_eq r) (Some e.1) (find R k es)) (T_less (R k e.0) (T_first _ _ below))
      ∙ absent-below k es (T_second _ _ below)

  below-less : (k x : K) (es : List (K × X)) → R k x ≡ Less → T (below_all R x es) → T (below_all R k es)
  below-less k x [] p below = tt
  below-less k x (e ∷ es) p below =
      let comes = total.trans k x e.0 p (T_less (R x e.0) (T_first _ _ below)) in
      T_both _ _ (subst (λ r. T (is_lt r)) (sym comes) tt) (below-less k x es p (T_second _ _ below))

  below-equal : (k x : K) (es : List (K × X)) → R k x ≡ Equal → T (below_all R x es) → T (below_all R k es)
  below-equal k x [] p below = tt
  below-equal k x (e ∷ es) p below =
      let comes = subst (λ r. T (is_lt r)) (sym (total.congr k x e.0 p)) (T_first _ _ below) in
      T_both _ _ comes (below-equal k x es p (T_second _ _ below))

  sum-put : (k : K) (v : X) (es : List (K × X)) → T (is_sorted R es)
      → total_by (λ e. f e.1) (put R k v es) + worth f (find R k es) ≡ total_by (λ e. f e.1) es + f v
  sum-put k v [] sorted = omega arith
  sum-put k v (e ∷ es) sorted =
      elim (R k e.0) as (λ r. R k e.0 ≡ r
      → total_by (λ x. f x.1) (by_order r ((k, v) ∷ e ∷ es) ((e.0, v) ∷ es) (e ∷ put R k v es))
      + worth f (cond (is_eq r) (Some e.1) (find R k es)) ≡ total_by (λ x. f x.1) (e ∷ es) + f v) [
        | Less ↦ λ p.
            let none = ap (worth f) (absent-below k es (below-less k e.0 es p (T_first _ _ sorted))) in
            omega (arith, none)
        | Equal ↦ λ p. omega arith
        | Greater ↦ λ p. let rest = sum-put k v es (T_second _ _ sorted) in omega (arith, rest)
      ] refl

  sum-keep : (k : K) (es : List (K × X)) → T (below_all R k es)
      → total_by (λ e. f e.1) (without R k es) ≡ total_by (λ e. f e.1) es
  sum-keep k [] below = refl
  sum-keep k (e ∷ es) below =
      let rest = sum-keep k es (T_second _ _ below) in
      ap (λ r. total_by (λ x. f x.1) (cond (not (is_eq r)) (e ∷ without R k es) (without R k es)))
      (T_less (R k e.0) (T_first _ _ below)) ∙ ap (λ n. f e.1 + n) rest

  sum-without : (k : K) (es : List (K × X)) → T (is_sorted R es)
      → total_by (λ e. f e.1) (without R k es) + worth f (find R k es) ≡ total_by (λ e. f e.1) es
  sum-without k [] sorted = omega arith
  sum-without k (e ∷ es) sorted =
      elim (R k e.0) as (λ r. R k e.0 ≡ r
      → total_by (λ x. f x.1) (cond (not (is_eq r)) (e ∷ without R k es) (without R k es))
      + worth f (cond (is_eq r) (Some e.1) (find R k es)) ≡ total_by (λ x. f x.1) (e ∷ es)) [
        | Less ↦ λ p. let rest = sum-without k es (T_second _ _ sorted) in omega (arith, rest)
        | Equal ↦ λ p. let rest = sum-keep k es (below-equal k e.0 es p (T_first _ _ sorted)) in omega (arith, rest)
        | Greater ↦ λ p. let rest = sum-without k es (T_second _ _ sorted) in omega (arith, rest)
      ] refl

  sum-values : (es : List (K × X)) → total_by f (map_list (λ e. e.1) es) ≡ total_by (λ e. f e.1) es
  sum-values [] = refl
  sum-values (e ∷ es) = ap (λ n. f e.1 + n) (sum-values es)

  -- what an insertion adds, and what it takes of an earlier value
  pub sum-insert : (m : map.FinMap R X) (k : K) (v : X)
      → total_by f (map.values (map.insert m k v)) + worth f (map.get m k) ≡ total_by f (map.values m) + f v
  sum-insert m k v =
      let entries = ap (λ es. total_by f (map_list (λ e. e.1) es)) (map.entries-insert total m k v)
      ∙ sum-values (put R k v (map.entries m)) in
      let put = sum-put k v (map.entries m) (entries_sorted m) in
      let all = sum-values (map.entries m) in
      let found = ap (worth f) (map.get-entries m k) in
      omega (arith, entries, put, all, found)

  -- what a removal takes
  pub sum-remove : IsAntisymmetric R → (m : map.FinMap R X) (k : K)
      → total_by f (map.values (map.remove m k)) + worth f (map.get m k) ≡ total_by f (map.values m)
  sum-remove exact m k =
      let rows = map.entries m in
      let back : map.entries (from_sorted {R = R} rows) ≡ rows = map.entries-from_sorted R rows (entries_sorted m) in
      let is_m : m ≡ from_sorted rows = same_entries_map m (from_sorted rows) (sym back) in
      let sorted : is_sorted R rows ≡ true = true_from_T (is_sorted R rows) (entries_sorted m) in
      let fewer = is_sorted-where_key R (λ other. not (eq_by_cmp R k other)) rows (entries_sorted m) in
      let removed : map.entries (map.remove m k) ≡ without R k rows = ap (λ n. map.entries (map.remove n k)) is_m
      ∙ ap map.entries (sym (remove-rows total rows sorted exact k))
      ∙ map.entries-from_sorted R (without R k rows) fewer in
      let entries = ap (λ es. total_by f (map_list (λ e. e.1) es)) removed ∙ sum-values (without R k rows) in
      let taken = sum-without k rows (entries_sorted m) in
      let all = sum-values rows in
      let found = ap (worth f) (map.get-entries m k) in
      omega (arith, entries, taken, all, found)
