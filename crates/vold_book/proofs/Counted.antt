-- Lists with no element twice, and the elements that the rows of a finite map hold together.
use Rattle.std.proofs.Common.{◌≡◌, ◌≢◌, inl, inr, ℕ, ◌+◌, ◌≤◌, T, true, false, cond}
use Rattle.std.proofs.Common.{List, [], ◌∷◌, ◌++◌, refl, sym, ap, ◌∙◌, subst, arith}
use Rattle.std.specs.Prelude.{Some, None, Contains, length}
use Rattle.std.specs.List.{flat_map}
use Rattle.std.specs.declared.cmp.Ordering.{Ordering}
use Rattle.std.specs.Ordering.{eq_by_cmp, nat_cmp}
use Rattle.std.specs.Cmp.{IsTotalOrder}
use Rattle.std.specs.FinMap as map
use Rattle.std.specs.FinMap.{IsAntisymmetric, entries_sorted, nat_cmp-IsAntisymmetric}
use Rattle.std.specs.FinMap.Entries.{find, is_sorted, below_all}
use Rattle.std.proofs.lemmas.Cmp.{nat_cmp_total}
use Rattle.std.proofs.lemmas.List.{length-map}
use Rattle.std.proofs.lemmas.List.Concat.{flat_map_single}
use Rattle.std.proofs.lemmas.List.Elements.{Contains-push_cases}
use Rattle.std.proofs.lemmas.List.Elements.{Contains-append_left, Contains-append_right, Contains-append_cases}
use Rattle.std.proofs.lemmas.List.Folds.{flat_map-map}
use Rattle.std.proofs.lemmas.Option.{none-some, same_Some}
use Rattle.keystore_model.proofs.Elements.{Contains-none, Contains-first, Contains-rest, Contains-cases}
use Rattle.tree_model.proofs.Logic.{is_equal, T_first, T_second}
use Rattle.tree_model.proofs.Maps.{tied}
use Rattle.sorted_map.proofs.Sums.{absent-below}

pub Contains-single : {X : Type 0} (y x : X) → Contains (y ∷ []) x → y ≡ x
Contains-single y x has = elim (Contains-push_cases [] y x has) [
  | inl none ↦ absurd (Contains-none x none)
  | inr same ↦ same
]

-- no element stands twice
abbrev pub NoneTwice : List ℕ → Type 0
NoneTwice [] = Unit {0}
NoneTwice (x ∷ xs) = (¬ (Contains xs x)) × NoneTwice xs

-- the list but the first place of an element
drop_one : ℕ → List ℕ → List ℕ
drop_one x [] = []
drop_one x (y ∷ ys) = cond (eq_by_cmp nat_cmp x y) ys (y ∷ drop_one x ys)

differs : (x y : ℕ) → eq_by_cmp nat_cmp x y ≡ false → x ≢ y
differs x y is same =
    subst (λ t. cond t ⊥ (Unit {0})) (sym is ∙ tied nat_cmp_total nat_cmp-IsAntisymmetric x y same) tt

length-drop_one : (x : ℕ) (ys : List ℕ) → Contains ys x → length (drop_one x ys) + 1 ≡ length ys
unfolding drop_one
length-drop_one x [] has = absurd (Contains-none x has)
length-drop_one x (y ∷ ys) has =
    elim (eq_by_cmp nat_cmp x y) as (λ t. eq_by_cmp nat_cmp x y ≡ t
    → length (cond t ys (y ∷ drop_one x ys)) + 1 ≡ length (y ∷ ys)) [
      | true ↦ λ is. omega arith
      | false ↦ λ is. elim (Contains-cases y ys x has) [
        | inl same ↦ absurd (differs x y is (sym same))
        | inr rest ↦ let less = length-drop_one x ys rest in omega (arith, less)
      ]
    ] refl

still-has : (x u : ℕ) (ys : List ℕ) → u ≢ x → Contains ys u → Contains (drop_one x ys) u
unfolding drop_one
still-has x u [] differ has = absurd (Contains-none u has)
still-has x u (y ∷ ys) differ has =
    elim (eq_by_cmp nat_cmp x y) as (λ t. eq_by_cmp nat_cmp x y ≡ t
    → Contains (cond t ys (y ∷ drop_one x ys)) u) [
      | true ↦ λ is. elim (Contains-cases y ys u has) [
        | inl same ↦ absurd (differ (sym (nat_cmp-IsAntisymmetric x y (is_equal _ is) ∙ same)))
        | inr rest ↦ rest
      ]
      | false ↦ λ is. elim (Contains-cases y ys u has) [
        | inl same ↦ subst (Contains (y ∷ drop_one x ys)) same (Contains-first y (drop_one x ys))
        | inr rest ↦ Contains-rest y (drop_one x ys) u (still-has x u ys differ rest)
      ]
    ] refl

-- a list with no element twice is no longer than one that has all its elements
pub count-within : (xs ys : List ℕ) → NoneTwice xs → ((u : ℕ) → Contains xs u → Contains ys u)
    → length xs ≤ length ys
count-within [] ys once within = omega arith
count-within (x ∷ xs) ys once within =
    let rest : length xs ≤ length (drop_one x ys) = count-within xs (drop_one x ys) once.1
    (λ u has. still-has x u ys (λ same. once.0 (subst (Contains xs) same has))
    (within u (Contains-rest x xs u has))) in
    let less = length-drop_one x ys (within x (Contains-first x xs)) in
    omega (arith, rest, less)

-- two lists with the same elements, and none twice, are as long as each other
pub same-count : (xs ys : List ℕ) → NoneTwice xs → NoneTwice ys → ((u : ℕ) → Contains xs u → Contains ys u)
    → ((u : ℕ) → Contains ys u → Contains xs u) → length xs ≡ length ys
same-count xs ys once_xs once_ys there back =
    let most = count-within xs ys once_xs there in
    let least = count-within ys xs once_ys back in
    omega (arith, most, least)

-- a list of at most one element, before a list that does not have it
once-before : (xs ys : List ℕ) → length xs ≤ 1 → ((u : ℕ) → Contains xs u → ¬ (Contains ys u)) → NoneTwice ys
    → NoneTwice (xs ++ ys)
once-before [] ys short none once = once
once-before (x ∷ []) ys short none once = (none x (Contains-first x []), once)
once-before (x ∷ y ∷ xs) ys short none once = absurd (omega arith)

-- the elements that the rows of a map hold, in the keys' order
abbrev pub all_of : {K X : Type 0} {R : K → K → Ordering} → (K → X → List ℕ) → map.FinMap R X → List ℕ
all_of f m = flat_map (λ row. f row.0 row.1) (map.entries m)

-- a row of the map that holds the element
pub record IsFrom {K X : Type 0} {R : K → K → Ordering} (f : K → X → List ℕ) (m : map.FinMap R X) (u : ℕ)
    : Type 0 where
  pub key : K
  pub value : X
  pub at : map.get m key ≡ Some value
  pub has : Contains (f key value) u

-- what a later row has under its key stays found behind an earlier row
module _ {K X : Type 0} {R : K → K → Ordering} (total : IsTotalOrder R) (exact : IsAntisymmetric R) where
  pub found-later : (row : K × X) (rows : List (K × X)) (k : K) (x : X) → T (below_all R row.0 rows)
      → find R k rows ≡ Some x → find R k (row ∷ rows) ≡ Some x
  found-later row rows k x below found =
      elim (eq_by_cmp R k row.0) as (λ same. eq_by_cmp R k row.0 ≡ same
      → cond same (Some row.1) (find R k rows) ≡ Some x) [
        | true ↦ λ is. absurd (none-some x (sym (subst (λ at. find R at rows ≡ None)
            (sym (exact k row.0 (is_equal _ is))) (absent-below total (λ _. 0) row.0 rows below)) ∙ found))
        | false ↦ λ is. found
      ] refl

module _ {K X : Type 0} {R : K → K → Ordering} (total : IsTotalOrder R) (exact : IsAntisymmetric R)
    (f : K → X → List ℕ) where
  first : (row : K × X) (rows : List (K × X)) → find R row.0 (row ∷ rows) ≡ Some row.1
  first row rows = ap (λ t. cond t (Some row.1) (find R row.0 rows)) (tied total exact row.0 row.0 refl)

  of_rows : List (K × X) → List ℕ
  of_rows rows = flat_map (λ row. f row.0 row.1) rows

  found-in : (rows : List (K × X)) → T (is_sorted R rows) → (u : ℕ) → Contains (of_rows rows) u
      → (k : K) × (x : X) × (find R k rows ≡ Some x) × Contains (f k x) u
  unfolding of_rows
  found-in [] sorted u has = absurd (Contains-none u has)
  found-in (row ∷ rows) sorted u has = elim (Contains-append_cases (f row.0 row.1) (of_rows rows) u has) [
    | inl here ↦ (row.0, row.1, first row rows, here)
    | inr rest ↦
        let from = found-in rows (T_second (below_all R row.0 rows) (is_sorted R rows) sorted) u rest in
        let below = T_first (below_all R row.0 rows) (is_sorted R rows) sorted in
        (from.0, from.1, found-later total exact row rows from.0 from.1 below from.2, from.3)
  ]

  from-rows : (rows : List (K × X)) (k : K) (x : X) (u : ℕ) → find R k rows ≡ Some x → Contains (f k x) u
      → Contains (of_rows rows) u
  unfolding of_rows
  from-rows [] k x u found has = absurd (none-some x found)
  from-rows (row ∷ rows) k x u found has =
      elim (eq_by_cmp R k row.0) as (λ same. eq_by_cmp R k row.0 ≡ same
      → cond same (Some row.1) (find R k rows) ≡ Some x → Contains (f row.0 row.1 ++ of_rows rows) u) [
        | true ↦ λ is at. Contains-append_left (f row.0 row.1) (of_rows rows) u
            (subst (λ key. Contains (f key row.1) u) (exact k row.0 (is_equal _ is))
            (subst (λ value. Contains (f k value) u) (sym (same_Some _ _ at)) has))
        | false ↦ λ is at. Contains-append_right (f row.0 row.1) (of_rows rows) u (from-rows rows k x u at has)
      ] refl found

  rows-once : ((k : K) (x : X) → length (f k x) ≤ 1) → (rows : List (K × X)) → T (is_sorted R rows)
      → ((k k' : K) (x x' : X) (u : ℕ) → find R k rows ≡ Some x → find R k' rows ≡ Some x'
      → Contains (f k x) u → Contains (f k' x') u → k ≡ k')
      → NoneTwice (of_rows rows)
  unfolding of_rows
  rows-once short [] sorted apart = tt
  rows-once short (row ∷ rows) sorted apart =
      let below = T_first (below_all R row.0 rows) (is_sorted R rows) sorted in
      let sorted_rest = T_second (below_all R row.0 rows) (is_sorted R rows) sorted in
      once-before (f row.0 row.1) (of_rows rows) (short row.0 row.1)
      (λ u here rest.
      let from = found-in rows sorted_rest u rest in
      let same = apart row.0 from.0 row.1 from.1 u (first row rows)
      (found-later total exact row rows from.0 from.1 below from.2) here from.3 in
      none-some from.1 (sym (absent-below total (λ _. 0) row.0 rows below)
      ∙ ap (λ at. find R at rows) same ∙ from.2))
      (rows-once short rows sorted_rest (λ k k' x x' u at at' has has'.
      apart k k' x x' u (found-later total exact row rows k x below at)
      (found-later total exact row rows k' x' below at') has has'))

  -- each element is from a row
  pub all-found : (m : map.FinMap R X) (u : ℕ) → Contains (all_of f m) u → IsFrom f m u
  unfolding of_rows
  all-found m u has =
      let from = found-in (map.entries m) (entries_sorted m) u has in
      record { key = from.0; value = from.1; at = map.get-entries m from.0 ∙ from.2; has = from.3 }

  -- each row's elements are there
  pub from-all : (m : map.FinMap R X) (k : K) (x : X) (u : ℕ) → map.get m k ≡ Some x → Contains (f k x) u
      → Contains (all_of f m) u
  unfolding of_rows
  from-all m k x u at has = from-rows (map.entries m) k x u (sym (map.get-entries m k) ∙ at) has

  -- no element is there twice where each row holds at most one, and no two rows hold the same
  pub all-once : (m : map.FinMap R X) → ((k : K) (x : X) → length (f k x) ≤ 1)
      → ((k k' : K) (x x' : X) (u : ℕ) → map.get m k ≡ Some x → map.get m k' ≡ Some x'
      → Contains (f k x) u → Contains (f k' x') u → k ≡ k')
      → NoneTwice (all_of f m)
  unfolding of_rows
  all-once m short apart = rows-once short (map.entries m) (entries_sorted m) (λ k k' x x' u at at' has has'.
      apart k k' x x' u (map.get-entries m k ∙ at) (map.get-entries m k' ∙ at') has has')

-- over the values as over the rows
pub values-all : {K X : Type 0} {R : K → K → Ordering} (m : map.FinMap R X) (g : X → List ℕ)
    → flat_map g (map.values m) ≡ flat_map (λ row. g row.1) (map.entries m)
values-all m g = flat_map-map g (λ row. row.1) (map.entries m)

pub length-keys : {K X : Type 0} {R : K → K → Ordering} (m : map.FinMap R X) → length (map.keys m) ≡ map.len m
length-keys m = length-map (map.entries m) (λ row. row.0) ∙ sym (map.len-entries m)

module _ {X : Type 0} (m : map.FinMap nat_cmp X) where
  keys-all : all_of (λ k x. k ∷ []) m ≡ map.keys m
  keys-all = flat_map_single (λ row. row.0) (map.entries m)

  pub keys-once : NoneTwice (map.keys m)
  keys-once = subst NoneTwice keys-all
      (all-once nat_cmp_total nat_cmp-IsAntisymmetric (λ k x. k ∷ []) m (λ k x. omega arith)
      (λ k k' x x' u at at' has has'. Contains-single k u has ∙ sym (Contains-single k' u has')))

  pub keys-found : (u : ℕ) → Contains (map.keys m) u → map.get m u ≢ None
  keys-found u has none =
      let from = all-found nat_cmp_total nat_cmp-IsAntisymmetric (λ k x. k ∷ []) m u
      (subst (λ us. Contains us u) (sym keys-all) has) in
      none-some from.value (sym none ∙ ap (map.get m) (sym (Contains-single from.key u from.has)) ∙ from.at)

  pub found-key : (u : ℕ) (x : X) → map.get m u ≡ Some x → Contains (map.keys m) u
  found-key u x at = subst (λ us. Contains us u) keys-all
      (from-all nat_cmp_total nat_cmp-IsAntisymmetric (λ k x. k ∷ []) m u x u at (Contains-first u []))
