-- Which item a search through the list finds, and what is left of the list without one.
use Rattle.std.proofs.Common.{◌≡◌, ◌≢◌, ◌⊎◌, inl, inr, ℕ, zero, suc, ◌<◌, ◌≤◌, Bool, true, false, not, cond, List}
use Rattle.std.proofs.Common.{[], ◌∷◌, length, get_or, refl, sym, ap, ◌∙◌, arith, eq-eqb}
use Rattle.std.specs.Prelude.{Option, Some, None, IfSome, IfNone, IsTrue, ◌&&◌, nat_le, AllPairs, Contains}
use Rattle.std.specs.List.{find, remove, position_or_len, HoldsAt}
use Rattle.std.specs.List.Sorted.{IsNonDecreasingBy, IsPartitionPoint}
use Rattle.std.specs.declared.cmp.Ordering.TheVariants.{Less, Equal, Greater}
use Rattle.std.specs.Ordering.{nat_cmp, ordering_index}
use Rattle.std.proofs.lemmas.Bool.{cases_lt, and_parts, true≢false}
use Rattle.std.proofs.lemmas.Bool.Decides.{nat_tests}
use Rattle.std.proofs.lemmas.Cmp.{ranked}
use Rattle.std.proofs.lemmas.List.{get_or-map, length-map}
use Rattle.std.proofs.lemmas.List.Folds.{find_at}
use Rattle.std.proofs.lemmas.List.Sums.{fails_before_first, passes_at_first, length-filter, count_by-le-length}
use Rattle.std.proofs.lemmas.Option.{slice_get_within, slice_get-get_or, same_Some, none-some}
use Rattle.deferred_delete.specs.declared.items.Item.{Item}
use Rattle.deferred_delete.specs.Deferral.{IsLowest, Deferral, IsNumbered, IsKept, IsFirstSynced, NoneSynced}
use Rattle.deferred_delete.specs.Deferral.{may_go, numbers, taken}
use Rattle.deferred_delete.proofs.Numbered.{other_than, numbered-taken}

number-at : (items : List Item) (k : ℕ) (d : Item) → k < length items
    → get_or (numbers items) k 0 ≡ (get_or items k d).number
number-at items k d within = get_or-map (λ (item : Item). item.number) items k d 0 within

abbrev no_item : Item
no_item = record { number = 0; blob = []; synced = false }

-- an item that passes stands nowhere before the first that does
module _ (items : List Item) (from : ℕ) where
  abbrev first : ℕ
  first = position_or_len (may_go from) items

  passes : (item : Item) → item.synced ≡ true → from ≤ item.number → may_go from item ≡ true
  passes item synced reached = ap (λ t. t && nat_le from item.number) synced ∙ grind (arith, nat_tests)

  not-before : (item : Item) (has : Contains items item) → may_go from item ≡ true → first ≤ has.0
  not-before item has passing = elim (cases_lt has.0 first) [
    | inl before ↦ absurd (true≢false (sym passing ∙ ap (may_go from) (sym has.2)
        ∙ fails_before_first (may_go from) items has.0 item before))
    | inr after ↦ after
  ]

  none-passes : find (may_go from) items ≡ None → (item : Item) → Contains items item → ¬ (may_go from item ≡ true)
  none-passes none item has passing =
      let within = not-before item has passing in
      none-some (get_or items first item) (sym none ∙ find_at (may_go from) items
      ∙ slice_get-get_or items first item (omega (arith, within, has.1)))

  found-at : (item : Item) → find (may_go from) items ≡ Some item
      → (first < length items) × (get_or items first item ≡ item)
  found-at item found =
      let there = sym (find_at (may_go from) items) ∙ found in
      let within = slice_get_within items first item there in
      (within, same_Some (get_or items first item) item (sym (slice_get-get_or items first item within) ∙ there))

-- what a search of the list says of the item that it finds, and of all where it finds none
module _ (list : Deferral) (from : ℕ) where
  is-first : IsNumbered list → (item : Item) → find (may_go from) list.items ≡ Some item → IsFirstSynced list from item
  is-first numbered item found = record {
    there = there;
    synced = parts.0;
    reached = grind (arith, nat_tests, parts.1);
    first = least;
  }
    where
      at : (first list.items from < length list.items) × (get_or list.items (first list.items from) item ≡ item)
      at = found-at list.items from item found

      there : Contains list.items item
      there = (first list.items from, at.0, at.1)

      parts : (item.synced ≡ true) × (nat_le from item.number ≡ true)
      parts = and_parts item.synced (nat_le from item.number)
          (ap (may_go from) (sym at.1) ∙ passes_at_first (may_go from) list.items item at.0)

      least : IsLowest list from item
      least other has synced high =
          let after = not-before list.items from other has (passes list.items from other synced high) in
          let here = number-at list.items (first list.items from) item at.0 ∙ ap (λ (i : Item). i.number) at.1 in
          let later = number-at list.items has.0 other has.1 ∙ ap (λ (i : Item). i.number) has.2 in
          elim (cases_lt (first list.items from) has.0) [
            | inl before ↦
                let apart = numbered.rising (first list.items from) has.0 0 before
                (omega (arith, has.1, length-map list.items (λ (i : Item). i.number))) in
                omega (arith, apart, here, later)
            | inr reached ↦
                let same : first list.items from ≡ has.0 = omega (arith, after, reached) in
                omega (arith, here, later, ap (λ k. get_or (numbers list.items) k 0) same)
          ]

  pub found-first : IsNumbered list → (found : Option Item) → found ≡ find (may_go from) list.items
      → IfSome found (IsFirstSynced list from)
  found-first numbered None is = tt
  found-first numbered (Some item) is = is-first numbered item (sym is)

  pub found-none : (active : Bool) (found : Option Item) → found ≡ find (may_go from) list.items
      → IfNone found (IsTrue active ⊎ NoneSynced list from)
  found-none active None is = inr (λ item has synced reached. none-passes list.items from (sym is) item has
      (passes list.items from item synced reached))
  found-none active (Some item) is = tt

-- without the item of a number
module _ (number : ℕ) where
  stays : (n : ℕ) → n ≢ number → other_than number n ≡ true
  stays n differs = grind (arith, nat_tests)

  taken-none : (items : List Item) → ((k : ℕ) → k < length items → get_or (numbers items) k 0 ≢ number)
      → taken items number ≡ items
  taken-none [] differ = refl
  taken-none (item ∷ items) differ =
      ap (λ t. cond t (item ∷ taken items number) (taken items number)) (stays item.number (differ 0 (omega arith)))
      ∙ ap (λ rest. item ∷ rest) (taken-none items (λ k within. differ (suc k) (omega (arith, within))))

  taken-one : (items : List Item) (at : ℕ) → at < length items → get_or (numbers items) at 0 ≡ number
      → ((k : ℕ) → k < length items → k ≢ at → get_or (numbers items) k 0 ≢ number)
      → taken items number ≡ remove items at
  taken-one [] at within is differ = absurd (omega arith)
  taken-one (item ∷ items) zero within is differ =
      ap (λ t. cond (not t) (item ∷ taken items number) (taken items number)) (eq-eqb item.number number is)
      ∙ taken-none items (λ k below. differ (suc k) (omega (arith, below)) (λ same. omega (arith, same)))
  taken-one (item ∷ items) (suc at) within is differ =
      ap (λ t. cond t (item ∷ taken items number) (taken items number))
      (stays item.number (differ 0 (omega arith) (λ same. omega (arith, same))))
      ∙ ap (λ rest. item ∷ rest)
      (taken-one items at (omega (arith, within)) is
      (λ k below apart. differ (suc k) (omega (arith, below)) (λ same. apart (omega (arith, same)))))

  pub kept-taken : {items : List Item} {next promised capacity : ℕ} → IsKept items next promised capacity
      → IsKept (taken items number) next promised capacity
  kept-taken {items} {next} {promised} {capacity} kept = record {
    numbered = numbered-taken number (record { items = items; next = next; promised = promised }) kept.numbered;
    room = omega (
      arith,
      kept.room,
      length-filter (λ (item : Item). other_than number item.number) items,
      count_by-le-length (λ (item : Item). other_than number item.number) items,
    );
  }

  -- where a binary search ends among numbers that rise
  module _ (items : List Item) (rising : AllPairs (λ earlier later. earlier < later) (numbers items)) where
    pub taken-found : (at : ℕ) → at < length items → HoldsAt (λ item. nat_cmp item.number number ≡ Equal) items at
        → taken items number ≡ remove items at
    taken-found at within found = taken-one items at within here
        (λ k below differ same. elim (cases_lt k at) [
          | inl before ↦
              let apart = rising k at 0 before (omega (arith, within, length-map items (λ (i : Item). i.number))) in
              omega (arith, apart, same, here)
          | inr least ↦
              let apart = rising at k 0 (omega (arith, least, differ))
              (omega (arith, below, length-map items (λ (i : Item). i.number))) in
              omega (arith, apart, same, here)
        ])
      where
        here : get_or (numbers items) at 0 ≡ number
        here = number-at items at no_item within
            ∙ ranked (get_or items at no_item).number number Equal (sym (found no_item))

    higher : (a b : ℕ) → a ≤ b → ordering_index (nat_cmp a number) ≤ ordering_index (nat_cmp b number)
    higher a b le = grind (arith, nat_tests)

    numbers-rise : (i j : ℕ) (d : Item) → i ≤ j → j < length items
        → (get_or items i d).number ≤ (get_or items j d).number
    numbers-rise i j d le within = elim (cases_lt i j) [
      | inl before ↦
          let apart = rising i j 0 before (omega (arith, within, length-map items (λ (i : Item). i.number))) in
          omega (arith, apart, number-at items i d (omega (arith, le, within)), number-at items j d within)
      | inr least ↦
          let same : i ≡ j = omega (arith, le, least) in omega (arith, ap (λ at. (get_or items at d).number) same)
    ]

    pub taken-absent : (at : ℕ)
        → (IsNonDecreasingBy (λ item. ordering_index (nat_cmp item.number number)) items
        → IsPartitionPoint (λ item. nat_cmp item.number number ≡ Less)
        (λ item. nat_cmp item.number number ≡ Greater) items at)
        → taken items number ≡ items
    taken-absent at parts = taken-none items (λ k within same. elim (cases_lt k at) [
      | inl before ↦
          let below = ranked (get_or items k no_item).number number Less
          (sym (parted.0 k no_item (omega arith) before)) in
          omega (arith, below, same, number-at items k no_item within)
      | inr after ↦
          let above = ranked (get_or items k no_item).number number Greater
          (sym (parted.1 k no_item after within)) in
          omega (arith, above, same, number-at items k no_item within)
    ])
      where
        parted : IsPartitionPoint (λ item. nat_cmp item.number number ≡ Less)
            (λ item. nat_cmp item.number number ≡ Greater) items at
        parted = parts (λ i j d le within. higher (get_or items i d).number (get_or items j d).number
            (numbers-rise i j d le within))
