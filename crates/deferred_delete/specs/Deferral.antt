-- The list of blobs whose deletion waits: its items, the next number, and the places that are promised.
use Rattle.std.specs.Prelude.{◌≡◌, ℕ, ◌+◌, ◌-◌, ◌^◌, ◌<◌, ◌≤◌, ◌==◌, nat_le, Bool, true, not, ◌&&◌, cond, List}
use Rattle.std.specs.Prelude.{[], ◌∷◌, ◌++◌, length, map, Option, None, All, AllPairs, Contains}
use Rattle.std.specs.List.{filter, find}
use Rattle.deferred_delete.specs.declared.items.Item.{Item}

pub record Deferral : Type 0 where
  pub items : List Item
  -- the number of the next item
  pub next : ℕ
  -- how many further items there is memory for
  pub promised : ℕ

-- one more item, with the next number, at a place that was promised
abbrev pub pushed : Deferral → List ℕ → Bool → Deferral
pushed list blob synced = record {
  items = list.items ++ (record { number = list.next; blob = blob; synced = synced }) ∷ [];
  next = list.next + 1;
  promised = list.promised - 1;
}

abbrev pub now_synced : Item → Item
now_synced item = record item { synced = true }

-- the items after a sync
abbrev pub noted : List Item → List Item
noted items = map now_synced items

-- the items but that of a number
abbrev pub taken : List Item → ℕ → List Item
taken items number = filter (λ item. not (item.number == number)) items

-- whether a sync came for the item, and its number is this one or above
abbrev pub may_go : ℕ → Item → Bool
may_go from item = item.synced && nat_le from item.number

-- the first item that may be deleted now, of this number or above: none under a checkpoint
abbrev pub due_of : Deferral → Bool → ℕ → Option Item
due_of list active from = cond active None (find (may_go from) list.items)

-- no item that a sync came for, of this number or above, has a lower number
abbrev pub IsLowest : Deferral → ℕ → Item → Type 0
IsLowest list from item = (other : Item) → Contains list.items other → other.synced ≡ true → from ≤ other.number
    → item.number ≤ other.number

-- of the items that a sync came for and whose number is this one or above, it is the first
pub record IsFirstSynced (list : Deferral) (from : ℕ) (item : Item) : Type 0 where
  pub there : Contains list.items item
  pub synced : item.synced ≡ true
  pub reached : from ≤ item.number
  pub first : IsLowest list from item

-- no sync came for any item whose number is this one or above
abbrev pub NoneSynced : Deferral → ℕ → Type 0
NoneSynced list from = (item : Item) → Contains list.items item → item.synced ≡ true → ¬ (from ≤ item.number)

abbrev pub numbers : List Item → List ℕ
numbers items = map (λ item. item.number) items

-- the numbers rise strictly, each below the next, and leave room for what is promised
pub record IsNumbered (list : Deferral) : Type 0 where
  pub rising : AllPairs (λ earlier later. earlier < later) (numbers list.items)
  pub below : All (λ number. number < list.next) (numbers list.items)
  pub few : list.next + list.promised < 2 ^ 63

-- the same, and there is memory for what is promised
pub record IsKept (items : List Item) (next promised capacity : ℕ) : Type 0 where
  pub numbered : IsNumbered (record { items = items; next = next; promised = promised })
  pub room : length items + promised ≤ capacity
