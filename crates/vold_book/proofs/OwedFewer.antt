-- Of what a command owes each call leaves no more to try than it drops, and a delete leaves one less.
use Rattle.std.proofs.Common.{◌≡◌, ◌+◌, ◌≤◌, ℕ, Bool, true, false, cond, List, []}
use Rattle.std.proofs.Common.{◌∷◌, length, length-append, refl}
use Rattle.std.proofs.Common.{sym, ap, subst, arith, inl, inr}
use Rattle.std.proofs.lemmas.Bool.Decides.{nat_tests}
use Rattle.std.specs.List.{filter}
use Rattle.std.specs.Prelude.{nat_le, Contains, None}
use Rattle.tree_model.specs.declared.blobs.Blob.{Blob}
use Rattle.deferred_delete.specs.declared.items.Item.{Item}
use Rattle.vold_book.specs.Whole.{count_from}
use Rattle.vold_book.specs.Owed.{items_from, Owed, drops_of, more_owed, owed_after, with_more}
use Rattle.task_turns.specs.declared.calls.Call.{Call}
use Rattle.task_turns.specs.declared.calls.Call.TheVariants.{Op, Sync, List as ListCall, Read, Generate, Encrypt}
use Rattle.task_turns.specs.declared.calls.Call.TheVariants.{Decrypt, Entries, Add, Remove, Delete}
use Rattle.bench.specs.Bench.{dropped}
use Rattle.keystore_model.proofs.Elements.{Contains-cases, Contains-none}
use Rattle.step_core.specs.Table.{NamedPlaces}
use Rattle.task_turns.specs.Turns.{cost_of}
use Rattle.std.proofs.lemmas.List.Sums.{count_by-le-length, length-filter}
use Rattle.std.proofs.lemmas.List.Elements.{filter-append}

-- a later beginning leaves no more of the items, and one less where an item is passed
later-fewer : (from : ℕ) (to : ℕ) (items : List Item) → from ≤ to → count_from to items ≤ count_from from items
later-fewer from to [] low = omega arith
later-fewer from to (item ∷ items) low =
    let rest = later-fewer from to items low in
    by (nat_le from item.number) (nat_le to item.number) refl refl rest
  where
    by : (may now : Bool) → nat_le from item.number ≡ may → nat_le to item.number ≡ now
        → count_from to items ≤ count_from from items
        → length (cond now (item ∷ filter (λ other. nat_le to other.number) items)
        (filter (λ other. nat_le to other.number) items))
        ≤ length (cond may (item ∷ filter (λ other. nat_le from other.number) items)
        (filter (λ other. nat_le from other.number) items))
    by true true is now rest = omega (arith, rest)
    by true false is now rest = omega (arith, rest)
    by false false is now rest = omega (arith, rest)
    by false true is now rest = absurd (both is now)
      where
        both : nat_le from item.number ≡ false → nat_le to item.number ≡ true → ⊥
        both off on = grind (arith, nat_tests, low)

-- the items of blobs are as many
items-many : (next : ℕ) (blobs : List Blob) → length (items_from next blobs) ≡ length blobs
items-many next [] = refl
items-many next (blob ∷ blobs) = let rest = items-many (next + 1) blobs in omega (arith, rest)

-- a delete passes an item that was still to be tried, so that one less is
passed-fewer : (from : ℕ) (items : List Item) (own : Item) → Contains items own → from ≤ own.number
    → count_from (own.number + 1) items + 1 ≤ count_from from items
passed-fewer from [] own has reached = absurd (Contains-none own has)
passed-fewer from (item ∷ items) own has reached = elim (Contains-cases item items own has) [
  | inl same ↦ here (nat_le from item.number) (nat_le (own.number + 1) item.number) refl refl
      (ap (λ (i : Item). i.number) same) (later-fewer from (own.number + 1) items (omega (arith, reached)))
  | inr later ↦ behind (nat_le from item.number) (nat_le (own.number + 1) item.number) refl refl
      (passed-fewer from items own later reached)
]
  where
    counted : Bool → List Item → ℕ
    counted counts rest = length (cond counts (item ∷ rest) rest)

    passed : List Item
    passed = filter (λ other. nat_le (own.number + 1) other.number) items

    all : List Item
    all = filter (λ other. nat_le from other.number) items

    here : (may now : Bool) → nat_le from item.number ≡ may → nat_le (own.number + 1) item.number ≡ now
        → item.number ≡ own.number → length passed ≤ length all → counted now passed + 1 ≤ counted may all
    here true false is past same rest = omega (arith, rest)
    here true true is past same rest = absurd (beyond past)
      where
        beyond : nat_le (own.number + 1) item.number ≡ true → ⊥
        beyond on = grind (arith, nat_tests, same)
    here false now is past same rest = absurd (below is)
      where
        below : nat_le from item.number ≡ false → ⊥
        below off = grind (arith, nat_tests, same, reached)

    behind : (may now : Bool) → nat_le from item.number ≡ may → nat_le (own.number + 1) item.number ≡ now
        → length passed + 1 ≤ length all → counted now passed + 1 ≤ counted may all
    behind true true is past rest = omega (arith, rest)
    behind true false is past rest = omega (arith, rest)
    behind false false is past rest = omega (arith, rest)
    behind false true is past rest = absurd (both is past)
      where
        both : nat_le from item.number ≡ false → nat_le (own.number + 1) item.number ≡ true → ⊥
        both off on = grind (arith, nat_tests, reached)

-- what is left once more is listed
more-many : (next : ℕ) (drops : List Blob) (done : Bool) (owed : Owed)
    → count_from (with_more done (more_owed owed next drops) owed).from
    (with_more done (more_owed owed next drops) owed).items
    ≤ count_from owed.from owed.items + length (cond done drops [])
more-many next [] true owed = omega arith
more-many next [] false owed = omega arith
more-many next (blob ∷ blobs) false owed = omega arith
more-many next (blob ∷ blobs) true owed =
    let parts = ap length (filter-append (λ (item : Item). nat_le owed.from item.number) owed.items
    (items_from next (blob ∷ blobs))) in
    let sum = length-append (filter (λ (item : Item). nat_le owed.from item.number) owed.items)
    (filter (λ (item : Item). nat_le owed.from item.number) (items_from next (blob ∷ blobs))) in
    let kept = length-filter (λ (item : Item). nat_le owed.from item.number) (items_from next (blob ∷ blobs)) in
    let few = count_by-le-length (λ (item : Item). nat_le owed.from item.number) (items_from next (blob ∷ blobs)) in
    let many = items-many next (blob ∷ blobs) in
    omega (arith, parts, sum, kept, few, many)

-- what a call deletes was still to be tried
abbrev pub TriesOwn : Call → Owed → Type 0
TriesOwn (Delete item tells) owed =
    (own : Item) × Contains owed.items own × (item.number ≡ own.number) × (owed.from ≤ own.number)
TriesOwn call owed = Unit {0}

-- of what a command owes no more is left than it owed and what the call dropped, and a delete is one less
pub owes-after : (places : NamedPlaces) (next : ℕ) (call : Call) (done : Bool) (owed : Owed) → TriesOwn call owed
    → count_from (owed_after places next call done owed).from (owed_after places next call done owed).items
    + (cost_of None call).deletes ≤ count_from owed.from owed.items + length (cond done (drops_of places call) [])
owes-after places next (Delete item tells) done owed tries = by done
  where
    less : count_from (item.number + 1) owed.items + 1 ≤ count_from owed.from owed.items
    less = subst (λ number. count_from (number + 1) owed.items + 1 ≤ count_from owed.from owed.items) (sym tries.2)
        (passed-fewer owed.from owed.items tries.0 tries.1 tries.3)

    by : (done : Bool) → count_from (owed_after places next (Delete item tells) done owed).from
        (owed_after places next (Delete item tells) done owed).items + 1
        ≤ count_from owed.from owed.items + length (cond done (drops_of places (Delete item tells)) [])
    by true = omega (arith, less)
    by false = omega (arith, less)
owes-after places next (Op user op names) done owed tries =
    let many = more-many next (dropped places user op) done owed in omega (arith, many)
owes-after places next Sync done owed tries = let many = more-many next [] done owed in omega (arith, many)
owes-after places next ListCall done owed tries = let many = more-many next [] done owed in omega (arith, many)
owes-after places next (Read place) done owed tries = let many = more-many next [] done owed in omega (arith, many)
owes-after places next (Generate tag app_id) done owed tries = let many = more-many next [] done owed in omega
    (arith, many)
owes-after places next (Encrypt blob app_id nonce key) done owed tries = let many = more-many next [] done owed in
    omega (arith, many)
owes-after places next (Decrypt blob app_id text) done owed tries = let many = more-many next [] done owed in omega
    (arith, many)
owes-after places next Entries done owed tries = let many = more-many next [] done owed in omega (arith, many)
owes-after places next (Add user class key) done owed tries = let many = more-many next [] done owed in omega
    (arith, many)
owes-after places next (Remove user class) done owed tries = let many = more-many next [] done owed in omega
    (arith, many)
