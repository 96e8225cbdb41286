-- A user's slots as rows in their order: where a slot stands or belongs among them, the map that they make with a slot
-- more or less, and the map of users with the user's record put back.
use Rattle.std.proofs.Common.{◌≡◌, ℕ, zero, suc, List, [], ◌∷◌, length, get_or, set, refl, sym, ap, ◌∙◌, subst, arith}
use Rattle.std.specs.Prelude.{Some, None, Result, Ok, Err, IfOk, IfErr}
use Rattle.std.specs.declared.cmp.Ordering.{Ordering}
use Rattle.std.specs.declared.cmp.Ordering.TheVariants.{Less, Equal, Greater}
use Rattle.std.specs.Cmp.{nat_cmp_total}
use Rattle.std.specs.Ordering.{ordering_index, ordering_reverse}
use Rattle.std.specs.FinMap as map
use Rattle.std.specs.FinMap.{from_sorted, nat_cmp-IsAntisymmetric}
use Rattle.std.specs.FinMap.Entries.{find, put, by_order}
use Rattle.std.specs.List.{insert, remove, zip}
use Rattle.std.specs.List.Sorted.{IsSearchInRange, IsBinarySearchResult, IsStrictlySortedBy}
use Rattle.std.proofs.Math.ListN.{get_or-map}
use Rattle.std.proofs.lemmas.List.{length-map}
use Rattle.tree_model.specs.declared.places.Slot.{Slot}
use Rattle.tree_model.specs.declared.places.Slot.TheVariants.{Current}
use Rattle.tree_model.specs.Order.{slot_cmp, slot_total, slot_exact}
use Rattle.tree_model.proofs.Maps.{insert-remove, remove_absent}
use Rattle.sorted_map.specs.Rows.{keys, values, without, IsSorted, StandsAt, BelongsAt}
use Rattle.sorted_map.proofs.Held.{nothing-held}
use Rattle.sorted_map.proofs.Maps.{aligned-columns}
use Rattle.sorted_map.proofs.Places.{placed, rising, found, find-belongs, without-stands, sorted-put, sorted-without}
use Rattle.sorted_map.proofs.Rows.{get-rows, insert-rows, remove-rows, keys-rows}
use Rattle.journal_model.specs.Users.{Secrets, Record, Users, new_secrets, without_slot, moved_from, settled_slot}
use Rattle.journal_model.specs.Users.{edited, with_record, with_edit}

abbrev Rows : Type 0
Rows = List (Slot × List ℕ)

-- the one slot of a new user
pub new_secrets-rows : (rows : Rows) → rows ≡ (Current, []) ∷ [] → from_sorted {R = slot_cmp} rows ≡ new_secrets
new_secrets-rows rows is = ap (from_sorted {R = slot_cmp}) is ∙ insert-rows slot_total [] refl Current []
    ∙ ap (λ (secrets : Secrets). map.insert secrets Current []) (nothing-held slot_cmp [] [] refl)

module _ (slot : Slot) where
  -- how a row's slot compares with the slot
  order-at : (rows : Rows) (i : ℕ) (row : Slot × List ℕ)
      → slot_cmp (get_or (keys rows) i row.0) slot ≡ slot_cmp (get_or rows i row).0 slot
  order-at rows i row = ap (λ other. slot_cmp other slot) (get_or-map (λ row. row.0) rows i row)

  -- a search in the rows is one in their slots
  searched : (rows : Rows) (r : Result ℕ ℕ) → IsBinarySearchResult (λ row. slot_cmp row.0 slot) rows r
      → IsBinarySearchResult (λ other. slot_cmp other slot) (keys rows) r
  searched rows (Ok i) tie = λ d. order-at rows i (d, []) ∙ tie (d, [])
  searched rows (Err i) parted = λ rise.
      let many = length-map rows (λ row. row.0) in
      let apart = parted (λ j k row before within.
      let lower = ap ordering_index (order-at rows j row) in
      let upper = ap ordering_index (order-at rows k row) in
      omega (arith, lower, upper, rise j k row.0 before (omega (arith, many, within)))) in (
        λ k d from below. order-at rows k (d, []) ∙ apart.0 k (d, []) from below,
        λ k d from below. order-at rows k (d, []) ∙ apart.1 k (d, []) from (omega (arith, many, below)),
      )

  -- where a search in the rows ends
  pub placed-rows : (rows : Rows) (r : Result ℕ ℕ) → IsSorted slot_cmp rows → IsSearchInRange r (length rows)
      → IsBinarySearchResult (λ row. slot_cmp row.0 slot) rows r
      → IfOk r (StandsAt slot_cmp slot (keys rows)) × IfErr r (BelongsAt slot_cmp slot (keys rows))
  placed-rows rows r sorted within found =
      placed slot_total slot (keys rows) r
      (subst (IsStrictlySortedBy slot_cmp) (keys-rows slot_cmp rows sorted)
      (rising (aligned-columns (from_sorted {R = slot_cmp} rows))))
      (subst (IsSearchInRange r) (sym (length-map rows (λ row. row.0))) within)
      (searched rows r found)

  module _ (secret : List ℕ) where
    -- the slot put among rows, by how it compares with the first
    put-first : (row : Slot × List ℕ) (rows : Rows) (r : Ordering) → slot_cmp row.0 slot ≡ r
        → put slot_cmp slot secret (row ∷ rows)
        ≡ by_order (ordering_reverse r) ((slot, secret) ∷ row ∷ rows) ((row.0, secret) ∷ rows)
        (row ∷ put slot_cmp slot secret rows)
    put-first row rows r is =
        ap (λ order. by_order order ((slot, secret) ∷ row ∷ rows) ((row.0, secret) ∷ rows)
        (row ∷ put slot_cmp slot secret rows)) (slot_total.antisymm slot row.0 ∙ ap ordering_reverse is)

    pub put-stands : (rows : Rows) (i : ℕ) → StandsAt slot_cmp slot (keys rows) i
        → set rows i (slot, secret) ≡ put slot_cmp slot secret rows
    put-stands [] i there = absurd there
    put-stands (row ∷ rows) zero there =
        sym (put-first row rows Equal there.0
        ∙ ap (λ own. (own, secret) ∷ rows) (slot_exact row.0 slot there.0))
    put-stands (row ∷ rows) (suc i) there =
        ap (λ rest. row ∷ rest) (put-stands rows i there.1) ∙ sym (put-first row rows Less there.0)

    pub put-belongs : (rows : Rows) (i : ℕ) → BelongsAt slot_cmp slot (keys rows) i
        → insert rows i (slot, secret) ≡ put slot_cmp slot secret rows
    put-belongs [] zero absent = refl
    put-belongs [] (suc i) absent = absurd absent
    put-belongs (row ∷ rows) zero absent = sym (put-first row rows Greater absent.0)
    put-belongs (row ∷ rows) (suc i) absent =
        ap (λ rest. row ∷ rest) (put-belongs rows i absent.1) ∙ sym (put-first row rows Less absent.0)

    -- rows with the slot put in are in their order, and make the map with the slot
    module _ (rows edited : Rows) (sorted : IsSorted slot_cmp rows)
        (is : edited ≡ put slot_cmp slot secret rows) where
      pub edited-sorted : IsSorted slot_cmp edited
      edited-sorted = subst (IsSorted slot_cmp) (sym is) (sorted-put slot_total slot secret rows sorted)

      pub edited-rows : from_sorted {R = slot_cmp} edited ≡ map.insert (from_sorted {R = slot_cmp} rows) slot secret
      edited-rows = ap (from_sorted {R = slot_cmp}) is ∙ insert-rows slot_total rows sorted slot secret

-- rows are their slots beside their secrets, and so are those that are left with one taken out
zip-rows : (rows : Rows) → zip (keys rows) (values rows) ≡ rows
zip-rows [] = refl
zip-rows (row ∷ rows) = ap (λ rest. row ∷ rest) (zip-rows rows)

zip-left : (rows : Rows) (i : ℕ) → zip (remove (keys rows) i) (remove (values rows) i) ≡ remove rows i
zip-left [] zero = refl
zip-left [] (suc i) = refl
zip-left (row ∷ rows) zero = zip-rows rows
zip-left (row ∷ rows) (suc i) = ap (λ rest. row ∷ rest) (zip-left rows i)

module _ (slot : Slot) (rows : Rows) (sorted : IsSorted slot_cmp rows) (i : ℕ) where
  same-length : length (values rows) ≡ length (keys rows)
  same-length = length-map rows (λ row. row.1) ∙ sym (length-map rows (λ row. row.0))

  -- the slot isn't there
  pub absent-secret : BelongsAt slot_cmp slot (keys rows) i → None ≡ map.get (from_sorted {R = slot_cmp} rows) slot
  absent-secret absent = sym (get-rows slot_cmp rows sorted slot
      ∙ ap (find slot_cmp slot) (sym (zip-rows rows))
      ∙ find-belongs slot_total slot (keys rows) (values rows) i absent)

  -- the slot is taken out
  module _ (there : StandsAt slot_cmp slot (keys rows) i) where
    pub taken-secret : (row : Slot × List ℕ) → row ≡ get_or rows i row
        → Some row.1 ≡ map.get (from_sorted {R = slot_cmp} rows) slot
    taken-secret row is =
        found slot_total slot (keys rows) (values rows) i row.1 there same-length
        (ap (λ read. read.1) is ∙ sym (get_or-map (λ row. row.1) rows i row))
        ∙ ap (find slot_cmp slot) (zip-rows rows) ∙ sym (get-rows slot_cmp rows sorted slot)

    left-without : remove rows i ≡ without slot_cmp slot rows
    left-without = sym (ap (without slot_cmp slot) (sym (zip-rows rows))
        ∙ without-stands slot_total slot (keys rows) (values rows) i there same-length ∙ zip-left rows i)

    module _ (left : Rows) (is : left ≡ remove rows i) where
      pub left-sorted : IsSorted slot_cmp left
      left-sorted =
          subst (IsSorted slot_cmp) (sym (is ∙ left-without)) (sorted-without slot_total slot rows sorted)

      pub left-rows : from_sorted {R = slot_cmp} left ≡ map.remove (from_sorted {R = slot_cmp} rows) slot
      left-rows = ap (from_sorted {R = slot_cmp}) (is ∙ left-without)
          ∙ remove-rows slot_total rows sorted slot_exact slot

-- a record without a slot that it doesn't have, and with such a slot settled
module _ (known : Record) (slot : Slot) (none : None ≡ map.get known.secrets slot) where
  pub without-nowhere : known ≡ without_slot known slot
  without-nowhere = ap (λ (secrets : Secrets). record known { secrets = secrets })
      (sym (remove_absent slot_total slot_exact known.secrets slot (sym none)))

  pub settled-nowhere : known ≡ settled_slot known slot
  settled-nowhere = ap (λ found. record known { secrets = moved_from known.secrets slot found }) none

-- a user's record is taken out of the map of users, and put back as edited
module _ (users without : Users) (user : ℕ) (edit : Record → Record) (is : without ≡ map.remove users user) where
  pub edited-back : (known after : Record) → Some known ≡ map.get users user → after ≡ edit known
      → map.insert without user after ≡ with_edit users user edit
  edited-back known after there more =
      (λ i. map.insert (is i) user (more i))
      ∙ insert-remove nat_cmp_total nat_cmp-IsAntisymmetric users user (edit known)
      ∙ ap (λ found. with_record users user (edited found edit)) there

  pub edited-nowhere : None ≡ map.get users user → without ≡ with_edit users user edit
  edited-nowhere none = is ∙ remove_absent nat_cmp_total nat_cmp-IsAntisymmetric users user (sym none)
      ∙ ap (λ found. with_record users user (edited found edit)) none
