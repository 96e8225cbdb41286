-- Entries by their numbers as a store: what is found, what an addition and a removal leave, and that they stay so.
use Rattle.std.proofs.Common.{◌≡◌, ℕ, ◌+◌, ◌<◌, ◌≤◌, ◌^◌, Bool, true, false, not, cond, List, [], ◌∷◌, ◌++◌, refl}
use Rattle.std.proofs.Common.{sym, ap, ◌∙◌, subst, arith}
use Rattle.std.specs.Prelude.{Some, None}
use Rattle.std.specs.declared.cmp.Ordering.TheVariants.{Less, Equal, Greater}
use Rattle.std.specs.Ordering.{nat_cmp, eq_by_cmp}
use Rattle.std.specs.Cmp.{nat_cmp_total}
use Rattle.std.specs.FinMap as map
use Rattle.std.specs.FinMap.{nat_cmp-IsAntisymmetric, from_sorted, same_entries_map, entries_sorted}
use Rattle.std.specs.FinMap.Entries.{find, put, by_order}
use Rattle.std.proofs.lemmas.Cmp.{ranked}
use Rattle.tree_model.proofs.Logic.{true_from_T}
use Rattle.tree_model.specs.declared.blobs.Blob.{Blob}
use Rattle.sorted_map.specs.Rows.{values, IsSorted, without as rows_without}
use Rattle.sorted_map.proofs.Places.{sorted-without}
use Rattle.sorted_map.proofs.Rows.{entries-rows, remove-rows}
use Rattle.sorted_map.proofs.Maps.{entries-empty}
use Rattle.keystore_model.specs.declared.entry.Tag.{Tag}
use Rattle.keystore_model.specs.declared.entry.StoreEntry.{StoreEntry}
use Rattle.keystore_model.specs.Store.{IsStore, same_bytes, entry_of, without}
use Rattle.keystore_model.specs.Store.{empty_store, new_entry, generated, deleted}
use Rattle.keystore_model.proofs.Stores.{bytes-apart, after-generate, after-delete, store-empty, store-at_level}
use Rattle.keystore_memory.specs.Format.{blob_of_number, key_of_number, first_blobs}
use Rattle.keystore_memory.specs.Format.{IsNumberOf, IsNoNumber, next_blob, numbered}
use Rattle.keystore_memory.specs.Kept.{store_of, IsRow, AllRows, IsKept}
use Rattle.keystore_memory.proofs.BlobNumbers.{same-number, next-fresh, length-first, first-more}

module _ (next : ℕ) (few : next ≤ 2 ^ 63) where
  row-same : (row : ℕ × StoreEntry) → IsRow next row → (n : ℕ) → n < 2 ^ 64
      → same_bytes (blob_of_number n) row.1.blob ≡ eq_by_cmp nat_cmp n row.0
  row-same row is n small =
      ap (same_bytes (blob_of_number n)) is.blob ∙ same-number n row.0 small (omega (arith, few, is.below))

  row-other : (row : ℕ × StoreEntry) → IsRow next row → (blob : Blob) → IsNoNumber blob
      → same_bytes blob row.1.blob ≡ false
  row-other row is blob none =
      bytes-apart blob row.1.blob (λ e. none row.0 (omega (arith, few, is.below)) (e ∙ is.blob))

  -- the entry of a number's blob is that of the number
  entry-row : (rows : List (ℕ × StoreEntry)) → AllRows next rows → (n : ℕ) → n < 2 ^ 64
      → entry_of (values rows) (blob_of_number n) ≡ find nat_cmp n rows
  entry-row [] all n small = refl
  entry-row (row ∷ rows) all n small =
      ap (λ t. cond t (Some row.1) (entry_of (values rows) (blob_of_number n))) (row-same row all.0 n small)
      ∙ ap (λ found. cond (eq_by_cmp nat_cmp n row.0) (Some row.1) found) (entry-row rows all.1 n small)

  -- the blob of no number has no entry
  entry-none : (rows : List (ℕ × StoreEntry)) → AllRows next rows → (blob : Blob) → IsNoNumber blob
      → entry_of (values rows) blob ≡ None
  entry-none [] all blob none = refl
  entry-none (row ∷ rows) all blob none =
      ap (λ t. cond t (Some row.1) (entry_of (values rows) blob)) (row-other row all.0 blob none)
      ∙ entry-none rows all.1 blob none

  values-kept : (t : Bool) (row : ℕ × StoreEntry) (rows : List (ℕ × StoreEntry))
      → values (cond t (row ∷ rows) rows) ≡ cond t (row.1 ∷ values rows) (values rows)
  values-kept true row rows = refl
  values-kept false row rows = refl

  -- without the entry of a number's blob are those of the other numbers
  without-row : (rows : List (ℕ × StoreEntry)) → AllRows next rows → (n : ℕ) → n < 2 ^ 64
      → values (rows_without nat_cmp n rows) ≡ without (values rows) (blob_of_number n)
  without-row [] all n small = refl
  without-row (row ∷ rows) all n small =
      values-kept (not (eq_by_cmp nat_cmp n row.0)) row (rows_without nat_cmp n rows)
      ∙ ap (λ kept. cond (not (eq_by_cmp nat_cmp n row.0)) (row.1 ∷ kept) kept) (without-row rows all.1 n small)
      ∙ ap (λ t. cond (not t) (row.1 ∷ without (values rows) (blob_of_number n))
      (without (values rows) (blob_of_number n))) (sym (row-same row all.0 n small))

  -- without that of the blob of no number are all
  without-none : (rows : List (ℕ × StoreEntry)) → AllRows next rows → (blob : Blob) → IsNoNumber blob
      → without (values rows) blob ≡ values rows
  without-none [] all blob none = refl
  without-none (row ∷ rows) all blob none =
      ap (λ t. cond (not t) (row.1 ∷ without (values rows) blob) (without (values rows) blob))
      (row-other row all.0 blob none)
      ∙ ap (λ kept. row.1 ∷ kept) (without-none rows all.1 blob none)

all-without : (next n : ℕ) (rows : List (ℕ × StoreEntry)) → AllRows next rows
    → AllRows next (rows_without nat_cmp n rows)
all-without next n [] all = tt
all-without next n (row ∷ rows) all =
    elim (not (eq_by_cmp nat_cmp n row.0)) as (λ t. AllRows next
    (cond t (row ∷ rows_without nat_cmp n rows) (rows_without nat_cmp n rows))) [
      | true ↦ (all.0, all-without next n rows all.1)
      | false ↦ all-without next n rows all.1
    ]

all-push : (next : ℕ) (rows : List (ℕ × StoreEntry)) (row : ℕ × StoreEntry) → AllRows next rows → IsRow (next + 1) row
    → AllRows (next + 1) (rows ++ row ∷ [])
all-push next [] row all is = (is, tt)
all-push next (first ∷ rows) row all is = (
  record { below = omega (arith, all.0.below); blob = all.0.blob; key = all.0.key },
  all-push next rows row all.1 is,
)

above : (a b : ℕ) → b < a → nat_cmp a b ≡ Greater
above a b less = elim (nat_cmp a b) as (λ r. r ≡ nat_cmp a b → r ≡ Greater) [
  | Less ↦ λ e. absurd (omega (arith, less, ranked a b Less e))
  | Equal ↦ λ e. absurd (omega (arith, less, ranked a b Equal e))
  | Greater ↦ λ e. refl
] refl

-- the entry of the next number comes last
put-last : (next : ℕ) (entry : StoreEntry) (rows : List (ℕ × StoreEntry)) → AllRows next rows
    → put nat_cmp next entry rows ≡ rows ++ (next, entry) ∷ []
put-last next entry [] all = refl
put-last next entry (row ∷ rows) all =
    ap (λ r. by_order r ((next, entry) ∷ row ∷ rows) ((row.0, entry) ∷ rows) (row ∷ put nat_cmp next entry rows))
    (above next row.0 all.0.below)
    ∙ ap (λ others. row ∷ others) (put-last next entry rows all.1)

values-append : (rows : List (ℕ × StoreEntry)) (row : ℕ × StoreEntry)
    → values (rows ++ row ∷ []) ≡ values rows ++ row.1 ∷ []
values-append [] row = refl
values-append (first ∷ rows) row = ap (λ others. first.1 ∷ others) (values-append rows row)

entries-remove : {V : Type 0} (m : map.FinMap nat_cmp V) (n : ℕ)
    → map.entries (map.remove m n) ≡ rows_without nat_cmp n (map.entries m)
entries-remove m n =
    let rows = map.entries m in
    let sorted : IsSorted nat_cmp rows = true_from_T _ (entries_sorted m) in
    let same = same_entries_map (from_sorted {R = nat_cmp} rows) m
    (map.entries-from_sorted nat_cmp rows (entries_sorted m)) in
    ap (λ held. map.entries (map.remove held n)) (sym same)
    ∙ ap map.entries (sym (remove-rows nat_cmp_total rows sorted nat_cmp-IsAntisymmetric n))
    ∙ entries-rows nat_cmp (rows_without nat_cmp n rows) (sorted-without nat_cmp_total n rows sorted)

pub store-none : (rows : map.FinMap nat_cmp StoreEntry) (level : ℕ) → rows ≡ map.empty
    → store_of rows 0 level ≡ empty_store level
store-none rows level none =
    ap (λ entries. record { entries = values entries; given = []; level = level })
    (ap map.entries none ∙ entries-empty nat_cmp)

pub kept-none : (rows : map.FinMap nat_cmp StoreEntry) (level : ℕ) → rows ≡ map.empty → IsKept rows 0 level
kept-none rows level none = record {
  few = omega arith;
  each = subst (AllRows 0) (sym (ap map.entries none ∙ entries-empty nat_cmp)) tt;
  whole = subst IsStore (sym (store-none rows level none)) (store-empty level);
}

module _ {rows : map.FinMap nat_cmp StoreEntry} {next level : ℕ} (kept : IsKept rows next level) where
  -- look-ups
  pub found-row : (blob : Blob) (n : ℕ) → IsNumberOf blob n
      → map.get rows n ≡ entry_of (store_of rows next level).entries blob
  found-row blob n is = map.get-entries rows n ∙ sym (entry-row next kept.few (map.entries rows) kept.each n is.small)
      ∙ ap (entry_of (map.values rows)) (sym is.is)

  pub found-none : (blob : Blob) → IsNoNumber blob → None ≡ entry_of (store_of rows next level).entries blob
  found-none blob none = sym (entry-none next kept.few (map.entries rows) kept.each blob none)

  pub blob-added : blob_of_number next ≡ next_blob (store_of rows next level)
  blob-added = ap blob_of_number (sym (length-first next))

  -- a further entry
  module _ (tag : Tag) (app_id : List ℕ) (small : next < 2 ^ 63) where
    abbrev pub added : StoreEntry
    added = new_entry (store_of rows next level) (blob_of_number next) tag app_id (key_of_number next)

    entries-added : map.entries (map.insert rows next added) ≡ map.entries rows ++ (next, added) ∷ []
    entries-added =
        map.entries-insert nat_cmp_total rows next added ∙ put-last next added (map.entries rows) kept.each

    store-generated : store_of (map.insert rows next added) (next + 1) level
        ≡ generated (store_of rows next level) (blob_of_number next) tag app_id (key_of_number next)
    store-generated =
        ap (λ given. record { entries = map.values (map.insert rows next added); given = given; level = level })
        (first-more next)
        ∙ ap (λ entries.
        record { entries = entries; given = first_blobs next ++ blob_of_number next ∷ []; level = level })
        (ap values entries-added ∙ values-append (map.entries rows) (next, added))

    pub store-added : store_of (map.insert rows next added) (next + 1) level
        ≡ numbered (store_of rows next level) tag app_id
    store-added = store-generated
        ∙ ap (λ n. generated (store_of rows next level) (blob_of_number n) tag app_id (key_of_number n))
        (sym (length-first next))

    pub kept-added : IsKept (map.insert rows next added) (next + 1) level
    kept-added = record {
      few = omega (arith, small);
      each = subst (AllRows (next + 1)) (sym entries-added)
          (all-push next (map.entries rows) (next, added) kept.each
          (record { below = omega arith; blob = refl; key = refl }));
      whole = subst IsStore (sym store-generated)
          (after-generate (store_of rows next level) (blob_of_number next) tag app_id (key_of_number next) kept.whole
          (next-fresh next small)).whole;
    }

  -- an entry less
  pub store-removed : (blob : Blob) (n : ℕ) → IsNumberOf blob n
      → store_of (map.remove rows n) next level ≡ deleted (store_of rows next level) blob
  store-removed blob n is =
      ap (λ entries. record { entries = entries; given = first_blobs next; level = level })
      (ap values (entries-remove rows n) ∙ without-row next kept.few (map.entries rows) kept.each n is.small
      ∙ ap (without (map.values rows)) (sym is.is))

  pub kept-removed : (blob : Blob) (n : ℕ) → IsNumberOf blob n → IsKept (map.remove rows n) next level
  kept-removed blob n is = record {
    few = kept.few;
    each = subst (AllRows next) (sym (entries-remove rows n)) (all-without next n (map.entries rows) kept.each);
    whole =
        subst IsStore (sym (store-removed blob n is)) (after-delete (store_of rows next level) blob kept.whole).whole;
  }

  pub store-unnumbered : (blob : Blob) → IsNoNumber blob
      → store_of rows next level ≡ deleted (store_of rows next level) blob
  store-unnumbered blob none =
      ap (λ entries. record { entries = entries; given = first_blobs next; level = level })
      (sym (without-none next kept.few (map.entries rows) kept.each blob none))

  pub kept-level : (other : ℕ) → IsKept rows next other
  kept-level other =
      record { few = kept.few; each = kept.each; whole = store-at_level (store_of rows next level) other kept.whole }
