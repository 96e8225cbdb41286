-- What is printed of a keystore's entries, one after another.
use Rattle.std.proofs.Common.{◌≡◌, ◌≢◌, ℕ, zero, suc, ◌+◌, ◌<◌, ◌≤◌, List, [], ◌∷◌, ◌++◌, length, get_or, take, map}
use Rattle.std.proofs.Common.{cond, refl, sym, ap, ◌∙◌, subst, add-one, arith}
use Rattle.std.specs.Prelude.{Some, None, Contains}
use Rattle.std.proofs.lemmas.List.{length-map, take_all}
use Rattle.tree_model.specs.declared.blobs.Blob.{Blob}
use Rattle.tree_model.specs.Tree.{if_there}
use Rattle.keystore_model.specs.declared.entry.Tag.{Tag}
use Rattle.keystore_model.specs.declared.entry.StoreEntry.{StoreEntry}
use Rattle.keystore_model.specs.Store.{Store, IsStore, Differ, blobs_of, entry_of, level_at, listed}
use Rattle.keystore_model.proofs.Elements.{Contains-first, Contains-rest}
use Rattle.keystore_model.proofs.Stores.{bytes-same, bytes-apart}
use Rattle.script_text.specs.declared.keystore_lines.EntryRow.{EntryRow}
use Rattle.script_text.specs.Keystore.{row_of}

abbrev listed_in : List StoreEntry → List (Blob × Tag)
listed_in entries = map (λ entry. (entry.blob, entry.tag)) entries

abbrev rows_in : List StoreEntry → List EntryRow
rows_in entries = map row_of entries

-- what is printed of what is listed, with its level
abbrev pub row_with : Blob × Tag → ℕ → EntryRow
row_with listed level = record { blob = listed.0; level = level; tag = listed.1 }

-- an entry that is listed, found by its blob, and the rows up to it
record IsAt (entries : List StoreEntry) (i : ℕ) (found : Blob × Tag) : Type 0 where
  entry : StoreEntry
  is : found ≡ (entry.blob, entry.tag)
  there : Contains (blobs_of entries) entry.blob
  at : entry_of entries entry.blob ≡ Some entry
  rows : take (suc i) (rows_in entries) ≡ take i (rows_in entries) ++ row_of entry ∷ []

-- another entry in front is another blob's
behind : (first : StoreEntry) (entries : List StoreEntry) (entry : StoreEntry)
    → ¬ (Contains (blobs_of entries) first.blob) → Contains (blobs_of entries) entry.blob
    → entry_of (first ∷ entries) entry.blob ≡ entry_of entries entry.blob
behind first entries entry differ there =
    ap (λ t. cond t (Some first) (entry_of entries entry.blob))
    (bytes-apart entry.blob first.blob (λ same. differ (subst (Contains (blobs_of entries)) same there)))

entry-at : (entries : List StoreEntry) (i : ℕ) (other : Blob × Tag) → i < length (listed_in entries)
    → Differ (blobs_of entries) → IsAt entries i (get_or (listed_in entries) i other)
entry-at [] i other within differ = absurd (omega (arith, within))
entry-at (first ∷ entries) zero other within differ = record {
  entry = first;
  is = refl;
  there = Contains-first first.blob (blobs_of entries);
  at = ap (λ t. cond t (Some first) (entry_of entries first.blob)) (bytes-same first.blob);
  rows = refl;
}
entry-at (first ∷ entries) (suc i) other within differ =
    let it = entry-at entries i other (omega (arith, within)) differ.1 in
    record {
      entry = it.entry;
      is = it.is;
      there = Contains-rest first.blob (blobs_of entries) it.entry.blob it.there;
      at = behind first entries it.entry differ.0 it.there ∙ it.at;
      rows = ap (λ rows. row_of first ∷ rows) it.rows;
    }

module _ (store : Store) (whole : IsStore store) (entries : List (Blob × Tag)) (all : entries ≡ listed store)
    (i : ℕ) (found : Blob × Tag) (is : found ≡ get_or entries i found) (within : i < length entries) where
  at-here : IsAt store.entries i found
  at-here =
      subst (IsAt store.entries i) (sym (is ∙ ap (λ es. get_or es i found) all))
      (entry-at store.entries i found (subst (λ es. i < length es) all within) whole.differ)

  level-here : level_at store found.0 ≡ Some at-here.entry.level
  level-here =
      ap (level_at store) (ap (λ e. e.0) at-here.is)
      ∙ ap (λ found. if_there found None (λ entry. Some entry.level)) at-here.at

  -- each listed blob has an entry
  pub level-there : level_at store found.0 ≢ None
  level-there none = let never = sym level-here ∙ none in cc

  -- one more row
  pub row-more : (level : ℕ) → level_at store found.0 ≡ Some level → (rows rows' : List EntryRow)
      → rows ≡ take i (map row_of store.entries) → rows' ≡ rows ++ row_with found level ∷ []
      → rows' ≡ take (i + 1) (map row_of store.entries)
  row-more level at rows rows' before added =
      let same : level ≡ at-here.entry.level = let e = sym at ∙ level-here in cc in
      added
      ∙ ap (λ rs. rs ++ row_with found level ∷ []) before
      ∙ ap (λ row. take i (map row_of store.entries) ++ row ∷ [])
      (ap (row_with found) same ∙ ap (λ e. row_with e at-here.entry.level) at-here.is)
      ∙ sym at-here.rows
      ∙ ap (λ n. take n (map row_of store.entries)) (sym (add-one i))

-- every row
pub all-rows : (store : Store) (entries : List (Blob × Tag)) (i : ℕ) (rows : List EntryRow)
    → entries ≡ listed store → length entries ≤ i → rows ≡ take i (map row_of store.entries)
    → rows ≡ map row_of store.entries
all-rows store entries i rows all past so_far =
    let many = ap length all ∙ length-map store.entries (λ entry. (entry.blob, entry.tag)) in
    let count = length-map store.entries row_of in
    so_far ∙ take_all i (map row_of store.entries) (omega (arith, past, many, count))
