-- A list that gets the blobs of rows, one after the other, and what it is once all have come.
use Rattle.std.proofs.Common.{◌≡◌, ◌<◌, ◌+◌, ◌-◌, ℕ, Bool, true, false, not, cond, List, [], ◌∷◌, ◌++◌, length}
use Rattle.std.proofs.Common.{get_or, take, map, refl, sym, ap, ◌∙◌, subst, arith, length-append}
use Rattle.std.specs.List.{filter}
use Rattle.std.proofs.lemmas.List.{append-nil, map-append, length-map, take_more}
use Rattle.std.proofs.lemmas.List.Elements.{filter-append}
use Rattle.std.proofs.lemmas.Simd.{map-map}
use Rattle.tree_model.specs.declared.blobs.Blob.{Blob}
use Rattle.deferred_delete.specs.Deferral.{Deferral, pushed}
use Rattle.keystore_model.specs.declared.entry.StoreEntry.{StoreEntry}
use Rattle.keystore_model.specs.declared.entry.Tag.{Tag}
use Rattle.keystore_model.specs.Store.{Store, blobs_of, listed as entries_of}
use Rattle.blob_custody.specs.Steps.{pushed_all}
use Rattle.step_core.specs.Table.{NamedPlaces}
use Rattle.bench.specs.Bench.{AreUnnamed, listed, listed_as}
use Rattle.bench.specs.Steps.{AreNamed, is_among, unnamed, with_rows}
use Rattle.bench.proofs.Named.{are-unnamed}

pub pushed_all-promised : (list : Deferral) (blobs : List Blob) (synced : Bool)
    → (pushed_all list blobs synced).promised ≡ list.promised - length blobs
pushed_all-promised list [] synced = omega arith
pushed_all-promised list (blob ∷ blobs) synced =
    let rest = pushed_all-promised (pushed list blob synced) blobs synced in omega (arith, rest)

pushed_all-last : (list : Deferral) (blobs : List Blob) (blob : Blob) (synced : Bool)
    → pushed_all list (blobs ++ blob ∷ []) synced ≡ pushed (pushed_all list blobs synced) blob synced
pushed_all-last list [] blob synced = refl
pushed_all-last list (first ∷ blobs) blob synced = pushed_all-last (pushed list first synced) blobs blob synced

-- a place is used for each
pushed_all-uses : (list : Deferral) (blobs : List Blob) (synced : Bool) (left : ℕ)
    → pushed_all (record list { promised = left + length blobs }) blobs synced
    ≡ record (pushed_all (record list { promised = 0 }) blobs synced) { promised = left }
pushed_all-uses list [] synced left = ap (λ n. record list { promised = n }) (omega arith)
pushed_all-uses list (blob ∷ blobs) synced left =
    let one : (left + length (blob ∷ blobs)) - 1 ≡ left + length blobs = omega arith in
    ap (λ n. pushed_all (record (pushed (record list { promised = 0 }) blob synced) { promised = n }) blobs synced) one
    ∙ pushed_all-uses (pushed (record list { promised = 0 }) blob synced) blobs synced left

-- a list that gets nothing stays as it is
pub listed_as-nothing : (synced : Bool) (list : Deferral) → listed_as synced list [] ≡ list
listed_as-nothing synced list = ap (λ n. record list { promised = n }) (omega arith)

-- one more of the blobs
pub pushed_all-more : (list before after : Deferral) (blobs : List Blob) (synced : Bool) (i : ℕ) (default : Blob)
    → i < length blobs → before ≡ pushed_all list (take i blobs) synced
    → after ≡ pushed before (get_or blobs i default) synced → after ≡ pushed_all list (take (i + 1) blobs) synced
pushed_all-more list before after blobs synced i default within so_far push =
    push ∙ ap (λ (l : Deferral). pushed l (get_or blobs i default) synced) so_far
    ∙ sym (pushed_all-last list (take i blobs) (get_or blobs i default) synced)
    ∙ sym (ap (λ some. pushed_all list some synced) (take_more blobs i default within))

module _ (named : List Blob) (rows : List (Blob × Tag)) (row : Blob × Tag) where
  unnamed-last : (found : Bool) → is_among named row.0 ≡ found
      → unnamed named (rows ++ row ∷ []) ≡ unnamed named rows ++ cond (not found) (row.0 ∷ []) []
  unnamed-last found is =
      ap (filter (λ blob. not (is_among named blob))) (map-append (λ (r : Blob × Tag). r.0) rows (row ∷ []))
      ∙ filter-append (λ blob. not (is_among named blob)) (map (λ (r : Blob × Tag). r.0) rows) (row.0 ∷ [])
      ∙ ap (λ f. unnamed named rows ++ cond (not f) (row.0 ∷ []) []) is

module _ (list : Deferral) (named : List Blob) (rows : List (Blob × Tag)) (i : ℕ) (row : Blob × Tag)
    (within : i < length rows) (at : row ≡ get_or rows i row) where
  abbrev done : List (Blob × Tag)
  done = take i rows

  one-more : done ++ row ∷ [] ≡ take (i + 1) rows
  one-more = ap (λ r. done ++ r ∷ []) at ∙ sym (take_more rows i row within)

  one-less : (list.promised - length done) - 1 ≡ list.promised - length (done ++ row ∷ [])
  one-less = omega (arith, length-append done (row ∷ []))

  module _ (before after : Deferral) (so_far : before ≡ with_rows list named done) where
    -- a row whose blob is named
    pub row-named : is_among named row.0 ≡ true → after ≡ record before { promised = before.promised - 1 }
        → after ≡ with_rows list named (take (i + 1) rows)
    row-named is back =
        back ∙ ap (λ (l : Deferral). record l { promised = l.promised - 1 }) so_far
        ∙ (λ j. record (pushed_all (record list { promised = 0 }) (same j) true) { promised = one-less j })
        ∙ ap (with_rows list named) one-more
      where
        same : unnamed named done ≡ unnamed named (done ++ row ∷ [])
        same = sym (unnamed-last named done row true is ∙ append-nil (unnamed named done))

    -- and one whose blob isn't
    pub row-unnamed : is_among named row.0 ≡ false → after ≡ pushed before row.0 true
        → after ≡ with_rows list named (take (i + 1) rows)
    row-unnamed is push =
        push ∙ ap (λ (l : Deferral). pushed l row.0 true) so_far
        ∙ (λ j. record (last j) { promised = one-less j })
        ∙ ap (with_rows list named) one-more
      where
        last : pushed (pushed_all (record list { promised = 0 }) (unnamed named done) true) row.0 true
            ≡ pushed_all (record list { promised = 0 }) (unnamed named (done ++ row ∷ [])) true
        last = sym (ap (λ blobs. pushed_all (record list { promised = 0 }) blobs true)
            (unnamed-last named done row false is)
            ∙ pushed_all-last (record list { promised = 0 }) (unnamed named done) row.0 true)

module _ (list : Deferral) (store : Store) (named : List Blob) (rows : List (Blob × Tag))
    (is : rows ≡ entries_of store) where
  -- the list once all rows have come, for each of which there was a place
  pub listed-rows : (reserved after : Deferral) (count : ℕ) → count ≡ length store.entries
      → reserved ≡ record list { promised = list.promised + count } → after ≡ with_rows reserved named rows
      → after ≡ listed list (unnamed named rows)
  listed-rows reserved after count counted reserve rowed =
      rowed ∙ ap (λ l. with_rows l named rows) reserve
      ∙ ap (λ n. record (pushed_all (record list { promised = 0 }) (unnamed named rows) true) { promised = n }) left
      ∙ sym (pushed_all-uses list (unnamed named rows) true list.promised)
    where
      long : length rows ≡ length store.entries
      long = ap length is ∙ length-map store.entries (λ (entry : StoreEntry). (entry.blob, entry.tag))

      left : (list.promised + count) - length rows ≡ list.promised
      left = omega (arith, long, counted)

  -- what was listed
  pub unnamed-rows : (places : NamedPlaces) → AreNamed places named
      → AreUnnamed places (blobs_of store.entries) (unnamed named rows)
  unnamed-rows places are =
      subst (λ blobs. AreUnnamed places blobs (unnamed named rows)) blobs_are
      (are-unnamed places named are (map (λ (r : Blob × Tag). r.0) rows))
    where
      blobs_are : map (λ (r : Blob × Tag). r.0) rows ≡ blobs_of store.entries
      blobs_are = ap (map (λ (r : Blob × Tag). r.0)) is
          ∙ map-map (λ (r : Blob × Tag). r.0) (λ (entry : StoreEntry). (entry.blob, entry.tag)) store.entries
