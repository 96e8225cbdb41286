-- Where a binary search ends among keys that rise, and what an edit at that place does to the rows.
use Rattle.std.proofs.Common.{◌≡◌, ℕ, zero, suc, ◌+◌, ◌<◌, ◌≤◌, true, cond, List, [], ◌∷◌}
use Rattle.std.proofs.Common.{length, get_or, set, refl, sym, ap, ◌∙◌, subst, arith}
use Rattle.std.specs.Prelude.{Some, None, Result, Ok, Err, IfOk, IfErr, slice_get, not, is_ok, is_some}
use Rattle.std.specs.declared.cmp.Ordering.{Ordering}
use Rattle.std.specs.declared.cmp.Ordering.TheVariants.{Less, Equal, Greater}
use Rattle.std.specs.Ordering.{ordering_reverse, is_lt, is_eq, eq_by_cmp}
use Rattle.std.specs.Cmp.{IsTotalOrder, alike_right}
use Rattle.std.specs.List.{insert, remove, zip, AllByRecursion, find as find_first}
use Rattle.std.specs.List.Sorted.{IsSearchInRange, IsBinarySearchResult, IsStrictlySortedBy}
use Rattle.std.proofs.lemmas.List.Sorted.{searchable_from_sorted}
use Rattle.std.proofs.lemmas.Option.{slice_get-get_or}
use Rattle.std.proofs.lemmas.Bool.{and_parts}
use Rattle.std.proofs.lemmas.Float.{T_from_true}
use Rattle.std.proofs.lemmas.List.{length-set}
use Rattle.std.proofs.lemmas.List.Edits.{length-insert, length-remove}
use Rattle.std.proofs.lemmas.Slice.Zip.{length-zip}
use Rattle.std.proofs.lemmas.Map.Keys.{Less-from_sorted, sorted_tail}
use Rattle.std.specs.FinMap.Entries.{find, put, by_order, below_all, is_sorted-put, is_sorted-where_key}
use Rattle.tree_model.proofs.Logic.{true_from_T, is_less}
use Rattle.sorted_map.specs.Rows.{AllAbove, StandsAt, BelongsAt, IsSorted, without, is_after, IsAligned}

module _ {K V : Type 0} (R : K → K → Ordering) where
  all_below : (key : K) (ks : List K) (vs : List V) → length vs ≡ length ks → below_all R key (zip ks vs) ≡ true
      → AllByRecursion (λ k. R key k ≡ Less) ks
  all_below key [] vs long h = tt
  all_below key (k ∷ ks) [] long h = absurd (omega arith)
  all_below key (k ∷ ks) (v ∷ vs) long h =
      (is_less _ (and_parts _ _ h).0, all_below key ks vs (omega arith) (and_parts _ _ h).1)

  keys-rise : (ks : List K) (vs : List V) → length vs ≡ length ks → IsSorted R (zip ks vs) → IsStrictlySortedBy R ks
  unfolding IsStrictlySortedBy
  keys-rise [] vs long h = tt
  keys-rise (k ∷ ks) [] long h = absurd (omega arith)
  keys-rise (k ∷ ks) (v ∷ vs) long h =
      (all_below k ks vs (omega arith) (and_parts _ _ h).0, keys-rise ks vs (omega arith) (and_parts _ _ h).1)

pub rising : {K V : Type 0} {R : K → K → Ordering} {ks : List K} {vs : List V}
    → IsAligned R ks vs → IsStrictlySortedBy R ks
rising aligned = keys-rise _ _ _ aligned.lengths aligned.sorted

-- a key for each value
pub length-rows : {K V : Type 0} (ks : List K) (vs : List V) → length vs ≡ length ks → length (zip ks vs) ≡ length ks
length-rows ks vs long = length-zip ks vs ∙ omega (arith, long)

is_some-get : {V : Type 0} (vs : List V) (i : ℕ) → i < length vs → is_some (slice_get vs i) ≡ true
is_some-get [] i within = absurd (omega arith)
is_some-get (v ∷ vs) zero within = refl
is_some-get (v ∷ vs) (suc i) within = is_some-get vs i (omega arith)

module _ {K : Type 0} (R : K → K → Ordering) where
  all_above : (key : K) (ks : List K) → ((j : ℕ) (d : K) → j < length ks → R (get_or ks j d) key ≡ Greater)
      → AllAbove R key ks
  all_above key [] h = tt
  all_above key (k ∷ ks) h = (h 0 k (omega arith), all_above key ks (λ j d within. h (suc j) d (omega arith)))

  belongs : (key : K) (ks : List K) (i : ℕ) → i ≤ length ks → ((j : ℕ) (d : K) → j < i → R (get_or ks j d) key ≡ Less)
      → ((j : ℕ) (d : K) → i ≤ j → j < length ks → R (get_or ks j d) key ≡ Greater) → BelongsAt R key ks i
  belongs key ks zero within low high = all_above key ks (λ j d. high j d (omega arith))
  belongs key [] (suc i) within low high = absurd (omega arith)
  belongs key (k ∷ ks) (suc i) within low high = (
    low 0 k (omega arith),
    belongs key ks i (omega arith) (λ j d below. low (suc j) d (omega arith))
        (λ j d above inside. high (suc j) d (omega arith) (omega arith)),
  )

  pub stands-within : (key : K) (ks : List K) (i : ℕ) → StandsAt R key ks i → i < length ks
  stands-within key [] i h = absurd h
  stands-within key (k ∷ ks) zero h = omega arith
  stands-within key (k ∷ ks) (suc i) h = omega (arith, stands-within key ks i h.1)

  pub belongs-within : (key : K) (ks : List K) (i : ℕ) → BelongsAt R key ks i → i ≤ length ks
  belongs-within key ks zero h = omega arith
  belongs-within key [] (suc i) h = absurd h
  belongs-within key (k ∷ ks) (suc i) h = omega (arith, belongs-within key ks i h.1)

module _ {K : Type 0} {R : K → K → Ordering} (o : IsTotalOrder R) where
  turned : (a b : K) (r : Ordering) → R a b ≡ r → R b a ≡ ordering_reverse r
  turned a b r e = o.antisymm b a ∙ ap ordering_reverse e

  stands : (key : K) (ks : List K) (i : ℕ) → i < length ks → IsStrictlySortedBy R ks
      → ((d : K) → R (get_or ks i d) key ≡ Equal) → StandsAt R key ks i
  stands key [] i within rise tie = absurd (omega arith)
  stands key (k ∷ ks) zero within rise tie = (
    tie k,
    all_above R key ks
        (λ j d inside. turned key (get_or ks j d) Less (sym (o.congr k key (get_or ks j d) (tie k))
        ∙ Less-from_sorted R (k ∷ ks) 0 (suc j) d rise (omega arith) (omega arith))),
  )
  stands key (k ∷ ks) (suc i) within rise tie = (
    sym (alike_right o (get_or ks i k) key k (tie k))
        ∙ Less-from_sorted R (k ∷ ks) 0 (suc i) k rise (omega arith) (omega arith),
    stands key ks i (omega arith) (sorted_tail R k ks rise) tie,
  )

  -- where a binary search ends
  pub placed : (key : K) (ks : List K) (r : Result ℕ ℕ) → IsStrictlySortedBy R ks → IsSearchInRange r (length ks)
      → IsBinarySearchResult (λ k. R k key) ks r → IfOk r (StandsAt R key ks) × IfErr r (BelongsAt R key ks)
  placed key ks (Ok i) rise within tie = (stands key ks i within rise tie, tt)
  placed key ks (Err i) rise within parted =
      let apart = parted
      (searchable_from_sorted o (λ k. k) ks key
      (λ j d from below. ap is_lt
      (turned _ _ Less (Less-from_sorted R ks j (j + 1) d rise (omega arith) below)))) in (
        tt,
        belongs R key ks i within (λ j d below. apart.0 j d (omega arith) below)
            (λ j d from inside. apart.1 j d from inside),
      )

  module _ {V : Type 0} where
    pub find-stands : (key : K) (ks : List K) (vs : List V) (i : ℕ) → StandsAt R key ks i → length vs ≡ length ks
        → find R key (zip ks vs) ≡ slice_get vs i
    find-stands key [] vs i h long = absurd h
    find-stands key (k ∷ ks) [] i h long = absurd (omega arith)
    find-stands key (k ∷ ks) (v ∷ vs) zero h long =
        ap (λ r. cond (is_eq r) (Some v) (find R key (zip ks vs))) (turned k key Equal h.0)
    find-stands key (k ∷ ks) (v ∷ vs) (suc i) h long =
        ap (λ r. cond (is_eq r) (Some v) (find R key (zip ks vs))) (turned k key Less h.0)
        ∙ find-stands key ks vs i h.1 (omega arith)

    -- the value that stands at the key's place
    pub found : (key : K) (ks : List K) (vs : List V) (i : ℕ) (v : V) → StandsAt R key ks i → length vs ≡ length ks
        → v ≡ get_or vs i v → Some v ≡ find R key (zip ks vs)
    found key ks vs i v h long read =
        ap Some read ∙ sym
        (find-stands key ks vs i h long ∙ slice_get-get_or vs i v (omega (arith, stands-within R key ks i h, long)))

    find-above : (key : K) (ks : List K) (vs : List V) → AllAbove R key ks → find R key (zip ks vs) ≡ None
    find-above key [] vs h = refl
    find-above key (k ∷ ks) [] h = refl
    find-above key (k ∷ ks) (v ∷ vs) h =
        ap (λ r. cond (is_eq r) (Some v) (find R key (zip ks vs))) (turned k key Greater h.0)
        ∙ find-above key ks vs h.1

    pub find-belongs : (key : K) (ks : List K) (vs : List V) (i : ℕ) → BelongsAt R key ks i
        → find R key (zip ks vs) ≡ None
    find-belongs key ks vs zero h = find-above key ks vs h
    find-belongs key [] vs (suc i) h = refl
    find-belongs key (k ∷ ks) [] (suc i) h = refl
    find-belongs key (k ∷ ks) (v ∷ vs) (suc i) h =
        ap (λ r. cond (is_eq r) (Some v) (find R key (zip ks vs))) (turned k key Less h.0)
        ∙ find-belongs key ks vs i h.1

    -- a search tells whether the key is there
    pub found-is : (key : K) (ks : List K) (vs : List V) (r : Result ℕ ℕ) → IfOk r (StandsAt R key ks)
        → IfErr r (BelongsAt R key ks) → length vs ≡ length ks → is_ok r ≡ is_some (find R key (zip ks vs))
    found-is key ks vs (Ok i) h absent long =
        sym (ap is_some (find-stands key ks vs i h long)
        ∙ is_some-get vs i (omega (arith, stands-within R key ks i h, long)))
    found-is key ks vs (Err i) there h long = sym (ap is_some (find-belongs key ks vs i h))

    -- a write over the value at the key's place
    pub put-stands : (key : K) (v : V) (ks : List K) (vs : List V) (i : ℕ) → StandsAt R key ks i
        → length vs ≡ length ks → put R key v (zip ks vs) ≡ zip ks (set vs i v)
    put-stands key w [] vs i h long = absurd h
    put-stands key w (k ∷ ks) [] i h long = absurd (omega arith)
    put-stands key w (k ∷ ks) (v ∷ vs) zero h long =
        ap (λ r. by_order r ((key, w) ∷ (k, v) ∷ zip ks vs) ((k, w) ∷ zip ks vs) ((k, v) ∷ put R key w (zip ks vs)))
        (turned k key Equal h.0)
    put-stands key w (k ∷ ks) (v ∷ vs) (suc i) h long =
        ap (λ r. by_order r ((key, w) ∷ (k, v) ∷ zip ks vs) ((k, w) ∷ zip ks vs) ((k, v) ∷ put R key w (zip ks vs)))
        (turned k key Less h.0) ∙ ap (λ rows. (k, v) ∷ rows) (put-stands key w ks vs i h.1 (omega arith))

    put-above : (key : K) (w : V) (ks : List K) (vs : List V) → AllAbove R key ks → length vs ≡ length ks
        → put R key w (zip ks vs) ≡ (key, w) ∷ zip ks vs
    put-above key w [] vs h long = refl
    put-above key w (k ∷ ks) [] h long = absurd (omega arith)
    put-above key w (k ∷ ks) (v ∷ vs) h long =
        ap (λ r. by_order r ((key, w) ∷ (k, v) ∷ zip ks vs) ((k, w) ∷ zip ks vs) ((k, v) ∷ put R key w (zip ks vs)))
        (turned k key Greater h.0)

    -- an insertion at the place where the key belongs
    pub put-belongs : (key : K) (w : V) (ks : List K) (vs : List V) (i : ℕ) → BelongsAt R key ks i
        → length vs ≡ length ks → put R key w (zip ks vs) ≡ zip (insert ks i key) (insert vs i w)
    put-belongs key w ks vs zero h long = put-above key w ks vs h long
    put-belongs key w [] vs (suc i) h long = absurd h
    put-belongs key w (k ∷ ks) [] (suc i) h long = absurd (omega arith)
    put-belongs key w (k ∷ ks) (v ∷ vs) (suc i) h long =
        ap (λ r. by_order r ((key, w) ∷ (k, v) ∷ zip ks vs) ((k, w) ∷ zip ks vs) ((k, v) ∷ put R key w (zip ks vs)))
        (turned k key Less h.0) ∙ ap (λ rows. (k, v) ∷ rows) (put-belongs key w ks vs i h.1 (omega arith))

    without-above : (key : K) (ks : List K) (vs : List V) → AllAbove R key ks → without R key (zip ks vs) ≡ zip ks vs
    without-above key [] vs h = refl
    without-above key (k ∷ ks) [] h = refl
    without-above key (k ∷ ks) (v ∷ vs) h =
        ap (λ r. cond (not (is_eq r)) ((k, v) ∷ without R key (zip ks vs)) (without R key (zip ks vs)))
        (turned k key Greater h.0) ∙ ap (λ rows. (k, v) ∷ rows) (without-above key ks vs h.1)

    -- a removal at the key's place
    pub without-stands : (key : K) (ks : List K) (vs : List V) (i : ℕ) → StandsAt R key ks i → length vs ≡ length ks
        → without R key (zip ks vs) ≡ zip (remove ks i) (remove vs i)
    without-stands key [] vs i h long = absurd h
    without-stands key (k ∷ ks) [] i h long = absurd (omega arith)
    without-stands key (k ∷ ks) (v ∷ vs) zero h long =
        ap (λ r. cond (not (is_eq r)) ((k, v) ∷ without R key (zip ks vs)) (without R key (zip ks vs)))
        (turned k key Equal h.0) ∙ without-above key ks vs h.1
    without-stands key (k ∷ ks) (v ∷ vs) (suc i) h long =
        ap (λ r. cond (not (is_eq r)) ((k, v) ∷ without R key (zip ks vs)) (without R key (zip ks vs)))
        (turned k key Less h.0) ∙ ap (λ rows. (k, v) ∷ rows) (without-stands key ks vs i h.1 (omega arith))

    -- a removal of a key that isn't there
    pub without-belongs : (key : K) (ks : List K) (vs : List V) (i : ℕ) → BelongsAt R key ks i
        → without R key (zip ks vs) ≡ zip ks vs
    without-belongs key ks vs zero h = without-above key ks vs h
    without-belongs key [] vs (suc i) h = refl
    without-belongs key (k ∷ ks) [] (suc i) h = refl
    without-belongs key (k ∷ ks) (v ∷ vs) (suc i) h =
        ap (λ r. cond (not (is_eq r)) ((k, v) ∷ without R key (zip ks vs)) (without R key (zip ks vs)))
        (turned k key Less h.0) ∙ ap (λ rows. (k, v) ∷ rows) (without-belongs key ks vs i h.1)

  -- the first of the keys, all of which come after
  after-above : (key : K) (ks : List K) → AllAbove R key ks → find_first (is_after R (Some key)) ks ≡ slice_get ks 0
  after-above key [] h = refl
  after-above key (k ∷ ks) h =
      ap (λ r. cond (is_lt r) (Some k) (find_first (is_after R (Some key)) ks)) (turned k key Greater h.0)

  -- the key behind one that is there
  pub after-stands : (key : K) (ks : List K) (i : ℕ) → StandsAt R key ks i
      → find_first (is_after R (Some key)) ks ≡ slice_get ks (suc i)
  after-stands key [] i h = absurd h
  after-stands key (k ∷ ks) zero h =
      ap (λ r. cond (is_lt r) (Some k) (find_first (is_after R (Some key)) ks)) (turned k key Equal h.0)
      ∙ after-above key ks h.1
  after-stands key (k ∷ ks) (suc i) h =
      ap (λ r. cond (is_lt r) (Some k) (find_first (is_after R (Some key)) ks)) (turned k key Less h.0)
      ∙ after-stands key ks i h.1

  -- the key at the place of one that isn't there
  pub after-belongs : (key : K) (ks : List K) (i : ℕ) → BelongsAt R key ks i
      → find_first (is_after R (Some key)) ks ≡ slice_get ks i
  after-belongs key ks zero h = after-above key ks h
  after-belongs key [] (suc i) h = refl
  after-belongs key (k ∷ ks) (suc i) h =
      ap (λ r. cond (is_lt r) (Some k) (find_first (is_after R (Some key)) ks)) (turned k key Less h.0)
      ∙ after-belongs key ks i h.1

-- the first of all keys
pub after-none : {K : Type 0} (R : K → K → Ordering) (ks : List K) → find_first (is_after R None) ks ≡ slice_get ks 0
after-none R [] = refl
after-none R (k ∷ ks) = refl

-- a place in a list is one in the same list by another name
pub stands-in : {K : Type 0} (R : K → K → Ordering) {searched ks : List K} → searched ≡ ks → (key : K) (i : ℕ)
    → StandsAt R key searched i → StandsAt R key ks i
stands-in R same key i there = subst (λ keys. StandsAt R key keys i) same there

pub belongs-in : {K : Type 0} (R : K → K → Ordering) {searched ks : List K} → searched ≡ ks → (key : K) (i : ℕ)
    → BelongsAt R key searched i → BelongsAt R key ks i
belongs-in R same key i absent = subst (λ keys. BelongsAt R key keys i) same absent

module _ {K V : Type 0} {R : K → K → Ordering} (o : IsTotalOrder R) where
  pub sorted-put : (key : K) (v : V) (rows : List (K × V)) → IsSorted R rows → IsSorted R (put R key v rows)
  sorted-put key v rows sorted = true_from_T _ (is_sorted-put R o key v rows (T_from_true _ sorted))

  pub sorted-without : (key : K) (rows : List (K × V)) → IsSorted R rows → IsSorted R (without R key rows)
  sorted-without key rows sorted =
      true_from_T _ (is_sorted-where_key R (λ other. not (eq_by_cmp R key other)) rows (T_from_true _ sorted))

  -- what a search in the keys found, with a further key put in, or one taken out
  module _ {ks searched : List K} {vs : List V} (a : IsAligned R ks vs) (same : searched ≡ ks) (key : K)
      (i : ℕ) where
    -- a value written over
    module _ (there : StandsAt R key searched i) (v w : V) (is : w ≡ v) where
      pub rows-written : zip ks (set vs i w) ≡ put R key v (zip ks vs)
      rows-written =
          ap (λ x. zip ks (set vs i x)) is ∙ sym (put-stands o key v ks vs i (stands-in R same key i there) a.lengths)

      pub aligned-written : IsAligned R ks (set vs i w)
      aligned-written = record {
        lengths = length-set vs i w ∙ a.lengths;
        sorted = subst (IsSorted R) (sym rows-written) (sorted-put key v _ a.sorted);
      }

    -- a key put in its place
    module _ (absent : BelongsAt R key searched i) (v : V) (ks' : List K) (vs' : List V)
        (ks-are : ks' ≡ insert ks i key) (vs-are : vs' ≡ insert vs i v) where
      pub rows-inserted : zip ks' vs' ≡ put R key v (zip ks vs)
      rows-inserted =
          (λ j. zip (ks-are j) (vs-are j))
          ∙ sym (put-belongs o key v ks vs i (belongs-in R same key i absent) a.lengths)

      pub aligned-inserted : IsAligned R ks' vs'
      aligned-inserted =
          let within = belongs-within R key ks i (belongs-in R same key i absent) in
          record {
            lengths =
                ap length vs-are ∙ length-insert vs i v (omega (arith, within, a.lengths)) ∙ ap (λ n. n + 1) a.lengths
                ∙ sym (ap length ks-are ∙ length-insert ks i key within);
            sorted = subst (IsSorted R) (sym rows-inserted) (sorted-put key v _ a.sorted);
          }

    -- a key taken out
    module _ (there : StandsAt R key searched i) (ks' : List K) (vs' : List V) (ks-are : ks' ≡ remove ks i)
        (vs-are : vs' ≡ remove vs i) where
      pub rows-removed : zip ks' vs' ≡ without R key (zip ks vs)
      rows-removed =
          (λ j. zip (ks-are j) (vs-are j))
          ∙ sym (without-stands o key ks vs i (stands-in R same key i there) a.lengths)

      pub aligned-removed : IsAligned R ks' vs'
      aligned-removed =
          let within = stands-within R key ks i (stands-in R same key i there) in
          let left = length-remove ks i within in
          let right : length (remove vs i) + 1 ≡ length vs = length-remove vs i (omega (arith, within, a.lengths)) in
          record {
            lengths = omega (arith, ap length ks-are, ap length vs-are, left, right, a.lengths);
            sorted = subst (IsSorted R) (sym rows-removed) (sorted-without key _ a.sorted);
          }
