-- Two aligned vectors as the map that they hold: what is there, and what an edit of the vectors does to it.
use Rattle.std.proofs.Common.{◌≡◌, ℕ, Bool, List, [], refl, length, get_or, set, sym, ap, ◌∙◌, subst}
use Rattle.std.specs.Prelude.{Some, None, Result, IfOk, IfErr, IsSome, IsTrue, ◌==◌, ◌↔◌, is_ok, is_some}
use Rattle.std.specs.declared.cmp.Ordering.{Ordering}
use Rattle.std.specs.Cmp.{IsTotalOrder}
use Rattle.std.specs.FinMap as map
use Rattle.std.specs.FinMap.{IsAntisymmetric, from_sorted, len-empty}
use Rattle.std.specs.FinMap.Entries.{is_sorted}
use Rattle.std.specs.List.{insert, remove, zip}
use Rattle.std.proofs.lemmas.Bool.{eqb-true, false≢true}
use Rattle.std.proofs.lemmas.Slice.Zip.{firsts-zip, seconds-zip}
use Rattle.sorted_map.specs.Rows.{StandsAt, BelongsAt, IsAligned}
use Rattle.sorted_map.proofs.Places.{stands-in, belongs-in, length-rows, found, found-is, find-belongs}
use Rattle.sorted_map.proofs.Places.{rows-written, rows-inserted, rows-removed}
use Rattle.sorted_map.proofs.Rows.{get-rows, keys-rows, values-rows, len-rows, insert-rows, remove-rows}

-- no keys, and so no map
pub nothing-held : {K V : Type 0} (R : K → K → Ordering) (ks : List K) (vs : List V) → ks ≡ []
    → from_sorted {R = R} (zip ks vs) ≡ map.empty
nothing-held R ks vs none = ap (λ keys. from_sorted {R = R} (zip keys vs)) none
    ∙ map.empty_of_len _ (len-rows R [] refl)

pub nothing-aligned : {K V : Type 0} (R : K → K → Ordering) (ks : List K) (vs : List V) → ks ≡ [] → vs ≡ []
    → IsAligned R ks vs
nothing-aligned R ks vs no_keys no_values = record {
  lengths = ap length no_values ∙ sym (ap length no_keys);
  sorted = ap (λ keys. is_sorted R (zip keys vs)) no_keys;
}

module _ {K V : Type 0} {R : K → K → Ordering} {ks : List K} {vs : List V} (a : IsAligned R ks vs) where
  pub keys-held : map.keys (from_sorted {R = R} (zip ks vs)) ≡ ks
  keys-held = keys-rows R _ a.sorted ∙ firsts-zip ks vs a.lengths

  pub values-held : map.values (from_sorted {R = R} (zip ks vs)) ≡ vs
  values-held = values-rows R _ a.sorted ∙ seconds-zip ks vs a.lengths

  pub len-held : map.len (from_sorted {R = R} (zip ks vs)) ≡ length ks
  len-held = len-rows R _ a.sorted ∙ length-rows ks vs a.lengths

  -- no key is there exactly where their number is 0
  pub empty-held : (n : ℕ) → n ≡ length ks → (r : Bool) → r ≡ (n == 0)
      → IsTrue r ↔ (from_sorted {R = R} (zip ks vs) ≡ map.empty)
  empty-held n is r tells = (
    λ none. map.empty_of_len _ (len-held ∙ sym is ∙ eqb-true n 0 (sym tells ∙ none)),
    λ same. tells ∙ ap (λ m. m == 0) (is ∙ sym len-held ∙ ap map.len same ∙ len-empty R V),
  )

module _ {K V : Type 0} {R : K → K → Ordering} (total : IsTotalOrder R) where
  -- a search in the keys, and what it found
  module _ {ks searched : List K} {vs : List V} (a : IsAligned R ks vs) (same : searched ≡ ks) (key : K) where
    -- a search tells whether the key is there
    pub is-held : (r : Result ℕ ℕ) → IfOk r (StandsAt R key searched) → IfErr r (BelongsAt R key searched)
        → is_ok r ≡ is_some (map.get (from_sorted {R = R} (zip ks vs)) key)
    is-held r there absent =
        found-is total key ks vs r (subst (λ keys. IfOk r (StandsAt R key keys)) same there)
        (subst (λ keys. IfErr r (BelongsAt R key keys)) same absent) a.lengths
        ∙ ap is_some (sym (get-rows R _ a.sorted key))

    -- the value at the key's place
    pub get-held : (i : ℕ) (v : V) → StandsAt R key searched i → v ≡ get_or vs i v
        → map.get (from_sorted {R = R} (zip ks vs)) key ≡ Some v
    get-held i v there read =
        get-rows R _ a.sorted key ∙ sym (found total key ks vs i v (stands-in R same key i there) a.lengths read)

    -- a key that belongs somewhere isn't there
    pub get-absent : (i : ℕ) → BelongsAt R key searched i → map.get (from_sorted {R = R} (zip ks vs)) key ≡ None
    get-absent i absent =
        get-rows R _ a.sorted key ∙ find-belongs total key ks vs i (belongs-in R same key i absent)

    pub not-there : (i : ℕ) → BelongsAt R key searched i → ¬ (IsSome (map.get (from_sorted {R = R} (zip ks vs)) key))
    not-there i absent there = false≢true (sym (ap is_some (get-absent i absent)) ∙ there)

    -- a value written over
    pub held-written : (i : ℕ) → StandsAt R key searched i → (v w : V) → w ≡ v
        → from_sorted {R = R} (zip ks (set vs i w)) ≡ map.insert (from_sorted {R = R} (zip ks vs)) key v
    held-written i there v w is = ap (from_sorted {R = R}) (rows-written total a same key i there v w is)
        ∙ insert-rows total _ a.sorted key v

    -- a key put in its place
    pub held-inserted : (i : ℕ) → BelongsAt R key searched i → (v : V) (ks' : List K) (vs' : List V)
        → ks' ≡ insert ks i key → vs' ≡ insert vs i v
        → from_sorted {R = R} (zip ks' vs') ≡ map.insert (from_sorted {R = R} (zip ks vs)) key v
    held-inserted i absent v ks' vs' ks-are vs-are =
        ap (from_sorted {R = R}) (rows-inserted total a same key i absent v ks' vs' ks-are vs-are)
        ∙ insert-rows total _ a.sorted key v

    -- a key taken out
    pub held-removed : IsAntisymmetric R → (i : ℕ) → StandsAt R key searched i → (ks' : List K) (vs' : List V)
        → ks' ≡ remove ks i → vs' ≡ remove vs i
        → from_sorted {R = R} (zip ks' vs') ≡ map.remove (from_sorted {R = R} (zip ks vs)) key
    held-removed exact i there ks' vs' ks-are vs-are =
        ap (from_sorted {R = R}) (rows-removed total a same key i there ks' vs' ks-are vs-are)
        ∙ remove-rows total _ a.sorted exact key
