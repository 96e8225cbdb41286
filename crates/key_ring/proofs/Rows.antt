-- Rows as a ring: what is looked up, put and taken out by a user and a class.
use Rattle.std.proofs.Common.{◌≡◌, ℕ, Bool, true, false, cond, ◌&&◌, List, [], ◌∷◌, refl, sym, ap, ◌∙◌}
use Rattle.std.specs.Prelude.{Option, Some, ◌==◌, slice_get, map}
use Rattle.std.specs.Map.{lookup, remove_entry}
use Rattle.std.specs.Option.{option_map}
use Rattle.std.proofs.lemmas.Option.{slice_get-map}
use Rattle.std.specs.Bool.{beq}
use Rattle.indexmap.specs.IndexMap.{insert_entry}
use Rattle.key_ring.specs.Kept.{Row, class_of, key_of_row, ring_of}
use Rattle.key_ring.specs.Ring.{same_class, is_of, key_of, owners, installed, removed}

class-test : (a b : Bool) → beq a b ≡ same_class (class_of a) (class_of b)
class-test true true = refl
class-test true false = refl
class-test false true = refl
class-test false false = refl

-- the test by which rows are looked up
abbrev same_owner : ℕ × Bool → ℕ × Bool → Bool
same_owner a b = (a.0 == b.0) && beq a.1 b.1

owners-rows : (rows : List Row) → owners (ring_of rows) ≡ map (λ row. (row.0.0, class_of row.0.1)) rows
owners-rows [] = refl
owners-rows (row ∷ rows) = ap (λ all. (row.0.0, class_of row.0.1) ∷ all) (owners-rows rows)

-- the user and class of the row at a place
pub owner-row : (rows : List Row) (place : ℕ) (found : Option Row) → found ≡ slice_get rows place
    → option_map (λ row. (row.0.0, class_of row.0.1)) found ≡ slice_get (owners (ring_of rows)) place
owner-row rows place found is = ap (option_map (λ row. (row.0.0, class_of row.0.1))) is
    ∙ sym (slice_get-map (λ row. (row.0.0, class_of row.0.1)) rows place)
    ∙ sym (ap (λ all. slice_get all place) (owners-rows rows))

module _ (user : ℕ) (credential : Bool) where
  row-test : (row : Row) → same_owner (user, credential) row.0 ≡ is_of user (class_of credential) (key_of_row row)
  row-test row = ap (λ t. (user == row.0.0) && t) (class-test credential row.0.1)

  pub key-row : (rows : List Row)
      → lookup (same_owner (user, credential)) rows ≡ key_of (ring_of rows) user (class_of credential)
  key-row [] = refl
  key-row (row ∷ rows) =
      ap (λ t. cond t (Some row.1) (lookup (same_owner (user, credential)) rows)) (row-test row)
      ∙ ap (λ found. cond (is_of user (class_of credential) (key_of_row row)) (Some row.1) found) (key-row rows)

  ring-cond : (t : Bool) (rows others : List Row)
      → ring_of (cond t rows others) ≡ cond t (ring_of rows) (ring_of others)
  ring-cond true rows others = refl
  ring-cond false rows others = refl

  pub ring-insert : (rows : List Row) (key : List ℕ)
      → ring_of (insert_entry same_owner rows (user, credential) key)
      ≡ installed (ring_of rows) user (class_of credential) key
  ring-insert [] key = refl
  ring-insert (row ∷ rows) key =
      let inserted = insert_entry same_owner rows (user, credential) key in
      ring-cond (same_owner (user, credential) row.0) ((row.0, key) ∷ rows) (row ∷ inserted)
      ∙ ap (λ t. cond t (key_of_row (row.0, key) ∷ ring_of rows) (key_of_row row ∷ ring_of inserted)) (row-test row)
      ∙ ap (λ ring. cond (is_of user (class_of credential) (key_of_row row))
      (key_of_row (row.0, key) ∷ ring_of rows) (key_of_row row ∷ ring)) (ring-insert rows key)

  pub ring-remove : (rows : List Row)
      → ring_of (remove_entry (same_owner (user, credential)) rows)
      ≡ removed (ring_of rows) user (class_of credential)
  ring-remove [] = refl
  ring-remove (row ∷ rows) =
      let rest = remove_entry (same_owner (user, credential)) rows in
      ring-cond (same_owner (user, credential) row.0) rows (row ∷ rest)
      ∙ ap (λ t. cond t (ring_of rows) (key_of_row row ∷ ring_of rest)) (row-test row)
      ∙ ap (λ ring. cond (is_of user (class_of credential) (key_of_row row)) (ring_of rows)
      (key_of_row row ∷ ring)) (ring-remove rows)
