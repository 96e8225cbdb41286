-- The keys of a memory ring by their users and classes, and what a contract sees of them.
use Rattle.std.specs.Prelude.{◌≡◌, ℕ, Bool, true, false, List, [], ◌∷◌, map, Some, None, refl}
use Rattle.tree_model.specs.Counted.{Counts}
use Rattle.tree_model.specs.declared.places.Class.{Class}
use Rattle.tree_model.specs.declared.places.Class.TheVariants.{De, Ce}
use Rattle.tree_model.specs.Tree.{if_there}
use Rattle.key_ring.specs.Ring.{InstalledKey, Ring, IsRing, key_of}

-- keys, and for how many further ones there is memory
pub record Shelf : Type 0 where
  pub ring : Ring
  pub room : ℕ

-- keys and counts
pub record Device : Type 0 where
  pub keys : List InstalledKey
  pub counts : Counts

-- the class of the credential key, or else that of the device key
abbrev pub class_of : Bool → Class
class_of true = Ce
class_of false = De

-- a user, whether the key is the credential key, and the key
abbrev pub Row : Type 0
Row = (ℕ × Bool) × List ℕ

abbrev pub key_of_row : Row → InstalledKey
key_of_row row = record { user = row.0.0; class = class_of row.0.1; key = row.1 }

-- rows as a ring
abbrev pub ring_of : List Row → Ring
ring_of rows = map key_of_row rows

-- the last key of each user and class, in order
abbrev pub once : List InstalledKey → Ring
once [] = []
once (first ∷ keys) = if_there (key_of (once keys) first.user first.class) (first ∷ once keys) (λ _. once keys)

-- these are always a ring
pub ring-once : (keys : List InstalledKey) → IsRing (once keys)
ring-once [] = tt
ring-once (first ∷ keys) =
    elim (key_of (once keys) first.user first.class) as (λ found.
    key_of (once keys) first.user first.class ≡ found → IsRing (if_there found (first ∷ once keys) (λ _. once keys))) [
      | None ↦ λ none. (none, ring-once keys)
      | Some key ↦ λ some. ring-once keys
    ] refl
