-- The laws of a key ring's calls: a ring stays one, what is found in it afterwards, and in which order.
use Rattle.std.specs.Prelude.{◌≡◌, ◌≢◌, ℕ, not, List, [], ◌∷◌, ◌++◌, Some, None, IsSome, is_some}
use Rattle.std.specs.List.{filter}
use Rattle.tree_model.specs.declared.places.Class.{Class}
use Rattle.key_ring.specs.Ring.{Owner, Ring, IsRing, is_of, key_of, owners, has_owner, installed, removed}
use Rattle.key_ring.specs.Ring.{with_owner, without_owner}

-- an added key is found, and each other as before; it is last where none was there, and else each has its place
pub record AfterAdd (ring : Ring) (user : ℕ) (class : Class) (key : List ℕ) : Type 0 where
  pub whole : IsRing (installed ring user class key)
  pub found : key_of (installed ring user class key) user class ≡ Some key
  pub others : (other : Owner) → other ≢ (user, class)
      → key_of (installed ring user class key) other.0 other.1 ≡ key_of ring other.0 other.1
  pub last : key_of ring user class ≡ None
      → installed ring user class key ≡ ring ++ record { user = user; class = class; key = key } ∷ []
  pub places : IsSome (key_of ring user class) → owners (installed ring user class key) ≡ owners ring

-- a removed key isn't found, each other is as before, and the others keep their order
pub record AfterRemove (ring : Ring) (user : ℕ) (class : Class) : Type 0 where
  pub whole : IsRing (removed ring user class)
  pub gone : key_of (removed ring user class) user class ≡ None
  pub others : (other : Owner) → other ≢ (user, class)
      → key_of (removed ring user class) other.0 other.1 ≡ key_of ring other.0 other.1
  pub order : removed ring user class ≡ filter (λ installed. not (is_of user class installed)) ring

-- an empty ring is one, and stays one by each addition and removal, which leave what they have to
pub record LawOfInstalled : Type 0 where
  pub empty : IsRing []
  pub after_add : (ring : Ring) (user : ℕ) (class : Class) (key : List ℕ) → IsRing ring → AfterAdd ring user class key
  pub after_remove : (ring : Ring) (user : ℕ) (class : Class) → IsRing ring → AfterRemove ring user class

-- what is known of a ring by the users and classes of its keys alone: who has a key, and the order after an addition
-- and after a removal
pub record LawOfOwners : Type 0 where
  pub found : (ring : Ring) (user : ℕ) (class : Class)
      → has_owner (owners ring) user class ≡ is_some (key_of ring user class)
  pub added : (ring : Ring) (user : ℕ) (class : Class) (key : List ℕ)
      → owners (installed ring user class key) ≡ with_owner (owners ring) user class
  pub taken : (ring : Ring) (user : ℕ) (class : Class)
      → owners (removed ring user class) ≡ without_owner (owners ring) user class
