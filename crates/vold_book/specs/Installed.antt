-- The key ring beside the machine: whose keys are in it, and that each is the one that its user was given.
use Rattle.std.specs.Prelude.{◌≡◌, ℕ, List, Some}
use Rattle.std.specs.FinMap as map
use Rattle.tree_model.specs.declared.places.Class.{Class}
use Rattle.key_ring.specs.Ring.{Ring, IsRing, owners, key_of}
use Rattle.journal_model.specs.Machine.{Machine}
use Rattle.journal_model.specs.Made.{key_of as made_key}
use Rattle.journal_model.specs.Users.{Record, Users, fold_changes}
use Rattle.key_directory.specs.Vaults.{Attempts, SureOf}

-- the user is there, and the key of this class is the one that was made when the user was created: a credential key
-- where no tag matched by chance
pub record IsMadeKey (tried : Attempts) (seed : List ℕ) (users : Users) (user : ℕ) (class : Class) (key : List ℕ) :
    Type 0 where
  pub known : Record
  pub there : map.get users user ≡ Some known
  pub made : SureOf tried class → key ≡ made_key seed class user known.birth

-- the machine knows whose keys are in the ring, and each key in it is a made one
pub record RingStands (tried : ℕ → Attempts) (seed : List ℕ) (keys : Ring) (machine : Machine) : Type 0 where
  pub once : IsRing keys
  pub owned : machine.ring ≡ owners keys
  pub made : (user : ℕ) (class : Class) (key : List ℕ) → key_of keys user class ≡ Some key
      → IsMadeKey (tried user) seed (fold_changes machine.log) user class key
