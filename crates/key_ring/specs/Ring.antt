-- A key ring as plain data: the installed keys with their users and classes, in the order of installation.
use Rattle.std.specs.Prelude.{◌≡◌, ℕ, ◌==◌, ◌&&◌, Bool, true, false, cond, List, [], ◌∷◌, map, Option, Some, None}
use Rattle.tree_model.specs.declared.places.Class.{Class}
use Rattle.tree_model.specs.declared.places.Class.TheVariants.{De, Ce}

-- a key of 64 bytes, and whose it is
pub record InstalledKey : Type 0 where
  pub user : ℕ
  pub class : Class
  pub key : List ℕ

-- in the order of installation
abbrev pub Ring : Type 0
Ring = List InstalledKey

-- whose a key is
abbrev pub Owner : Type 0
Owner = ℕ × Class

abbrev pub owner_of : InstalledKey → Owner
owner_of installed = (installed.user, installed.class)

abbrev pub same_class : Class → Class → Bool
same_class De De = true
same_class De Ce = false
same_class Ce De = false
same_class Ce Ce = true

-- whether it is this user and class
abbrev pub is_owner : ℕ → Class → Owner → Bool
is_owner user class owner = (user == owner.0) && same_class class owner.1

-- whether a key is that of a user and class
abbrev pub is_of : ℕ → Class → InstalledKey → Bool
is_of user class installed = is_owner user class (owner_of installed)

-- whether a user and class is one of these
abbrev pub has_owner : List Owner → ℕ → Class → Bool
has_owner [] user class = false
has_owner (first ∷ all) user class = cond (is_owner user class first) true (has_owner all user class)

-- these with a user and class where it was, or else last
abbrev pub with_owner : List Owner → ℕ → Class → List Owner
with_owner [] user class = (user, class) ∷ []
with_owner (first ∷ all) user class =
    cond (is_owner user class first) (first ∷ all) (first ∷ with_owner all user class)

-- these without a user and class
abbrev pub without_owner : List Owner → ℕ → Class → List Owner
without_owner [] user class = []
without_owner (first ∷ all) user class = cond (is_owner user class first) all (first ∷ without_owner all user class)

-- the key of a user and class
abbrev pub key_of : Ring → ℕ → Class → Option (List ℕ)
key_of [] user class = None
key_of (first ∷ ring) user class = cond (is_of user class first) (Some first.key) (key_of ring user class)

-- the users and classes of the keys, in order
abbrev pub owners : Ring → List Owner
owners ring = map owner_of ring

-- each user and class at most once
abbrev pub IsRing : Ring → Type 0
IsRing [] = Unit {0}
IsRing (first ∷ ring) = (key_of ring first.user first.class ≡ None) × IsRing ring

-- the ring with a key in the place of that of its user and class, or else last
abbrev pub installed : Ring → ℕ → Class → List ℕ → Ring
installed [] user class key = record { user = user; class = class; key = key } ∷ []
installed (first ∷ ring) user class key =
    cond (is_of user class first) (record first { key = key } ∷ ring) (first ∷ installed ring user class key)

-- the ring without the key of a user and class
abbrev pub removed : Ring → ℕ → Class → Ring
removed [] user class = []
removed (first ∷ ring) user class = cond (is_of user class first) ring (first ∷ removed ring user class)
