-- When a user's part of a tree stands for the user's record, and a tree for a map of users. What a part has to hold
-- is a parameter that sees one user's part alone; most often it says what a directory opens to.
use Rattle.std.specs.Prelude.{◌≡◌, ℕ, List, [], Option, Some, None}
use Rattle.std.specs.FinMap as map
use Rattle.tree_model.specs.declared.places.Slot.{Slot}
use Rattle.tree_model.specs.declared.sites.Site.TheVariants.{De, Ce}
use Rattle.tree_model.specs.Dir.{Files}
use Rattle.tree_model.specs.Tree.{Tree}
use Rattle.tree_model.specs.Parts.{Part, part_of, standing}
use Rattle.journal_model.specs.declared.entries.Birth.{Birth}
use Rattle.journal_model.specs.Users.{Record, Users}

-- when the standing directories of a user who is there stand for that user's record
pub record Meaning : Type 1 where
  pub stands : ℕ → Part → Record → Type 0

-- a user's part stands for that user's record, if there is one; credential directories without a device directory, and
-- the temporary one, stand for nothing
abbrev pub PartStands : Meaning → ℕ → Part → Option Record → Type 0
PartStands meaning user part None = part De ≡ None
PartStands meaning user part (Some known) = meaning.stands user (standing part) known

abbrev pub UserStands : Meaning → Tree → ℕ → Option Record → Type 0
UserStands meaning tree user known = PartStands meaning user (part_of tree user) known

-- the users of the map are those with a device directory, and the keys of each stand
pub record StandsFor (meaning : Meaning) (tree : Tree) (users : Users) : Type 0 where
  pub user : (user : ℕ) → UserStands meaning tree user (map.get users user)

-- what a directory opens to with a secret, and the keys that a user of this birth was given
pub record Opening : Type 0 where
  pub opens : Files → List ℕ → Option (List ℕ)
  pub de_key : ℕ → Birth → List ℕ
  pub ce_key : ℕ → Birth → List ℕ

-- the directory is there exactly where a secret is recorded, and it opens with that secret to the key
abbrev pub OpensTo : Opening → Option Files → Option (List ℕ) → List ℕ → Type 0
OpensTo opening None None key = Unit {0}
OpensTo opening None (Some secret) key = ⊥
OpensTo opening (Some files) None key = ⊥
OpensTo opening (Some files) (Some secret) key = opening.opens files secret ≡ Some key

-- the device key's directory opens with the empty secret, and the credential key's directories are those of the
-- recorded slots and open with their secrets
pub record KeysStand (opening : Opening) (user : ℕ) (part : Part) (known : Record) : Type 0 where
  pub de : OpensTo opening (part De) (Some []) (opening.de_key user known.birth)
  pub ce : (slot : Slot)
      → OpensTo opening (part (Ce slot)) (map.get known.secrets slot) (opening.ce_key user known.birth)

-- to stand is to open to the keys
abbrev pub opened_by : Opening → Meaning
opened_by opening = record { stands = KeysStand opening }
