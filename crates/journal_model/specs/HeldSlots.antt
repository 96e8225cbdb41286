-- Each user of a legal journal's map has a slot.
use Rattle.std.specs.Prelude.{◌≡◌, ℕ, List, Some, IsSome}
use Rattle.std.specs.FinMap as map
use Rattle.tree_model.specs.declared.places.Slot.{Slot}
use Rattle.journal_model.specs.declared.entries.Entry.{Entry}
use Rattle.journal_model.specs.Users.{Record, Users}
use Rattle.journal_model.specs.Machine.{map_of, IsLegal}

-- a user has one slot at least
pub record HasSlot (known : Record) : Type 0 where
  pub slot : Slot
  pub there : IsSome (map.get known.secrets slot)

-- and so has each user of a map
abbrev pub AllHaveSlots : Users → Type 0
AllHaveSlots users = (user : ℕ) (known : Record) → map.get users user ≡ Some known → HasSlot known

-- since no command drops the slot that it keeps
abbrev pub LawOfSlots : Type 0
LawOfSlots = (entries : List Entry) → IsLegal entries → AllHaveSlots (map_of entries)
