-- A user's slots, by what is known of the tree's places: those that a command with a secret has to try, whether one is
-- left for a further secret, and which.
use Rattle.std.specs.Prelude.{ℕ, ◌==◌, ◌^◌, ◌&&◌, nat_le, Bool, false, is_some, cond, List, [], ◌∷◌, ◌++◌}
use Rattle.std.specs.Prelude.{Option, Some, None}
use Rattle.std.specs.FinMap as map
use Rattle.tree_model.specs.declared.places.Place.{Place}
use Rattle.tree_model.specs.declared.places.Place.TheVariants.{De, Ce}
use Rattle.tree_model.specs.declared.places.Slot.{Slot}
use Rattle.tree_model.specs.declared.places.Slot.TheVariants.{Current, Cx}
use Rattle.journal_model.specs.declared.commands.Command.{Command}
use Rattle.journal_model.specs.declared.commands.Command.TheVariants.{Unlock, Protect}
use Rattle.journal_model.specs.Users.{leave_none, next_number}
use Rattle.key_directory.specs.Opened.{fits_secret}
use Rattle.step_core.specs.Table.{NamedPlaces, named_by}
use Rattle.bench.specs.Slots.{slots_known}

-- the slot of a place, where it is one of the user's that may open with the secret
abbrev pub slot_at : NamedPlaces → ℕ → List ℕ → Place → List Slot
slot_at places user secret (Ce owner slot) =
    cond (owner == user && fits_secret (named_by (map.get places (Ce owner slot))) secret) (slot ∷ []) []
slot_at places user secret place = []

-- those of places, the last place's first
abbrev pub slots_in : NamedPlaces → ℕ → List ℕ → List Place → List Slot
slots_in places user secret [] = []
slots_in places user secret (place ∷ rest) = slots_in places user secret rest ++ slot_at places user secret place

-- what a command has to try
abbrev pub slots_for : NamedPlaces → Command → List Slot
slots_for places (Unlock user secret) = slots_in places user secret (map.keys places)
slots_for places (Protect user given fresh) = slots_in places user given (map.keys places)
slots_for places command = []

-- all slots of a user, if there is one; and the last of slots in their order, or of none the current one
abbrev pub slots_of : NamedPlaces → Option ℕ → List Slot
slots_of places None = []
slots_of places (Some user) = slots_known places user

abbrev pub last_slot : Slot → List Slot → Slot
last_slot slot [] = slot
last_slot slot (next ∷ slots) = last_slot next slots

-- whether none is left for a further secret of the user, if there is one: of a user who is there
abbrev pub is_full : NamedPlaces → Option ℕ → Bool
is_full places None = false
is_full places (Some user) = is_some (map.get places (De user)) && leave_none (slots_known places user)

-- the slot of a number, where one has it
abbrev pub slot_numbered : ℕ → Slot
slot_numbered n = cond (nat_le (2 ^ 32) n) Current (Cx n)

-- the slot that it comes into, where one is left
abbrev pub slot_next : NamedPlaces → Command → Slot
slot_next places (Protect user given fresh) = slot_numbered (next_number (slots_known places user))
slot_next places command = Current
