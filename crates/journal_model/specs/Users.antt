-- The map of users: who is there, since when, and under which secret each slot is.
use Rattle.std.specs.Prelude.{◌≡◌, ◌≢◌, ℕ, ◌+◌, ◌^◌, ◌||◌, max, Bool, nat_le, List, [], ◌∷◌, length, Option, Some, None}
use Rattle.std.specs.Prelude.{IsSome}
use Rattle.std.specs.declared.cmp.Ordering.TheVariants.{Less}
use Rattle.std.specs.Ordering.{nat_cmp}
use Rattle.std.specs.FinMap as map
use Rattle.tree_model.specs.Order.{slot_cmp}
use Rattle.tree_model.specs.declared.places.Slot.{Slot}
use Rattle.tree_model.specs.declared.places.Slot.TheVariants.{Current, Cx}
use Rattle.journal_model.specs.declared.entries.Birth.{Birth}
use Rattle.journal_model.specs.declared.entries.Change.{Change}
use Rattle.journal_model.specs.declared.entries.Change.TheVariants.{Create, Add, Drop, Settle, Destroy}

-- the slots of a user, each with its secret
abbrev pub Secrets : Type 0
Secrets = map.FinMap slot_cmp (List ℕ)

pub record Record : Type 0 where
  pub birth : Birth
  pub secrets : Secrets

abbrev pub Users : Type 0
Users = map.FinMap nat_cmp Record

-- the one slot of a new user, under the empty secret
abbrev pub new_secrets : Secrets
new_secrets = map.insert map.empty Current []

abbrev pub no_users : Users
no_users = map.empty

-- the most slots that a user has
abbrev pub max_slots : ℕ
max_slots = 8

-- the number behind a slot's own, from 0
abbrev pub after_slot : Slot → ℕ
after_slot Current = 0
after_slot (Cx n) = n + 1

-- the number behind the greatest of slots, from 0
abbrev pub next_number : List Slot → ℕ
next_number [] = 0
next_number (slot ∷ slots) = max (after_slot slot) (next_number slots)

-- whether slots leave none for a further secret: they are as many as there may be, or no number is greater
abbrev pub leave_none : List Slot → Bool
leave_none slots = nat_le max_slots (length slots) || nat_le (2 ^ 32) (next_number slots)

abbrev pub slots_of : Option Record → List Slot
slots_of None = []
slots_of (Some known) = map.keys known.secrets

-- the slot that a further secret of the user comes into
abbrev pub next_slot : Record → Slot
next_slot known = Cx (next_number (map.keys known.secrets))

-- the record with a slot under a secret
abbrev pub with_slot : Record → Slot → List ℕ → Record
with_slot known slot secret = record known { secrets = map.insert known.secrets slot secret }

-- the record without a slot
abbrev pub without_slot : Record → Slot → Record
without_slot known slot = record known { secrets = map.remove known.secrets slot }

-- the record with the slot's secret as that of the current slot, and without the slot
abbrev pub moved_from : Secrets → Slot → Option (List ℕ) → Secrets
moved_from secrets slot None = secrets
moved_from secrets slot (Some secret) = map.insert (map.remove secrets slot) Current secret

abbrev pub settled_slot : Record → Slot → Record
settled_slot known slot = record known { secrets = moved_from known.secrets slot (map.get known.secrets slot) }

-- the user has the slot and no other; and none that is newer
pub record HasOnly (known : Record) (slot : Slot) : Type 0 where
  pub there : IsSome (map.get known.secrets slot)
  pub alone : (other : Slot) → other ≢ slot → map.get known.secrets other ≡ None

pub record HasNewest (known : Record) (slot : Slot) : Type 0 where
  pub there : IsSome (map.get known.secrets slot)
  pub newest : (other : Slot) → slot_cmp slot other ≡ Less → map.get known.secrets other ≡ None

-- a slot of the user is under the secret
pub record HasSecret (known : Record) (secret : List ℕ) : Type 0 where
  pub slot : Slot
  pub under : map.get known.secrets slot ≡ Some secret

-- a user's record edited, where the user is there
abbrev pub edited : Option Record → (Record → Record) → Option Record
edited None edit = None
edited (Some known) edit = Some (edit known)

-- the map with the user's record, where there is one
abbrev pub with_record : Users → ℕ → Option Record → Users
with_record users user None = users
with_record users user (Some known) = map.insert users user known

-- the map with the record of a user edited who is there
abbrev pub with_edit : Users → ℕ → (Record → Record) → Users
with_edit users user edit = with_record users user (edited (map.get users user) edit)

-- the map after a change
abbrev pub after_change : Users → Change → Users
after_change users (Create user birth) = map.insert users user (record { birth = birth; secrets = new_secrets })
after_change users (Add user slot secret) = with_edit users user (λ known. with_slot known slot secret)
after_change users (Drop user slot) = with_edit users user (λ known. without_slot known slot)
after_change users (Settle user slot) = with_edit users user (λ known. settled_slot known slot)
after_change users (Destroy user) = map.remove users user

-- the map after changes, in order
abbrev pub folded : Users → List Change → Users
folded users [] = users
folded users (change ∷ changes) = folded (after_change users change) changes

-- the map that changes make from nothing
abbrev pub fold_changes : List Change → Users
fold_changes changes = folded no_users changes

-- the user that a change is of
abbrev pub owner_of : Change → ℕ
owner_of (Create user birth) = user
owner_of (Add user slot secret) = user
owner_of (Drop user slot) = user
owner_of (Settle user slot) = user
owner_of (Destroy user) = user
