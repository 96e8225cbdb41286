-- A change split into whose it is and what it is to that user, and what changes make of the user's record.
use Rattle.std.specs.Prelude.{ℕ, ◌==◌, cond, List, [], ◌∷◌, Option, Some, None}
use Rattle.tree_model.specs.Tree.{Kind, Create as Creates, Add as Adds, Drop as Drops, Settle as Settles}
use Rattle.tree_model.specs.Tree.{Destroy as Destroys}
use Rattle.journal_model.specs.declared.entries.Change.{Change}
use Rattle.journal_model.specs.declared.entries.Change.TheVariants.{Create, Add, Drop, Settle, Destroy}
use Rattle.journal_model.specs.Users.{Record, new_secrets, owner_of, with_slot, without_slot, settled_slot, edited}
use Rattle.user_world.specs.declared.changes.LocalChange.{LocalChange}
use Rattle.user_world.specs.declared.changes.LocalChange.TheVariants.{Born, Added, Dropped, Settled, Destroyed}

abbrev pub change_of : ℕ → LocalChange → Change
change_of user (Born birth) = Create user birth
change_of user (Added slot secret) = Add user slot secret
change_of user (Dropped slot) = Drop user slot
change_of user (Settled slot) = Settle user slot
change_of user Destroyed = Destroy user

abbrev pub local_of : Change → LocalChange
local_of (Create user birth) = Born birth
local_of (Add user slot secret) = Added slot secret
local_of (Drop user slot) = Dropped slot
local_of (Settle user slot) = Settled slot
local_of (Destroy user) = Destroyed

abbrev pub kind_of_change : LocalChange → Kind
kind_of_change (Born birth) = Creates
kind_of_change (Added slot secret) = Adds
kind_of_change (Dropped slot) = Drops
kind_of_change (Settled slot) = Settles
kind_of_change Destroyed = Destroys

-- the user's record after a change
abbrev pub known_after : Option Record → LocalChange → Option Record
known_after known (Born birth) = Some (record { birth = birth; secrets = new_secrets })
known_after known (Added slot secret) = edited known (λ user_known. with_slot user_known slot secret)
known_after known (Dropped slot) = edited known (λ user_known. without_slot user_known slot)
known_after known (Settled slot) = edited known (λ user_known. settled_slot user_known slot)
known_after known Destroyed = None

-- and after changes, in order
abbrev pub known_through : Option Record → List LocalChange → Option Record
known_through known [] = known
known_through known (change ∷ changes) = known_through (known_after known change) changes

-- the changes of one user
abbrev pub changes_for : ℕ → List Change → List LocalChange
changes_for user [] = []
changes_for user (change ∷ changes) =
    cond (owner_of change == user) (local_of change ∷ changes_for user changes) (changes_for user changes)

-- a note of a change, if there is one: as a list before others, and as the kind of change
abbrev pub if_noted : {A : Type 0} → Option LocalChange → (LocalChange → A) → List A → List A
if_noted None to rest = rest
if_noted (Some change) to rest = to change ∷ rest

abbrev pub noted_kind : Option LocalChange → Option Kind
noted_kind None = None
noted_kind (Some change) = Some (kind_of_change change)

-- the user's record once the change of a note was made
abbrev pub known_with : Option Record → Option LocalChange → Option Record
known_with known None = known
known_with known (Some change) = known_after known change
