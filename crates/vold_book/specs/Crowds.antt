-- How many users are there or being created, by the places that are known and by what runs.
use Rattle.std.specs.Prelude.{ℕ, ◌+◌, Bool, nat_le, List, [], ◌∷◌, length, Option, Some, None, slice_get}
use Rattle.std.specs.List.{flat_map}
use Rattle.std.specs.FinMap as map
use Rattle.tree_model.specs.declared.places.Place.{Place}
use Rattle.tree_model.specs.declared.places.Place.TheVariants.{De}
use Rattle.journal_model.specs.declared.commands.Command.{Command}
use Rattle.journal_model.specs.declared.commands.Command.TheVariants.{Create}
use Rattle.journal_model.specs.Machine.{max_users}
use Rattle.step_core.specs.Table.{NamedPlaces}
use Rattle.vold_book.specs.declared.tasks.Running.{Running}
use Rattle.vold_book.specs.declared.tasks.Task.{Task}
use Rattle.vold_book.specs.declared.tasks.Task.TheVariants.{Refusal}
use Rattle.vold_book.specs.State.{Docket}

-- the user whose device key's directory a place is, as a list
abbrev pub user_at : Place → List ℕ
user_at (De user) = user ∷ []
user_at place = []

-- the users that are there
abbrev pub users_in : NamedPlaces → List ℕ
users_in places = flat_map user_at (map.keys places)

-- a user who isn't there, as a list
abbrev pub unless_known : Option (Option (List ℕ)) → ℕ → List ℕ
unless_known None user = user ∷ []
unless_known (Some named) user = []

abbrev pub made_by : NamedPlaces → Option Command → List ℕ
made_by places (Some (Create user)) = unless_known (map.get places (De user)) user
made_by places command = []

-- whom a running command that wasn't refused is creating, as a list
abbrev pub coming_by : NamedPlaces → Option Command → Task → List ℕ
coming_by places command (Refusal reply) = []
coming_by places command task = made_by places command

abbrev pub coming_of : NamedPlaces → List Command → Running → List ℕ
coming_of places commands it = coming_by places (slice_get commands it.number) it.task

-- the users that are being created
abbrev pub users_coming : NamedPlaces → Docket → List ℕ
users_coming places docket = flat_map (coming_of places docket.commands) (map.values docket.running)

abbrev pub is_crowded : NamedPlaces → Docket → Bool
is_crowded places docket = nat_le max_users (length (users_in places) + length (users_coming places docket))
