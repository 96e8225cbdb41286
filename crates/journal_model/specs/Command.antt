-- The actor of a command, and the user whom it is for.
use Rattle.std.specs.Prelude.{ℕ, Option, Some, None}
use Rattle.journal_model.specs.declared.commands.Actor.{Actor}
use Rattle.journal_model.specs.declared.commands.Actor.TheVariants.{Boot, User}
use Rattle.journal_model.specs.declared.commands.Command.{Command}
use Rattle.journal_model.specs.declared.commands.Command.TheVariants.{Create, Unlock, Lock, Protect, Fixate}
use Rattle.journal_model.specs.declared.commands.Command.TheVariants.{Destroy, Recover}

abbrev pub actor_of : Command → Actor
actor_of (Create user) = User user
actor_of (Unlock user secret) = User user
actor_of (Lock user) = User user
actor_of (Protect user given fresh) = User user
actor_of (Fixate user) = User user
actor_of (Destroy user) = User user
actor_of Recover = Boot

abbrev pub user_in_actor : Actor → Option ℕ
user_in_actor (User user) = Some user
user_in_actor actor = None

-- the user whom a command is for, if it is for one
abbrev pub user_in : Command → Option ℕ
user_in command = user_in_actor (actor_of command)
