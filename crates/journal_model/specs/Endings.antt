-- Whether a user's keys were ended: a destroy was answered, and no create of the user began since.
use Rattle.std.specs.Prelude.{ℕ, ◌==◌, ◌&&◌, ◌||◌, not, Bool, false, List, [], ◌∷◌, ◌++◌, Option, Some, None}
use Rattle.std.specs.FinMap as map
use Rattle.journal_model.specs.declared.commands.Command.{Command}
use Rattle.journal_model.specs.declared.commands.Command.TheVariants.{Create, Destroy}
use Rattle.journal_model.specs.declared.commands.Reply.TheVariants.{Gone}
use Rattle.journal_model.specs.declared.entries.Entry.{Entry}
use Rattle.journal_model.specs.declared.entries.Entry.TheVariants.{Began, Replied}
use Rattle.journal_model.specs.Machine.{Machine, Running, first_machine, after_entry}

-- whether the command destroys the user
abbrev pub destroys : ℕ → Command → Bool
destroys user (Destroy owner) = owner == user
destroys user command = false

abbrev pub destroyed_by : ℕ → Option Running → Bool
destroyed_by user None = false
destroyed_by user (Some running) = destroys user running.command

abbrev pub ended_after : ℕ → Machine → Bool → Entry → Bool
ended_after user machine ended (Began number actor (Create owner)) = not (owner == user) && ended
ended_after user machine ended (Replied number Gone) = destroyed_by user (map.get machine.running number) || ended
ended_after user machine ended entry = ended

abbrev pub ended_from : ℕ → List Entry → Machine → Bool → List Entry → Bool
ended_from user before machine ended [] = ended
ended_from user before machine ended (entry ∷ entries) =
    ended_from user (before ++ entry ∷ []) (after_entry before machine entry) (ended_after user machine ended entry)
    entries

-- of a whole journal
abbrev pub is_ended : List Entry → ℕ → Bool
is_ended entries user = ended_from user [] first_machine false entries
