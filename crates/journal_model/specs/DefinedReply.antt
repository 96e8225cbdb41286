-- The refusal of a command that the map of users alone decides.
use Rattle.std.specs.Prelude.{◌≡◌, true, false, Option, Some, nat_le}
use Rattle.std.specs.FinMap as map
use Rattle.journal_model.specs.declared.commands.Command.{Command}
use Rattle.journal_model.specs.declared.commands.Reply.{Reply}
use Rattle.journal_model.specs.declared.refusals.Facts.{Facts}
use Rattle.journal_model.specs.Command.{user_in}
use Rattle.journal_model.specs.Refusals.{refusal_of}
use Rattle.journal_model.specs.Users.{Users, fold_changes}
use Rattle.journal_model.specs.Machine.{Machine, is_present, is_full, max_users, verdict_of}

-- what the map decides, and of the rest what refuses least: no user is being created, the user's key is installed, and
-- the machine isn't ready
abbrev pub defined_facts : Command → Users → Facts
defined_facts command users = record {
  present = is_present (user_in command) users;
  crowded = nat_le max_users (map.len users);
  installed = true;
  full = is_full (user_in command) users;
  ready = false;
}

-- the refusal that is due whatever else is the case
abbrev pub defined_reply_of : Command → Users → Option Reply
defined_reply_of command users = refusal_of command (defined_facts command users)

-- where there is one, it is the verdict of each machine whose log makes the map
abbrev pub DefinedReplyIsVerdict : Type 0
DefinedReplyIsVerdict = (machine : Machine) (command : Command) (users : Users) (reply : Reply)
    → fold_changes machine.log ≡ users → defined_reply_of command users ≡ Some reply
    → verdict_of machine command ≡ Some reply
