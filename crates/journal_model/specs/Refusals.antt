-- The refusals, each said once, over plain facts and in the order of trial.
use Rattle.std.specs.Prelude.{Bool, true, false, not, Option, Some, None}
use Rattle.journal_model.specs.declared.commands.Command.{Command}
use Rattle.journal_model.specs.declared.commands.Command.TheVariants.{Create, Unlock, Lock, Protect, Fixate}
use Rattle.journal_model.specs.declared.commands.Command.TheVariants.{Destroy, Recover}
use Rattle.journal_model.specs.declared.commands.Reply.{Reply}
use Rattle.journal_model.specs.declared.commands.Reply.TheVariants.{UserExists, TooManyUsers, NoUser, NotInstalled}
use Rattle.journal_model.specs.declared.commands.Reply.TheVariants.{NoSlot, Ready}
use Rattle.journal_model.specs.declared.refusals.Facts.{Facts}

abbrev pub due : Bool → Reply → Option Reply
due true refusal = Some refusal
due false refusal = None

-- the first of two that is due
abbrev pub first_due : Option Reply → Option Reply → Option Reply
first_due None second = second
first_due (Some refusal) second = Some refusal

-- the refusal that is due when a command begins
abbrev pub refusal_of : Command → Facts → Option Reply
refusal_of (Create user) facts = first_due (due facts.present UserExists) (due facts.crowded TooManyUsers)
refusal_of (Unlock user secret) facts = due (not facts.present) NoUser
refusal_of (Lock user) facts = first_due (due (not facts.present) NoUser) (due (not facts.installed) NotInstalled)
refusal_of (Protect user given fresh) facts =
    first_due (due (not facts.present) NoUser) (due facts.full NoSlot)
refusal_of (Fixate user) facts = due (not facts.present) NoUser
refusal_of (Destroy user) facts = due (not facts.present) NoUser
refusal_of Recover facts = due facts.ready Ready
