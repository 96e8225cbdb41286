-- The turns that commands have in common, as what a command names next.
use Rattle.std.specs.Prelude.{ℕ, Bool, Option, Some, None}
use Rattle.deferred_delete.specs.declared.items.Item.{Item}
use Rattle.tree_model.specs.declared.places.Place.TheVariants.{Ce as CePlace}
use Rattle.tree_model.specs.declared.sites.Site.{Site}
use Rattle.tree_model.specs.declared.sites.LocalOp.TheVariants.{RemoveDir}
use Rattle.journal_model.specs.declared.commands.Reply.{Reply}
use Rattle.task_turns.specs.declared.calls.Call.{Call}
use Rattle.task_turns.specs.declared.calls.Call.TheVariants.{Op as OpCall, Read as ReadCall, Decrypt as DecryptCall}
use Rattle.task_turns.specs.declared.calls.Call.TheVariants.{Delete}
use Rattle.task_turns.specs.declared.next.Next.{Next}
use Rattle.task_turns.specs.declared.next.Next.TheVariants.{Call as CallNext, Work as WorkNext, Reply as ReplyNext}
use Rattle.open_task.specs.declared.stages.Doing.{Doing as OpenDoing}
use Rattle.open_task.specs.declared.stages.Doing.TheVariants.{Read, Work, Decrypt}
use Rattle.fixate_task.specs.declared.task.Doing.{Doing as FixDoing}
use Rattle.fixate_task.specs.Task.{op_of, change_by}

-- a call that makes no change
abbrev pub quiet_turn : Call → Next
quiet_turn call = CallNext call None

-- the directory at a site of the user's is removed, which is no change
abbrev pub removing_turn : ℕ → Site → Next
removing_turn user site = quiet_turn (OpCall user (RemoveDir site) None)

-- the turn that opens the user's key
abbrev pub opening_turn : ℕ → OpenDoing → Next
opening_turn user (Read slot) = quiet_turn (ReadCall (CePlace user slot))
opening_turn user (Work job) = WorkNext job
opening_turn user (Decrypt blob app_id sealed) = quiet_turn (DecryptCall blob app_id sealed)

-- the turn that fixates the user's slots
abbrev pub fixing_turn : ℕ → FixDoing → Next
fixing_turn user doing = CallNext (OpCall user (op_of doing) None) (Some (change_by doing))

-- the turn once the work is done: what is due is deleted, and where nothing is comes the reply
abbrev pub ending_turn : Option Item → Bool → Reply → Next
ending_turn None tells reply = ReplyNext reply
ending_turn (Some item) tells reply = quiet_turn (Delete item tells)
