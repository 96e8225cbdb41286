-- The journal as text: a line that counts the entries, and one line for each.
use Rattle.std.specs.Prelude.{ℕ, List, [], ◌∷◌, ◌++◌, length, codes}
use Rattle.std.specs.List.{flat_map}
use Rattle.journal_model.specs.declared.commands.Command.{Command}
use Rattle.journal_model.specs.declared.commands.Reply.{Reply}
use Rattle.journal_model.specs.declared.commands.Reply.TheVariants.{Done, Ended, Gone, UserExists, TooManyUsers}
use Rattle.journal_model.specs.declared.commands.Reply.TheVariants.{NoUser, NotInstalled, NoSlot, WrongSecret, Ready}
use Rattle.journal_model.specs.declared.commands.Reply.TheVariants.{TreeFault, StoreFault, RingFault}
use Rattle.journal_model.specs.declared.entries.Change.{Change}
use Rattle.journal_model.specs.declared.entries.Change.TheVariants.{Create as Created, Add as Added}
use Rattle.journal_model.specs.declared.entries.Change.TheVariants.{Drop as Dropped, Settle as Settled}
use Rattle.journal_model.specs.declared.entries.Change.TheVariants.{Destroy as Destroyed}
use Rattle.journal_model.specs.declared.entries.Entry.{Entry}
use Rattle.journal_model.specs.declared.entries.Entry.TheVariants.{Began, Changed, Synced, Installed, Evicted}
use Rattle.journal_model.specs.declared.entries.Entry.TheVariants.{Swept, Stopped, Restarted, Replied}
use Rattle.script_text.specs.declared.script.Line.TheVariants.{Do}
use Rattle.script_text.specs.Words.{decimal, bytes_word, actor_word, class_word, slot_word, line_of}
use Rattle.script_text.specs.Script.{line_words}

-- a command, as the line of a script that gives it
abbrev pub command_words : Command → List (List ℕ)
command_words command = line_words (Do command)

-- a change: its name, the user, and when that user was created, the further slot with its secret, or the slot
abbrev pub change_words : Change → List (List ℕ)
change_words (Created user birth) = codes "create" ∷ decimal user ∷ decimal birth.boot ∷ decimal birth.index ∷ []
change_words (Added user slot secret) = codes "add" ∷ decimal user ∷ slot_word slot ∷ bytes_word secret ∷ []
change_words (Dropped user slot) = codes "drop" ∷ decimal user ∷ slot_word slot ∷ []
change_words (Settled user slot) = codes "settle" ∷ decimal user ∷ slot_word slot ∷ []
change_words (Destroyed user) = codes "destroy" ∷ decimal user ∷ []

-- how a command ended, and for a recovery the number of deletes
abbrev pub reply_words : Reply → List (List ℕ)
reply_words Done = codes "ok" ∷ []
reply_words (Ended count) = codes "ok" ∷ decimal count ∷ []
reply_words Gone = codes "gone" ∷ []
reply_words UserExists = codes "user-exists" ∷ []
reply_words TooManyUsers = codes "too-many-users" ∷ []
reply_words NoUser = codes "no-user" ∷ []
reply_words NotInstalled = codes "not-installed" ∷ []
reply_words NoSlot = codes "no-slot" ∷ []
reply_words WrongSecret = codes "wrong-secret" ∷ []
reply_words Ready = codes "ready" ∷ []
reply_words TreeFault = codes "tree-fault" ∷ []
reply_words StoreFault = codes "store-fault" ∷ []
reply_words RingFault = codes "ring-fault" ∷ []

-- an entry: what happened, and its numbers
abbrev pub entry_words : Entry → List (List ℕ)
entry_words (Began number actor command) = codes "began" ∷ decimal number ∷ actor_word actor ∷ command_words command
entry_words (Changed number change) = codes "changed" ∷ decimal number ∷ change_words change
entry_words Synced = codes "synced" ∷ []
entry_words (Installed user class) = codes "installed" ∷ decimal user ∷ class_word class ∷ []
entry_words (Evicted user class) = codes "evicted" ∷ decimal user ∷ class_word class ∷ []
entry_words (Swept blob) = codes "swept" ∷ bytes_word blob ∷ []
entry_words (Stopped kept) = codes "stopped" ∷ decimal kept ∷ []
entry_words (Restarted boot level) = codes "restarted" ∷ decimal boot ∷ decimal level ∷ []
entry_words (Replied number reply) = codes "replied" ∷ decimal number ∷ reply_words reply

-- the line of an entry
abbrev pub entry_line : Entry → List ℕ
entry_line entry = line_of (entry_words entry)

-- the line that counts the entries, then theirs
abbrev pub journal_text : List Entry → List ℕ
journal_text entries = line_of (codes "journal" ∷ decimal (length entries) ∷ []) ++ flat_map entry_line entries
