-- The entry that a call has in the journal where its device did it, and when the entry may come.
use Rattle.std.specs.Prelude.{ℕ, List, Option, Some, None}
use Rattle.journal_model.specs.declared.entries.Entry.{Entry}
use Rattle.journal_model.specs.declared.entries.Entry.TheVariants.{Changed, Synced, Installed, Evicted}
use Rattle.journal_model.specs.declared.entries.Entry.TheVariants.{Swept}
use Rattle.journal_model.specs.Machine.{Machine, after_entry, MayCome}
use Rattle.user_world.specs.declared.changes.LocalChange.{LocalChange}
use Rattle.user_world.specs.Changes.{change_of}
use Rattle.key_directory.specs.Tried.{attempts_after}
use Rattle.key_directory.specs.Vaults.{Attempts}
use Rattle.task_turns.specs.declared.calls.Call.{Call}
use Rattle.task_turns.specs.declared.calls.Call.TheVariants.{Op, Sync, Add, Remove, Delete}
use Rattle.bench.specs.declared.made.Made.{Made}
use Rattle.bench.specs.declared.made.Made.TheVariants.{Heard, Failed}

abbrev pub changed_entry : ℕ → ℕ → Option LocalChange → Option Entry
changed_entry number user None = None
changed_entry number user (Some change) = Some (Changed number (change_of user change))

abbrev pub entry_of : ℕ → Call → Option LocalChange → Option Entry
entry_of number (Op user op names) change = changed_entry number user change
entry_of number Sync change = Some Synced
entry_of number (Add user class key) change = Some (Installed user class)
entry_of number (Remove user class) change = Some (Evicted user class)
entry_of number (Delete item tells) change = Some (Swept item.blob)
entry_of number call change = None

-- a call that failed has none
abbrev pub made_entry : Made → Option Entry → Option Entry
made_entry (Heard answer) entry = entry
made_entry (Failed device) entry = None

-- the machine after the entry of a turn, where it has one, and that it may come
abbrev pub machine_with : List Entry → Machine → Option Entry → Machine
machine_with entries machine None = machine
machine_with entries machine (Some entry) = after_entry entries machine entry

-- and what was tried with secrets then, by user
abbrev pub tried_with : List ℕ → Machine → (ℕ → Attempts) → Option Entry → (ℕ → Attempts)
tried_with seed machine tried None = tried
tried_with seed machine tried (Some entry) = λ user. attempts_after seed user machine (tried user) entry

abbrev pub may_with : List Entry → Machine → Option Entry → Type 0
may_with entries machine None = Unit {0}
may_with entries machine (Some entry) = MayCome entries machine entry
