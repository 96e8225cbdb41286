-- What contracts see of a Book's own parts: the ledger of what was done, and what it tracks of the machine.
use Rattle.std.specs.Prelude.{◌≡◌, ℕ, ◌+◌, Bool, true, false, cond, List, [], ◌∷◌, ◌++◌, Option, Some, None, is_some}
use Rattle.tree_model.specs.declared.ops.Op.{Op}
use Rattle.tree_model.specs.declared.sites.LocalOp.TheVariants.{Write}
use Rattle.tree_model.specs.Tree.{Tree, after_op, kind_of}
use Rattle.tree_model.specs.Disk.{Disk}
use Rattle.journal_model.specs.declared.commands.Actor.{Actor}
use Rattle.journal_model.specs.declared.entries.Entry.{Entry}
use Rattle.journal_model.specs.declared.entries.Order.{Order}
use Rattle.journal_model.specs.declared.phase.Phase.{Phase}
use Rattle.journal_model.specs.declared.phase.Phase.TheVariants.{Up}
use Rattle.journal_model.specs.Machine.{Machine}
use Rattle.task_turns.specs.declared.calls.Call.{Call}
use Rattle.task_turns.specs.declared.calls.Call.TheVariants.{Op as OpCall, Sync}

pub record LedgerState : Type 0 where
  pub entries : List Entry
  -- the actor of each counted call, in order
  pub callers : List Actor
  -- what was given to `stop`, in order
  pub orders : List Order

-- the ledger, and how many entries, callers and orders it has memory for
pub record RoomyLedger : Type 0 where
  pub now : LedgerState
  pub room : ℕ

abbrev pub no_ledger : LedgerState
no_ledger = record { entries = []; callers = []; orders = [] }

-- the journal with an entry, where there is one
abbrev pub with_entry : List Entry → Option Entry → List Entry
with_entry entries None = entries
with_entry entries (Some entry) = entries ++ entry ∷ []

-- the ledger with one more caller, and the entry of its call
abbrev pub ledger_with : LedgerState → Actor → Option Entry → LedgerState
ledger_with ledger caller entry = record ledger {
  entries = with_entry ledger.entries entry;
  callers = ledger.callers ++ caller ∷ [];
}

pub record TrackerState : Type 0 where
  pub phase : Phase
  -- how often the machine started again
  pub boot : ℕ
  pub level : ℕ
  -- how many changes of the present timeline are durable
  pub durable : ℕ
  -- for each pending operation, whether it makes a change
  pub pending : List Bool

-- the tracker, and how many pending operations it has memory for
pub record RoomyTracker : Type 0 where
  pub now : TrackerState
  pub room : ℕ

-- the machine as it begins
abbrev pub new_tracker : TrackerState
new_tracker = record { phase = Up; boot = 0; level = 1; durable = 0; pending = [] }

-- how many make a change
abbrev pub count_changes : List Bool → ℕ
count_changes [] = 0
count_changes (change ∷ changes) = cond change 1 0 + count_changes changes

-- after a call that the device did: its operation is pending, or all is durable
abbrev pub noted_made : Call → Bool → TrackerState → TrackerState
noted_made (OpCall user op names) change tracker = record tracker { pending = tracker.pending ++ change ∷ [] }
noted_made Sync change tracker =
    record tracker { durable = tracker.durable + count_changes tracker.pending; pending = [] }
noted_made call change tracker = tracker

-- after one that it didn't: a failed write is pending too, with other bytes
abbrev pub noted_failed : Call → TrackerState → TrackerState
noted_failed (OpCall user (Write site file bytes) names) tracker =
    record tracker { pending = tracker.pending ++ false ∷ [] }
noted_failed call tracker = tracker

abbrev pub noted : Bool → Call → Bool → TrackerState → TrackerState
noted true call change tracker = noted_made call change tracker
noted false call change tracker = noted_failed call tracker

-- whether each operation makes a change, in the tree before it
abbrev pub changes_made : Tree → List Op → List Bool
changes_made tree [] = []
changes_made tree (op ∷ ops) = is_some (kind_of tree op) ∷ changes_made (after_op tree op) ops

-- the tracker says what the journal says of the machine, and what the disk has pending
pub record Agrees (tracker : TrackerState) (machine : Machine) (disk : Disk) : Type 0 where
  pub phase : machine.phase ≡ tracker.phase
  pub boot : machine.boot ≡ tracker.boot
  pub level : machine.level ≡ tracker.level
  pub durable : machine.kept ≡ tracker.durable
  pub pending : tracker.pending ≡ changes_made disk.stable disk.pending
