-- What calls that failed leave.
use Rattle.std.proofs.Common.{◌≡◌, ◌≢◌, ℕ, refl, sym, ◌∙◌, rules}
use Rattle.std.specs.Prelude.{Err}
use Rattle.tree_model.specs.declared.device.DevFault.{DevFault}
use Rattle.tree_model.specs.declared.device.DevFault.TheVariants.{Failed as DeviceFailed, NoMemory as WantsMemory}
use Rattle.tree_model.specs.declared.sites.LocalOp.{LocalOp}
use Rattle.tree_model.specs.declared.sites.LocalOp.TheVariants.{Write}
use Rattle.tree_model.specs.Counted.{Counts, IsCounted}
use Rattle.deferred_delete.specs.Deferral.{Deferral}
use Rattle.journal_model.specs.declared.entries.Device.{Device}
use Rattle.journal_model.specs.declared.entries.Device.TheVariants.{Tree as TreeDevice, Store as StoreDevice}
use Rattle.journal_model.specs.declared.entries.Device.TheVariants.{Ring as RingDevice}
use Rattle.task_turns.specs.declared.calls.Call.{Call}
use Rattle.task_turns.specs.declared.calls.Call.TheVariants.{Op, Entries}
use Rattle.bench.specs.declared.bench.Bench.{Bench}
use Rattle.bench.specs.Bench.{Senses, Plain, seen, counts_of, IsFailedOp, IsFailed, Rests}
use Rattle.bench.specs.Seen.{state_of, Makes}
use Rattle.bench.specs.Steps.{failure_of}

-- a failure is counted alike whatever the call would have answered
counted-alike : {R : Type 0} (before after : Counts) (fault : DevFault) → IsCounted {T = R} before after (Err fault)
    → IsCounted {T = Unit {0}} before after (Err fault)
counted-alike before after fault counted = search rules

-- a list of the entries that failed, with the places that were promised given back
module _ {T K G : Type 0} (senses : Senses T K G) (before : Bench T K G) (store : K) (list : Deferral) where
  abbrev left : Bench T K G
  left = record before { store = store; list = list }

  others : (other : Device) → other ≢ StoreDevice
      → counts_of (seen senses (state_of left)) other ≡ counts_of (seen senses (state_of before)) other
  others TreeDevice differ = refl
  others StoreDevice differ = absurd (differ refl)
  others RingDevice differ = refl

  pub entries-fail : {R : Type 0} (fault : DevFault) → list ≡ before.list
      → senses.store store ≡ senses.store before.store
      → IsCounted {T = R} (senses.store_counts before.store) (senses.store_counts store) (Err fault)
      → Makes senses before left Entries (failure_of StoreDevice fault)
  entries-fail DeviceFailed lists same counted = record {
    made = (refl, (λ i. record (seen senses (state_of left)) { store = same i; list = lists i }));
    counted = record {
      counts = counted-alike (senses.store_counts before.store) (senses.store_counts store) DeviceFailed counted;
      others = others;
    };
    seed = refl;
    marks = refl;
    dirty = refl;
    unread = tt;
    brings = tt;
    answers = tt;
  }
  entries-fail WantsMemory lists same counted = record {
    made = λ i. record (seen senses (state_of left)) {
      store = same i;
      list = lists i;
      store_counts = counted.uncounted refl i;
    };
    counted = record {
      counts = counted-alike (senses.store_counts before.store) (senses.store_counts store) WantsMemory counted;
      others = others;
    };
    seed = refl;
    marks = refl;
    dirty = refl;
    unread = tt;
    brings = tt;
    answers = tt;
  }

-- a call that failed leaves all but the disk and the counts
abbrev pub Left : Plain → Plain → Type 0
Left before after = after ≡ record before {
  disk = after.disk;
  tree_counts = after.tree_counts;
  store_counts = after.store_counts;
  ring_counts = after.ring_counts;
}

rest-leaves : (before after : Plain) → Rests before after → Left before after
rest-leaves before after rests = rests ∙ λ i. record before {
  disk = (sym rests i).disk;
  tree_counts = after.tree_counts;
  store_counts = after.store_counts;
  ring_counts = after.ring_counts;
}

op-leaves : (before after : Plain) (user : ℕ) (op : LocalOp) → IsFailedOp before after user op → Left before after
op-leaves before after user (Write site file bytes) failed = λ i. record (failed.1 i) {
  disk = after.disk;
  store_counts = after.store_counts;
  ring_counts = after.ring_counts;
}
op-leaves before after user op failed = rest-leaves before after failed

pub failed-leaves : (before after : Plain) (call : Call) → IsFailed before after call → Left before after
failed-leaves before after (Op user op names) failed = op-leaves before after user op failed
failed-leaves before after call failed = rest-leaves before after failed
