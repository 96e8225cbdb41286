-- What a Book tracks follows the calls: which pending operations make a change, and how many changes are durable.
use Rattle.std.proofs.Common.{◌≡◌, ℕ, ◌+◌, ◌<◌, ◌≤◌, get_or, Bool, true, false, cond, zero, suc, List, [], ◌∷◌, ◌++◌}
use Rattle.std.proofs.Common.{length, take, refl, sym, ap, ◌∙◌, arith, length-append}
use Rattle.std.specs.Prelude.{min, Option, is_some, Ok}
use Rattle.std.proofs.lemmas.List.{take_more}
use Rattle.tree_model.specs.declared.ops.Op.{Op}
use Rattle.tree_model.specs.declared.sites.LocalOp.{LocalOp}
use Rattle.tree_model.specs.declared.sites.LocalOp.TheVariants.{MakeDir, Write, RenameFile}
use Rattle.tree_model.specs.declared.sites.LocalOp.TheVariants.{RenameDir, RemoveFile, RemoveDir}
use Rattle.tree_model.specs.Tree.{Tree, after_op, applied, kind_of, changes_in}
use Rattle.tree_model.specs.Disk.{Disk, view}
use Rattle.tree_model.specs.Sites.{op_of}
use Rattle.journal_model.specs.declared.entries.Change.{Change}
use Rattle.journal_model.specs.declared.entries.Entry.{Entry}
use Rattle.journal_model.specs.declared.entries.Entry.TheVariants.{Began, Changed, Synced, Installed, Evicted}
use Rattle.journal_model.specs.declared.entries.Entry.TheVariants.{Swept}
use Rattle.journal_model.specs.declared.entries.Entry.TheVariants.{Stopped, Restarted, Replied}
use Rattle.journal_model.specs.Machine.{Machine, after_entry, machine_from, machine_after, first_machine}
use Rattle.task_turns.specs.declared.calls.Answer.{Answer}
use Rattle.task_turns.specs.declared.calls.Call.{Call}
use Rattle.task_turns.specs.declared.calls.Call.TheVariants.{Op as OpCall, Sync, List as ListCall, Read}
use Rattle.task_turns.specs.declared.calls.Call.TheVariants.{Generate, Encrypt, Decrypt, Entries, Add, Remove}
use Rattle.task_turns.specs.declared.calls.Call.TheVariants.{Delete}
use Rattle.tree_model.specs.declared.blobs.Blob.{Blob}
use Rattle.bench.specs.declared.made.Made.{Made}
use Rattle.bench.specs.declared.made.Made.TheVariants.{Heard, Failed}
use Rattle.bench.specs.Bench.{Plain as Seen, Does, IsFailed, IsFailedOp, IsMade}
use Rattle.bench.specs.Bench.{was_done}
use Rattle.vold_book.specs.Parts.{TrackerState, changes_made, count_changes, noted}

pub changes_made-append : (tree : Tree) (ops : List Op) (op : Op)
    → changes_made tree (ops ++ op ∷ []) ≡ changes_made tree ops ++ is_some (kind_of (applied tree ops) op) ∷ []
changes_made-append tree [] op = refl
changes_made-append tree (first ∷ ops) op =
    ap (λ rest. is_some (kind_of tree first) ∷ rest) (changes_made-append (after_op tree first) ops op)

pub count-changes_made : (tree : Tree) (ops : List Op) → count_changes (changes_made tree ops) ≡ changes_in tree ops
count-changes_made tree [] = refl
count-changes_made tree (op ∷ ops) =
    ap (λ n. cond (is_some (kind_of tree op)) 1 0 + n) (count-changes_made (after_op tree op) ops)

changes_made-take : (tree : Tree) (keep : ℕ) (ops : List Op)
    → take keep (changes_made tree ops) ≡ changes_made tree (take keep ops)
changes_made-take tree zero ops = refl
changes_made-take tree (suc keep) [] = refl
changes_made-take tree (suc keep) (op ∷ ops) =
    ap (λ rest. is_some (kind_of tree op) ∷ rest) (changes_made-take (after_op tree op) keep ops)

length-changes_made : (tree : Tree) (ops : List Op) → length (changes_made tree ops) ≡ length ops
length-changes_made tree [] = refl
length-changes_made tree (op ∷ ops) = ap (λ n. suc n) (length-changes_made (after_op tree op) ops)

-- how many changes are among the first pending operations
pub count-kept : (disk : Disk) (pending : List Bool) (keep : ℕ) → pending ≡ changes_made disk.stable disk.pending
    → count_changes (take (min keep (length pending)) pending)
    ≡ changes_in disk.stable (take (min keep (length disk.pending)) disk.pending)
count-kept disk pending keep is =
    ap (λ p. count_changes (take (min keep (length p)) p)) is
    ∙ ap (λ n. count_changes (take (min keep n) (changes_made disk.stable disk.pending)))
    (length-changes_made disk.stable disk.pending)
    ∙ ap count_changes (changes_made-take disk.stable (min keep (length disk.pending)) disk.pending)
    ∙ count-changes_made disk.stable (take (min keep (length disk.pending)) disk.pending)

-- whether a call makes a change is told rightly
abbrev pub ChangeIsTold : Tree → Call → Bool → Type 0
ChangeIsTold tree (OpCall user op names) change = change ≡ is_some (kind_of tree (op_of user op))
ChangeIsTold tree call change = Unit {0}

module _ (before after : Seen) (tracker : TrackerState)
    (is : tracker.pending ≡ changes_made before.disk.stable before.disk.pending) where
  same_disk : after.disk ≡ before.disk → tracker.pending ≡ changes_made after.disk.stable after.disk.pending
  same_disk same = is ∙ ap (λ d. changes_made d.stable d.pending) (sym same)

  failed-op : (user : ℕ) (op : LocalOp) (names : Option Blob) (change : Bool) → IsFailedOp before after user op
      → (noted false (OpCall user op names) change tracker).pending
      ≡ changes_made after.disk.stable after.disk.pending
  failed-op user (MakeDir site) names change failed = same_disk (ap (λ b. b.disk) failed)
  failed-op user (Write site file bytes) names change failed =
      ap (λ p. p ++ false ∷ []) is
      ∙ sym (changes_made-append before.disk.stable before.disk.pending (op_of user (Write site file failed.0)))
      ∙ ap (λ b. changes_made b.disk.stable b.disk.pending) (sym failed.1)
  failed-op user (RenameFile site from to) names change failed = same_disk (ap (λ b. b.disk) failed)
  failed-op user (RenameDir from to) names change failed = same_disk (ap (λ b. b.disk) failed)
  failed-op user (RemoveFile site file) names change failed = same_disk (ap (λ b. b.disk) failed)
  failed-op user (RemoveDir site) names change failed = same_disk (ap (λ b. b.disk) failed)

  done-pending : (call : Call) (answer : Answer) (change : Bool) → ChangeIsTold (view before.disk) call change
      → Does before after call answer
      → (noted true call change tracker).pending ≡ changes_made after.disk.stable after.disk.pending
  done-pending (OpCall user op names) answer change told done =
      ap (λ p. p ++ change ∷ []) is
      ∙ ap (λ c. changes_made before.disk.stable before.disk.pending ++ c ∷ []) told
      ∙ sym (changes_made-append before.disk.stable before.disk.pending (op_of user op))
      ∙ ap (λ b. changes_made b.disk.stable b.disk.pending) (sym done.1)
  done-pending Sync answer change told done = ap (λ b. changes_made b.disk.stable b.disk.pending) (sym done.1)
  done-pending ListCall answer change told done = same_disk (ap (λ b. b.disk) done.2)
  done-pending (Read place) answer change told done = same_disk (ap (λ b. b.disk) done.3)
  done-pending (Generate tag app_id) answer change told done = same_disk (ap (λ b. b.disk) done.3)
  done-pending (Encrypt blob app_id nonce key) answer change told done = same_disk (ap (λ b. b.disk) done.1)
  done-pending (Decrypt blob app_id text) answer change told done = same_disk (ap (λ b. b.disk) done.1)
  done-pending Entries answer change told done = same_disk (ap (λ b. b.disk) done.1.2)
  done-pending (Add user class key) answer change told done = same_disk (ap (λ b. b.disk) done.1)
  done-pending (Remove user class) answer change told done = same_disk (ap (λ b. b.disk) done.1)
  done-pending (Delete item tells) answer change told done = same_disk (ap (λ b. b.disk) done.1)

  failed-pending : (call : Call) (change : Bool) → IsFailed before after call
      → (noted false call change tracker).pending ≡ changes_made after.disk.stable after.disk.pending
  failed-pending (OpCall user op names) change failed = failed-op user op names change failed
  failed-pending Sync change failed = same_disk (ap (λ b. b.disk) failed)
  failed-pending ListCall change failed = same_disk (ap (λ b. b.disk) failed)
  failed-pending (Read place) change failed = same_disk (ap (λ b. b.disk) failed)
  failed-pending (Generate tag app_id) change failed = same_disk (ap (λ b. b.disk) failed)
  failed-pending (Encrypt blob app_id nonce key) change failed = same_disk (ap (λ b. b.disk) failed)
  failed-pending (Decrypt blob app_id text) change failed = same_disk (ap (λ b. b.disk) failed)
  failed-pending Entries change failed = same_disk (ap (λ b. b.disk) failed)
  failed-pending (Add user class key) change failed = same_disk (ap (λ b. b.disk) failed)
  failed-pending (Remove user class) change failed = same_disk (ap (λ b. b.disk) failed)
  failed-pending (Delete item tells) change failed = same_disk (ap (λ b. b.disk) failed)

  -- the pending operations follow a call, whether the device did it or failed
  pub pending-noted : (call : Call) (change : Bool) (made : Made) → ChangeIsTold (view before.disk) call change
      → IsMade before after call (Ok made)
      → (noted (was_done made) call change tracker).pending ≡ changes_made after.disk.stable after.disk.pending
  pending-noted call change (Heard answer) told done = done-pending call answer change told done
  pending-noted call change (Failed device) told failed = failed-pending call change failed.1

-- a call leaves the phase, the boot and the level as they are
pub record StaysTracked (before after : TrackerState) : Type 0 where
  pub phase : after.phase ≡ before.phase
  pub boot : after.boot ≡ before.boot
  pub level : after.level ≡ before.level

pub noted-stays : (made : Bool) (call : Call) (change : Bool) (tracker : TrackerState)
    → StaysTracked tracker (noted made call change tracker)
noted-stays true (OpCall user op names) change tracker = record { phase = refl; boot = refl; level = refl }
noted-stays true Sync change tracker = record { phase = refl; boot = refl; level = refl }
noted-stays true ListCall change tracker = record { phase = refl; boot = refl; level = refl }
noted-stays true (Read place) change tracker = record { phase = refl; boot = refl; level = refl }
noted-stays true (Generate tag app_id) change tracker = record { phase = refl; boot = refl; level = refl }
noted-stays true (Encrypt blob app_id nonce key) change tracker = record { phase = refl; boot = refl; level = refl }
noted-stays true (Decrypt blob app_id text) change tracker = record { phase = refl; boot = refl; level = refl }
noted-stays true Entries change tracker = record { phase = refl; boot = refl; level = refl }
noted-stays true (Add user class key) change tracker = record { phase = refl; boot = refl; level = refl }
noted-stays true (Remove user class) change tracker = record { phase = refl; boot = refl; level = refl }
noted-stays true (Delete item tells) change tracker = record { phase = refl; boot = refl; level = refl }
noted-stays false (OpCall user (MakeDir site) names) change tracker =
    record { phase = refl; boot = refl; level = refl }
noted-stays false (OpCall user (Write site file bytes) names) change tracker =
    record { phase = refl; boot = refl; level = refl }
noted-stays false (OpCall user (RenameFile site from to) names) change tracker =
    record { phase = refl; boot = refl; level = refl }
noted-stays false (OpCall user (RenameDir from to) names) change tracker =
    record { phase = refl; boot = refl; level = refl }
noted-stays false (OpCall user (RemoveFile site file) names) change tracker =
    record { phase = refl; boot = refl; level = refl }
noted-stays false (OpCall user (RemoveDir site) names) change tracker =
    record { phase = refl; boot = refl; level = refl }
noted-stays false Sync change tracker = record { phase = refl; boot = refl; level = refl }
noted-stays false ListCall change tracker = record { phase = refl; boot = refl; level = refl }
noted-stays false (Read place) change tracker = record { phase = refl; boot = refl; level = refl }
noted-stays false (Generate tag app_id) change tracker = record { phase = refl; boot = refl; level = refl }
noted-stays false (Encrypt blob app_id nonce key) change tracker = record { phase = refl; boot = refl; level = refl }
noted-stays false (Decrypt blob app_id text) change tracker = record { phase = refl; boot = refl; level = refl }
noted-stays false Entries change tracker = record { phase = refl; boot = refl; level = refl }
noted-stays false (Add user class key) change tracker = record { phase = refl; boot = refl; level = refl }
noted-stays false (Remove user class) change tracker = record { phase = refl; boot = refl; level = refl }
noted-stays false (Delete item tells) change tracker = record { phase = refl; boot = refl; level = refl }

-- a failed call leaves what is durable
pub failed-durable : (call : Call) (change : Bool) (tracker : TrackerState)
    → (noted false call change tracker).durable ≡ tracker.durable
failed-durable (OpCall user (MakeDir site) names) change tracker = refl
failed-durable (OpCall user (Write site file bytes) names) change tracker = refl
failed-durable (OpCall user (RenameFile site from to) names) change tracker = refl
failed-durable (OpCall user (RenameDir from to) names) change tracker = refl
failed-durable (OpCall user (RemoveFile site file) names) change tracker = refl
failed-durable (OpCall user (RemoveDir site) names) change tracker = refl
failed-durable Sync change tracker = refl
failed-durable ListCall change tracker = refl
failed-durable (Read place) change tracker = refl
failed-durable (Generate tag app_id) change tracker = refl
failed-durable (Encrypt blob app_id nonce key) change tracker = refl
failed-durable (Decrypt blob app_id text) change tracker = refl
failed-durable Entries change tracker = refl
failed-durable (Add user class key) change tracker = refl
failed-durable (Remove user class) change tracker = refl
failed-durable (Delete item tells) change tracker = refl

shorter : (n : ℕ) (changes : List Change) → length (take n changes) ≤ length changes
shorter zero changes = omega arith
shorter (suc n) [] = omega arith
shorter (suc n) (change ∷ changes) = let rest = shorter n changes in omega (arith, rest)

log-entry : (before : List Entry) (machine : Machine) (entry : Entry)
    → length (after_entry before machine entry).log ≤ length machine.log + 1
log-entry before machine (Began n a c) = omega arith
log-entry before machine (Changed n change) = omega (arith, length-append machine.log (change ∷ []))
log-entry before machine Synced = omega arith
log-entry before machine (Installed user class) = omega arith
log-entry before machine (Evicted user class) = omega arith
log-entry before machine (Swept blob) = omega arith
log-entry before machine (Stopped kept) = let short = shorter kept machine.log in omega (arith, short)
log-entry before machine (Restarted boot level) = omega arith
log-entry before machine (Replied n reply) = omega arith

log-from : (before : List Entry) (machine : Machine) (entries : List Entry)
    → length (machine_from before machine entries).log ≤ length machine.log + length entries
log-from before machine [] = omega arith
log-from before machine (entry ∷ entries) =
    let one = log-entry before machine entry in
    let rest = log-from (before ++ entry ∷ []) (after_entry before machine entry) entries in
    omega (arith, one, rest)

-- a log has no more changes than its journal has entries
pub log-short : (entries : List Entry) → length (machine_after entries).log ≤ length entries
log-short entries = let all = log-from [] first_machine entries in omega (arith, all)

count-append : (pending : List Bool) (change : Bool)
    → count_changes (pending ++ change ∷ []) ≡ count_changes pending + cond change 1 0
count-append [] change = omega arith
count-append (first ∷ pending) change = let rest = count-append pending change in omega (arith, rest)

-- one more of the operations
pub count-more : (pending : List Bool) (i : ℕ) → i < length pending
    → count_changes (take (i + 1) pending) ≡ count_changes (take i pending) + cond (get_or pending i false) 1 0
count-more pending i within =
    ap count_changes (take_more pending i false within) ∙ count-append (take i pending) (get_or pending i false)

-- fewer of them make no more changes
pub count-take : (pending : List Bool) (keep : ℕ) → count_changes (take keep pending) ≤ count_changes pending
count-take pending zero = omega arith
count-take [] (suc keep) = omega arith
count-take (first ∷ pending) (suc keep) = let rest = count-take pending keep in omega (arith, rest)
