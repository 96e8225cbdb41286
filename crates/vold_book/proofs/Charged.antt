-- Replies that tell of a failure stay charged to failures of their devices, through each turn, stop and restart.
use Rattle.std.proofs.Common.{◌≡◌, ◌≢◌, ◌≤◌, ◌⊎◌, inl, inr, ◌+◌, ◌-◌, ◌^◌, ℕ, List, [], ◌∷◌, ◌++◌, IfSome}
use Rattle.std.proofs.Common.{refl, ap, ◌∙◌, subst, sym, arith}
use Rattle.std.specs.Prelude.{Option, Some, None, Ok}
use Rattle.std.specs.FinMap as map
use Rattle.tree_model.specs.declared.ops.Cut.{Cut}
use Rattle.tree_model.specs.Counted.{Rose}
use Rattle.journal_model.specs.declared.commands.Actor.{Actor}
use Rattle.journal_model.specs.declared.commands.Command.{Command}
use Rattle.journal_model.specs.declared.commands.Reply.{Reply}
use Rattle.journal_model.specs.declared.commands.Reply.TheVariants.{TreeFault, StoreFault, RingFault}
use Rattle.journal_model.specs.declared.entries.Device.{Device}
use Rattle.journal_model.specs.declared.entries.Device.TheVariants.{Tree as TreeDevice, Store as StoreDevice}
use Rattle.journal_model.specs.declared.entries.Device.TheVariants.{Ring as RingDevice}
use Rattle.journal_model.specs.declared.entries.Entry.{Entry}
use Rattle.journal_model.specs.declared.entries.Entry.TheVariants.{Began, Stopped, Restarted, Replied}
use Rattle.journal_model.specs.Actor.{actor_cmp, actor_total, actor_exact}
use Rattle.journal_model.specs.Command.{user_in}
use Rattle.sorted_map.specs.Sums.{total_by}
use Rattle.sorted_map.proofs.Sums.{worth, sum-insert, sum-remove}
use Rattle.docket.proofs.Accounts.{sum-empty}
use Rattle.user_world.specs.declared.changes.LocalChange.{LocalChange}
use Rattle.task_turns.specs.declared.calls.Call.{Call}
use Rattle.task_turns.specs.declared.calls.Call.TheVariants.{Op as OpCall, Sync, List as ListCall, Read, Delete}
use Rattle.task_turns.specs.declared.calls.Call.TheVariants.{Generate, Encrypt, Decrypt, Entries, Add, Remove}
use Rattle.bench.specs.declared.made.Made.{Made}
use Rattle.bench.specs.declared.made.Made.TheVariants.{Heard, Failed}
use Rattle.bench.specs.Bench.{Plain as Seen, AreCounted, IsMade, device_of, told_of}
use Rattle.vold_book.specs.declared.tasks.Running.{Running}
use Rattle.vold_book.specs.declared.tasks.Task.{Task}
use Rattle.vold_book.specs.declared.tasks.Task.TheVariants.{User as Using, Recovery as Recovers, Refusal, Fault}
use Rattle.vold_book.specs.Entries.{made_entry, entry_of}
use Rattle.vold_book.specs.Parts.{with_entry}
use Rattle.vold_book.specs.State.{Plain}
use Rattle.vold_book.specs.Stops.{after_stop, after_restart}
use Rattle.vold_book.specs.Tasks.{fault_of}
use Rattle.vold_book.specs.Turns.{Start, FirstTask, AcceptedTask, Making, IsNoted, IsFault}
use Rattle.vold_book.specs.Turns.{after_call, with_command, new_book, opened_at}
use Rattle.vold_book.specs.Whole.{charge_of, charge_in, due_in, due_of, same_device, faults_of, IsCharged}
use Rattle.vold_book.proofs.Plains.{Beginning, begun_plain, begun_seen, work_of, replied_plain}
use Rattle.vold_book.proofs.Shown.{due_made}
use Rattle.vold_book.proofs.Moves.{Notes}

charges-append : (device : Device) (entries : List Entry) (entry : Entry)
    → total_by (charge_in device) (entries ++ entry ∷ [])
    ≡ total_by (charge_in device) entries + charge_in device entry
charges-append device [] entry = omega arith
charges-append device (first ∷ entries) entry = let rest = charges-append device entries entry in omega (arith, rest)

-- the entry of a call is one of its command, and charges nothing
pub noted-entry : (made : Made) (number : ℕ) (call : Call) (change : Option LocalChange)
    → IfSome (made_entry made (entry_of number call change)) (IsNoted number)
noted-entry (Failed device) number call change = tt
noted-entry (Heard answer) number (OpCall user op names) None = tt
noted-entry (Heard answer) number (OpCall user op names) (Some change) = refl
noted-entry (Heard answer) number Sync change = tt
noted-entry (Heard answer) number ListCall change = tt
noted-entry (Heard answer) number (Read place) change = tt
noted-entry (Heard answer) number (Generate tag app_id) change = tt
noted-entry (Heard answer) number (Encrypt blob app_id nonce key) change = tt
noted-entry (Heard answer) number (Decrypt blob app_id text) change = tt
noted-entry (Heard answer) number Entries change = tt
noted-entry (Heard answer) number (Add user class key) change = tt
noted-entry (Heard answer) number (Remove user class) change = tt
noted-entry (Heard answer) number (Delete item tells) change = tt

uncharged : (device : Device) (number : ℕ) (entry : Entry) → IsNoted number entry → charge_in device entry ≡ 0
uncharged device number (Replied replied reply) noted = absurd noted
uncharged device number entry noted = refl

charges-noted : (device : Device) (number : ℕ) (entries : List Entry) (entry : Option Entry)
    → IfSome entry (IsNoted number)
    → total_by (charge_in device) (with_entry entries entry) ≡ total_by (charge_in device) entries
charges-noted device number entries None noted = refl
charges-noted device number entries (Some entry) noted =
    let more = charges-append device entries entry in
    let nothing = uncharged device number entry noted in
    omega (arith, more, nothing)

-- what a reply charges was due
due-fault : (device : Device) (task : Task) → IsFault device task → due_in device task ≡ 1
due-fault TreeDevice task fault = ap (due_in TreeDevice) fault.is
due-fault StoreDevice task fault = ap (due_in StoreDevice) fault.is
due-fault RingDevice task fault = ap (due_in RingDevice) fault.is

due-told : (device : Device) (reply : Reply) (task : Task) → (reply ≡ fault_of device → IsFault device task)
    → charge_of device reply ≤ due_in device task
due-told TreeDevice TreeFault task told = let e = due-fault TreeDevice task (told refl) in omega (arith, e)
due-told StoreDevice StoreFault task told = let e = due-fault StoreDevice task (told refl) in omega (arith, e)
due-told RingDevice RingFault task told = let e = due-fault RingDevice task (told refl) in omega (arith, e)
due-told device reply task told = omega arith

pub due-first : (device : Device) (command : Command) (start : Start) (verdict : Option Reply)
    (task : Task)
    → FirstTask command start verdict task
    → due_in device task ≡ 0
due-first device command start (Some reply) task first = ap (due_in device) first
due-first device command start None task first = by (user_in command) first
  where
    by : (user : Option ℕ) → AcceptedTask command start user task → due_in device task ≡ 0
    by (Some user) accepted = ap (due_in device) accepted.2
    by None is = ap (due_in device) is

-- a device is itself, and no other
device-itself : (device : Device) → same_device device device ≡ 1
device-itself TreeDevice = refl
device-itself StoreDevice = refl
device-itself RingDevice = refl

devices-apart : (device other : Device) → device ≢ other → same_device device other ≡ 0
devices-apart TreeDevice TreeDevice differ = absurd (differ refl)
devices-apart TreeDevice StoreDevice differ = refl
devices-apart TreeDevice RingDevice differ = refl
devices-apart StoreDevice TreeDevice differ = refl
devices-apart StoreDevice StoreDevice differ = absurd (differ refl)
devices-apart StoreDevice RingDevice differ = refl
devices-apart RingDevice TreeDevice differ = refl
devices-apart RingDevice StoreDevice differ = refl
devices-apart RingDevice RingDevice differ = absurd (differ refl)

decide-device : (device other : Device) → (device ≡ other) ⊎ (device ≢ other)
decide-device TreeDevice TreeDevice = inl refl
decide-device TreeDevice StoreDevice = inr (λ e. cc)
decide-device TreeDevice RingDevice = inr (λ e. cc)
decide-device StoreDevice TreeDevice = inr (λ e. cc)
decide-device StoreDevice StoreDevice = inl refl
decide-device StoreDevice RingDevice = inr (λ e. cc)
decide-device RingDevice TreeDevice = inr (λ e. cc)
decide-device RingDevice StoreDevice = inr (λ e. cc)
decide-device RingDevice RingDevice = inl refl

-- a device's failures don't get fewer, and rise where it fails, while it can count them
record FaultsRise (before after : Seen) (device : Device) (due : ℕ) : Type 0 where
  never_falls : faults_of before device ≤ faults_of after device
  rose : (faults_of before device + due ≤ faults_of after device) ⊎ (2 ^ 64 - 1 ≤ faults_of after device)

same-faults : (before after : Seen) (device : Device) → faults_of after device ≡ faults_of before device
    → FaultsRise before after device 0
same-faults before after device same = record { never_falls = omega (arith, same); rose = inl (omega (arith, same)) }

module _ (before after : Seen) where
  counted-heard : (device : Device) → faults_of before device ≤ faults_of after device
      → FaultsRise before after device 0
  counted-heard device never = record { never_falls = never; rose = inl (omega (arith, never)) }

  counted-failed : (device : Device) → faults_of before device ≤ faults_of after device
      → Rose (faults_of before device) (faults_of after device) → FaultsRise before after device 1
  counted-failed device never rose = record {
    never_falls = never;
    rose = elim rose [
      | inl more ↦ inl (omega (arith, more))
      | inr full ↦ inr full
    ];
  }

  -- a device's failures by the call of one, which may be this
  faults-own : (device : Device) (made : Made) → AreCounted before after device (told_of (Ok made))
      → ((failed : Device) → made ≡ Failed failed → failed ≡ device)
      → FaultsRise before after device (due_made device made)
  faults-own device (Heard answer) are own = counted-heard device are.counts.never_falls
  faults-own device (Failed failed) are own =
      subst (λ due. FaultsRise before after device due)
      (sym (ap (same_device device) (own failed refl) ∙ device-itself device))
      (counted-failed device are.counts.never_falls (are.counts.failed refl))

  faults-other : (device counted : Device) (made : Made) → AreCounted before after counted (told_of (Ok made))
      → ((failed : Device) → made ≡ Failed failed → failed ≡ counted) → device ≢ counted
      → FaultsRise before after device (due_made device made)
  faults-other device counted (Heard answer) are own differ =
      same-faults before after device (ap (λ c. c.faults) (are.others device differ))
  faults-other device counted (Failed failed) are own differ =
      subst (λ due. FaultsRise before after device due)
      (sym (ap (same_device device) (own failed refl) ∙ devices-apart device counted differ))
      (same-faults before after device (ap (λ c. c.faults) (are.others device differ)))

  faults-rise : (device counted : Device) (made : Made) → AreCounted before after counted (told_of (Ok made))
      → ((failed : Device) → made ≡ Failed failed → failed ≡ counted)
      → FaultsRise before after device (due_made device made)
  faults-rise device counted made are own = elim (decide-device device counted) [
    | inl same ↦ subst (λ d. FaultsRise before after d (due_made d made)) (sym same) (faults-own counted made are own)
    | inr differ ↦ faults-other device counted made are own differ
  ]

-- a call fails at its own device
failed-own : (before after : Seen) (call : Call) (made : Made) → IsMade before after call (Ok made)
    → (failed : Device) → made ≡ Failed failed → failed ≡ device_of call
failed-own before after call (Heard answer) is_made failed is = cc
failed-own before after call (Failed device) is_made failed is = cc

-- what begins leaves the devices' counts
begun-faults : (task : Task) (bench : Seen) (device : Device)
    → faults_of (begun_seen task bench) device ≡ faults_of bench device
begun-faults (Using task) bench device = refl
begun-faults (Recovers recovery) bench TreeDevice = refl
begun-faults (Recovers recovery) bench StoreDevice = refl
begun-faults (Recovers recovery) bench RingDevice = refl
begun-faults (Refusal reply) bench device = refl
begun-faults (Fault failed held) bench device = refl

module _ (book : Plain) (device : Device) (charged : IsCharged book device) where
  pub begun-charged : (actor : Actor) (begins : Beginning) → due_in device begins.task ≡ 0
      → IsCharged (begun_plain book actor begins) device
  begun-charged actor begins none =
      let a = charges-append device book.ledger.entries (Began begins.number actor begins.command) in
      let s = sum-insert actor_total (due_of device) book.docket.running actor (work_of begins) in
      let f = begun-faults begins.task book.bench device in
      elim charged [
        | inl less ↦ inl (omega (arith, a, s, none, f, less))
        | inr full ↦ inr (omega (arith, f, full))
      ]

  module _ (actor : Actor) (number : ℕ) (making : Making) (made : Made) (after : Seen) (notes : Notes)
      (counted : AreCounted book.bench after (device_of making.call) (told_of (Ok made)))
      (is_made : IsMade book.bench after making.call (Ok made)) where
    pub called-charged : due_in device making.then ≤ due_made device made
        → IsCharged (after_call book actor number (record making { owed = notes.owed }) made notes.marks after) device
    called-charged due =
        let a = charges-noted device number book.ledger.entries
        (made_entry made (entry_of number making.call making.change))
        (noted-entry made number making.call making.change) in
        let s = sum-insert actor_total (due_of device) book.docket.running actor
        (record { number = number; task = making.then; owed = notes.owed }) in
        let f = faults-rise book.bench after device (device_of making.call) made counted
        (failed-own book.bench after making.call made is_made) in
        let never = f.never_falls in
        elim charged [
          | inl less ↦ elim f.rose [
            | inl rose ↦ inl (omega (arith, a, s, due, rose, less))
            | inr full ↦ inr full
          ]
          | inr full ↦ inr (omega (arith, never, full))
        ]

  pub replied-charged : (actor : Actor) (it : Running) (command : Command) (reply : Reply)
      → map.get book.docket.running actor ≡ Some it → (reply ≡ fault_of device → IsFault device it.task)
      → IsCharged (replied_plain book actor it command reply) device
  replied-charged actor it command reply runs told =
      let a = charges-append device book.ledger.entries (Replied it.number reply) in
      let s = sum-remove actor_total (due_of device) actor_exact book.docket.running actor in
      let w = ap (worth (due_of device)) runs in
      let d = due-told device reply it.task told in
      elim charged [
        | inl less ↦ inl (omega (arith, a, s, w, d, less))
        | inr full ↦ inr full
      ]

  pub given-charged : (command : Command) → IsCharged (with_command book command) device
  given-charged command = charged

  pub stopped-charged : (bench : Seen) (cut : Cut) (kept : ℕ)
      → faults_of bench device ≡ faults_of book.bench device → IsCharged (after_stop book bench cut kept) device
  stopped-charged bench cut kept same =
      let a = charges-append device book.ledger.entries (Stopped kept) in
      let none = sum-empty actor_cmp (due_of device) in
      elim charged [
        | inl less ↦ inl (omega (arith, a, none, less, same))
        | inr full ↦ inr (omega (arith, full, same))
      ]

  pub restarted-charged : (bench : Seen) (level : ℕ)
      → faults_of bench device ≡ faults_of book.bench device → IsCharged (after_restart book bench level) device
  restarted-charged bench level same =
      let a = charges-append device book.ledger.entries (Restarted (book.tracker.boot + 1) level) in
      elim charged [
        | inl less ↦ inl (omega (arith, a, less, same))
        | inr full ↦ inr (omega (arith, full, same))
      ]

-- a Book as it is opened
pub opened-charged : (bench : Seen) (seed : List ℕ) (device : Device)
    → IsCharged (new_book bench (opened_at bench.tree_counts bench.store_counts bench.ring_counts) seed)
    device
opened-charged bench seed TreeDevice =
    let none = sum-empty actor_cmp (due_of TreeDevice) in inl (omega (arith, none))
opened-charged bench seed StoreDevice =
    let none = sum-empty actor_cmp (due_of StoreDevice) in inl (omega (arith, none))
opened-charged bench seed RingDevice =
    let none = sum-empty actor_cmp (due_of RingDevice) in inl (omega (arith, none))
