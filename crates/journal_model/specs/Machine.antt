-- The machine that a journal's entries step: what each entry does to it, and when the entry may come.
use Rattle.std.specs.Prelude.{◌≡◌, ◌≢◌, ℕ, ◌+◌, ◌≤◌, Bool, true, false, cond, List, [], ◌∷◌, ◌++◌, length, take, drop}
use Rattle.std.specs.Prelude.{Option, Some, None, IsSome, IsSomeAnd, IfSome, Contains, nat_le, flat_map}
use Rattle.std.specs.Ordering.{nat_cmp, eq_by_cmp}
use Rattle.std.specs.FinMap as map
use Rattle.tree_model.specs.declared.blobs.Blob.{Blob}
use Rattle.tree_model.specs.declared.places.Slot.{Slot}
use Rattle.tree_model.specs.declared.places.Slot.TheVariants.{Current}
use Rattle.tree_model.specs.declared.places.Class.{Class}
use Rattle.tree_model.specs.declared.places.Class.TheVariants.{De, Ce}
use Rattle.key_ring.specs.Ring.{Owner, has_owner, with_owner, without_owner}
use Rattle.journal_model.specs.declared.commands.Actor.{Actor}
use Rattle.journal_model.specs.declared.commands.Actor.TheVariants.{Boot}
use Rattle.journal_model.specs.declared.commands.Command.{Command}
use Rattle.journal_model.specs.declared.commands.Command.TheVariants.{Create, Unlock, Lock, Protect, Fixate}
use Rattle.journal_model.specs.declared.commands.Command.TheVariants.{Destroy, Recover}
use Rattle.journal_model.specs.declared.commands.Reply.{Reply}
use Rattle.journal_model.specs.declared.commands.Reply.TheVariants.{Done, Ended, Gone, WrongSecret, TreeFault}
use Rattle.journal_model.specs.declared.commands.Reply.TheVariants.{StoreFault, RingFault}
use Rattle.journal_model.specs.declared.entries.Change.{Change}
use Rattle.journal_model.specs.declared.entries.Change.TheVariants.{Create as Created, Add as Added}
use Rattle.journal_model.specs.declared.entries.Change.TheVariants.{Drop as Dropped, Settle as Settled}
use Rattle.journal_model.specs.declared.entries.Change.TheVariants.{Destroy as Destroyed}
use Rattle.journal_model.specs.declared.entries.Entry.{Entry}
use Rattle.journal_model.specs.declared.entries.Entry.TheVariants.{Began, Changed, Synced, Installed, Evicted}
use Rattle.journal_model.specs.declared.entries.Entry.TheVariants.{Swept, Stopped, Restarted, Replied}
use Rattle.journal_model.specs.declared.phase.Phase.{Phase}
use Rattle.journal_model.specs.declared.phase.Phase.TheVariants.{Up, Down, Halted}
use Rattle.journal_model.specs.declared.refusals.Facts.{Facts}
use Rattle.journal_model.specs.Actor.{actor_cmp}
use Rattle.journal_model.specs.Command.{actor_of, user_in}
use Rattle.journal_model.specs.Refusals.{refusal_of}
use Rattle.journal_model.specs.Users.{Record, Users, HasSecret, fold_changes, owner_of, slots_of, leave_none}
use Rattle.journal_model.specs.Users.{next_slot, HasOnly, HasNewest}

-- a command that began: its number, the refusal that was due then, the changes that it made so far, and how many
-- commands its actor had begun before it in the same boot
pub record Running : Type 0 where
  pub command : Command
  pub verdict : Option Reply
  pub changes : List Change
  pub index : ℕ

pub record Machine : Type 0 where
  pub phase : Phase
  pub boot : ℕ
  pub level : ℕ
  -- the changes of the present timeline, the first `kept` of them durable
  pub log : List Change
  pub kept : ℕ
  -- whose keys are in the key ring, in the order of installation
  pub ring : List Owner
  -- the commands that began and got no reply, by number
  pub running : map.FinMap nat_cmp Running

abbrev pub no_running : map.FinMap nat_cmp Running
no_running = map.empty

-- as a journal begins
abbrev pub first_machine : Machine
first_machine = record { phase = Up; boot = 0; level = 1; log = []; kept = 0; ring = []; running = no_running }

-- how many commands the actor began since the last restart, with one more entry
abbrev pub count_after : Actor → ℕ → Entry → ℕ
count_after actor count (Began number other command) = cond (eq_by_cmp actor_cmp actor other) (count + 1) count
count_after actor count (Restarted boot level) = 0
count_after actor count entry = count

abbrev pub begun_from : ℕ → Actor → List Entry → ℕ
begun_from count actor [] = count
begun_from count actor (entry ∷ entries) = begun_from (count_after actor count entry) actor entries

abbrev pub begun_by : Actor → List Entry → ℕ
begun_by actor entries = begun_from 0 actor entries

-- the number of a command that began, as a list
abbrev pub number_begun : Entry → List ℕ
number_begun (Began number actor command) = number ∷ []
number_begun entry = []

-- the numbers of the commands that began
abbrev pub numbers_begun : List Entry → List ℕ
numbers_begun [] = []
numbers_begun (entry ∷ entries) = number_begun entry ++ numbers_begun entries

-- the blob whose entry was deleted, as a list, and those of all entries
abbrev pub blob_swept : Entry → List Blob
blob_swept (Swept blob) = blob ∷ []
blob_swept entry = []

abbrev pub blobs_swept : List Entry → List Blob
blobs_swept entries = flat_map blob_swept entries

-- whether the user is there, if there is one
abbrev pub is_present : Option ℕ → Users → Bool
is_present None users = false
is_present (Some user) users = map.contains_key users user

abbrev pub is_up : Phase → Bool
is_up Up = true
is_up phase = false

-- whether the user's credential key is in the key ring, if there is one
abbrev pub is_unlocked : Option ℕ → List Owner → Bool
is_unlocked None ring = false
is_unlocked (Some user) ring = has_owner ring user Ce

-- whether no slot is left for a further secret of the user, if there is one
abbrev pub is_full : Option ℕ → Users → Bool
is_full None users = false
is_full (Some user) users = leave_none (slots_of (map.get users user))

-- the most users that are there or being created
abbrev pub max_users : ℕ
max_users = 32

-- the user, as a list, unless the user is there
abbrev pub unless_there : Users → ℕ → List ℕ
unless_there users user = cond (map.contains_key users user) [] (user ∷ [])

-- the user whom a command makes and who isn't there yet, as a list
abbrev pub new_user : Users → Command → List ℕ
new_user users (Create user) = unless_there users user
new_user users command = []

-- the same of a command with a verdict: one that is refused makes none
abbrev pub new_user_unless : Option Reply → Users → Command → List ℕ
new_user_unless None users command = new_user users command
new_user_unless (Some refusal) users command = []

-- the user whom a running command makes and who isn't there yet, as a list
abbrev pub creating : Users → Running → List ℕ
creating users running = new_user_unless running.verdict users running.command

-- the users who are being created and aren't there yet
abbrev pub newcomers : Users → map.FinMap nat_cmp Running → List ℕ
newcomers users running = flat_map (creating users) (map.values running)

-- whether as many users are there or being created as there may be, each counted once
abbrev pub is_crowded : Users → map.FinMap nat_cmp Running → Bool
is_crowded users running = nat_le max_users (map.len users + length (newcomers users running))

-- what decides whether a command is refused that begins on the machine
abbrev pub facts_of : Machine → Command → Facts
facts_of machine command = record {
  present = is_present (user_in command) (fold_changes machine.log);
  crowded = is_crowded (fold_changes machine.log) machine.running;
  installed = is_unlocked (user_in command) machine.ring;
  full = is_full (user_in command) (fold_changes machine.log);
  ready = is_up machine.phase;
}

-- the refusal that is due when a command begins
abbrev pub verdict_of : Machine → Command → Option Reply
verdict_of machine command = refusal_of command (facts_of machine command)

abbrev pub begun : List Entry → Machine → Command → Running
begun before machine command = record {
  command = command;
  verdict = verdict_of machine command;
  changes = [];
  index = begun_by (actor_of command) before;
}

abbrev pub with_change : Running → Change → Running
with_change running change = record running { changes = running.changes ++ change ∷ [] }

abbrev pub if_running : {A : Type 0} → Option Running → A → (Running → A) → A
if_running None default to = default
if_running (Some running) default to = to running

-- a recovery that ended brings the machine up
abbrev pub phase_after : Phase → Command → Reply → Phase
phase_after phase Recover (Ended count) = Up
phase_after phase command reply = phase

-- the machine after an entry
abbrev pub after_entry : List Entry → Machine → Entry → Machine
after_entry before machine (Began number actor command) =
    record machine { running = map.insert machine.running number (begun before machine command) }
after_entry before machine (Changed number change) = record machine {
  log = machine.log ++ change ∷ [];
  running = if_running (map.get machine.running number) machine.running
      (λ running. map.insert machine.running number (with_change running change));
}
after_entry before machine Synced = record machine { kept = length machine.log }
after_entry before machine (Installed user class) = record machine { ring = with_owner machine.ring user class }
after_entry before machine (Evicted user class) = record machine { ring = without_owner machine.ring user class }
after_entry before machine (Swept blob) = machine
after_entry before machine (Stopped kept) =
    record machine { phase = Halted; log = take kept machine.log; kept = kept; ring = []; running = no_running }
after_entry before machine (Restarted boot level) = record machine { phase = Down; boot = boot; level = level }
after_entry before machine (Replied number reply) = record machine {
  phase = if_running (map.get machine.running number) machine.phase
      (λ running. phase_after machine.phase running.command reply);
  running = map.remove machine.running number;
}

-- the machine takes turns of the actor: of every one while it is up, of the recovery alone once it has started again
abbrev pub TakesTurn : Phase → Actor → Type 0
TakesTurn Up actor = Unit {0}
TakesTurn Down actor = actor ≡ Boot
TakesTurn Halted actor = ⊥

-- no change of the user stands past the durable ones
abbrev pub NoChangeOf : ℕ → List Change → Type 0
NoChangeOf user [] = Unit {0}
NoChangeOf user (change ∷ changes) = (owner_of change ≢ user) × NoChangeOf user changes

-- every change is durable, or every one of a user
abbrev pub IsDurable : Machine → Option ℕ → Type 0
IsDurable machine None = machine.kept ≡ length machine.log
IsDurable machine (Some user) = NoChangeOf user (drop machine.kept machine.log)

-- a command makes this key of the user usable
abbrev pub Installs : Command → ℕ → Class → Type 0
Installs (Create owner) user class = owner ≡ user
Installs (Unlock owner secret) user class = (owner ≡ user) × (class ≡ Ce)
Installs command user class = ⊥

-- a command takes this key of the user out of use
abbrev pub Evicts : Command → ℕ → Class → Type 0
Evicts (Lock owner) user class = (owner ≡ user) × (class ≡ Ce)
Evicts (Destroy owner) user class = owner ≡ user
Evicts command user class = ⊥

-- how a reply ends a command: it tells what came of its work, it was refused, or a device failed
pub data ReplyKind : Type 0 where
  Outcome Refusal Fault : ReplyKind

abbrev pub kind_of_reply : Reply → ReplyKind
kind_of_reply Done = Outcome
kind_of_reply (Ended count) = Outcome
kind_of_reply Gone = Outcome
kind_of_reply WrongSecret = Outcome
kind_of_reply TreeFault = Fault
kind_of_reply StoreFault = Fault
kind_of_reply RingFault = Fault
kind_of_reply reply = Refusal

-- what an outcome is told by: which changes are logged, whose are durable, whether a user's key of a class is
-- installed, and what is recorded of a user
pub record Evidence : Type 1 where
  pub logged : Change → Type 0
  pub durable : Option ℕ → Type 0
  pub has_key : ℕ → Class → Bool → Type 0
  pub recorded : ℕ → Record → Type 0

-- a fixation on a slot: another slot of the user is dropped, or the slot itself, the only one by then, becomes the
-- current one
abbrev pub Fixes : ℕ → Record → Slot → Change → Type 0
Fixes user known kept (Dropped owner slot) =
    (owner ≡ user) × (slot ≢ kept) × IsSome (map.get known.secrets slot)
Fixes user known kept (Settled owner slot) =
    (owner ≡ user) × (slot ≡ kept) × (kept ≢ Current) × HasOnly known kept
Fixes user known kept change = ⊥

-- the change that a running command may make next, in this boot: by what is told of the user
abbrev pub AllowsChange : Evidence → ℕ → Running → Command → Change → Type 0
AllowsChange evidence boot running (Create user) change =
    (running.changes ≡ []) × (change ≡ Created user (record { boot = boot; index = running.index }))
AllowsChange evidence boot running (Protect user given fresh) change = (running.changes ≡ [])
    × ((known : Record) × evidence.recorded user known × (change ≡ Added user (next_slot known) fresh))
AllowsChange evidence boot running (Unlock user secret) change = (known : Record) × evidence.recorded user known
    × ((kept : Slot) × IsSome (map.get known.secrets kept) × Fixes user known kept change)
AllowsChange evidence boot running (Fixate user) change = (known : Record) × evidence.recorded user known
    × ((kept : Slot) × HasNewest known kept × Fixes user known kept change)
AllowsChange evidence boot running (Destroy user) change = (running.changes ≡ []) × (change ≡ Destroyed user)
AllowsChange evidence boot running command change = ⊥

-- the user's one slot is the current one, and the user's changes are durable
abbrev pub IsFixed : Evidence → ℕ → Type 0
IsFixed evidence user = ((known : Record) × evidence.recorded user known × HasOnly known Current)
    × evidence.durable (Some user)

-- a command did its work, in this boot
abbrev pub DidWork : Evidence → ℕ → Running → Command → Type 0
DidWork evidence boot running (Create user) =
    evidence.logged (Created user (record { boot = boot; index = running.index })) × evidence.durable (Some user)
    × evidence.has_key user De true × evidence.has_key user Ce true
DidWork evidence boot running (Unlock user secret) = evidence.has_key user Ce true × IsFixed evidence user
DidWork evidence boot running (Lock user) = evidence.has_key user Ce false
DidWork evidence boot running (Protect user given fresh) =
    ((slot : Slot) × (running.changes ≡ Added user slot fresh ∷ []) × evidence.logged (Added user slot fresh))
    × evidence.durable (Some user)
DidWork evidence boot running (Fixate user) = IsFixed evidence user
DidWork evidence boot running (Destroy user) = ⊥
DidWork evidence boot running Recover = ⊥

-- a recovery did its work, with so many deletes
abbrev pub DidRecover : Evidence → ℕ → Command → Type 0
DidRecover evidence count Recover = (count ≡ 0) × evidence.durable None
DidRecover evidence count command = ⊥

-- a destroy did its work
abbrev pub DidDestroy : Evidence → Running → Command → Type 0
DidDestroy evidence running (Destroy user) =
    (running.changes ≡ Destroyed user ∷ []) × evidence.logged (Destroyed user) × evidence.durable (Some user)
DidDestroy evidence running command = ⊥

-- no slot of the user is under the secret that a command was given
abbrev pub LacksSecret : Evidence → ℕ → List ℕ → Type 0
LacksSecret evidence user secret = (known : Record) × evidence.recorded user known × ¬ (HasSecret known secret)

-- and the command made no change
abbrev pub GaveWrongSecret : Evidence → Running → Command → Type 0
GaveWrongSecret evidence running (Unlock user secret) = (running.changes ≡ []) × LacksSecret evidence user secret
GaveWrongSecret evidence running (Protect user given fresh) = (running.changes ≡ []) × LacksSecret evidence user given
GaveWrongSecret evidence running command = ⊥

-- what came of a command's work, by evidence
abbrev pub AllowsOutcome : Evidence → ℕ → Running → Reply → Type 0
AllowsOutcome evidence boot running Done = DidWork evidence boot running running.command
AllowsOutcome evidence boot running (Ended count) = DidRecover evidence count running.command
AllowsOutcome evidence boot running Gone = DidDestroy evidence running running.command
AllowsOutcome evidence boot running WrongSecret = GaveWrongSecret evidence running running.command
AllowsOutcome evidence boot running reply = ⊥

-- a command that wasn't refused may be told that a device failed, or what came of its work
abbrev pub MayEnd : ReplyKind → Type 0 → Type 0
MayEnd Outcome came = came
MayEnd Refusal came = ⊥
MayEnd Fault came = Unit {0}

-- what a machine tells
abbrev pub evidence_of : Machine → Evidence
evidence_of machine = record {
  logged = Contains machine.log;
  durable = IsDurable machine;
  has_key = λ user class there. has_owner machine.ring user class ≡ there;
  recorded = λ user known. map.get (fold_changes machine.log) user ≡ Some known;
}

abbrev pub ComesTo : Machine → Running → Reply → Type 0
ComesTo machine running reply = AllowsOutcome (evidence_of machine) machine.boot running reply

abbrev pub AllowsReply : Machine → Running → Option Reply → Reply → Type 0
AllowsReply machine running (Some verdict) reply = reply ≡ verdict
AllowsReply machine running None reply = MayEnd (kind_of_reply reply) (ComesTo machine running reply)

-- a command may begin of an actor whose turns the machine takes and that runs none
pub record MayBegin (before : List Entry) (machine : Machine) (number : ℕ) (actor : Actor)
    (command : Command) : Type 0 where
  pub own : actor ≡ actor_of command
  pub idle : (other : ℕ) → IfSome (map.get machine.running other) (λ running. actor_of running.command ≢ actor)
  pub fresh : ¬ (Contains (numbers_begun before) number)
  pub takes : TakesTurn machine.phase actor

-- the entry may come
abbrev pub MayCome : List Entry → Machine → Entry → Type 0
MayCome before machine (Began number actor command) = MayBegin before machine number actor command
MayCome before machine (Changed number change) = IsSomeAnd (map.get machine.running number)
    (λ running. (running.verdict ≡ None)
    × AllowsChange (evidence_of machine) machine.boot running running.command change)
MayCome before machine Synced =
    (number : ℕ) × IsSomeAnd (map.get machine.running number) (λ running. running.verdict ≡ None)
MayCome before machine (Installed user class) = (map.contains_key (fold_changes machine.log) user ≡ true)
    × ((number : ℕ) × IsSomeAnd (map.get machine.running number)
    (λ running. (running.verdict ≡ None) × Installs running.command user class))
MayCome before machine (Evicted user class) = (number : ℕ) × IsSomeAnd (map.get machine.running number)
    (λ running. (running.verdict ≡ None) × Evicts running.command user class)
MayCome before machine (Swept blob) = ¬ (Contains (blobs_swept before) blob)
    × ((number : ℕ) × IsSomeAnd (map.get machine.running number) (λ running. running.verdict ≡ None))
MayCome before machine (Stopped kept) =
    (machine.phase ≢ Halted) × (machine.kept ≤ kept) × (kept ≤ length machine.log)
MayCome before machine (Restarted boot level) =
    (machine.phase ≡ Halted) × (boot ≡ machine.boot + 1) × (machine.level ≤ level)
MayCome before machine (Replied number reply) =
    IsSomeAnd (map.get machine.running number) (λ running. AllowsReply machine running running.verdict reply)

-- the machine after further entries
abbrev pub machine_from : List Entry → Machine → List Entry → Machine
machine_from before machine [] = machine
machine_from before machine (entry ∷ entries) =
    machine_from (before ++ entry ∷ []) (after_entry before machine entry) entries

abbrev pub machine_after : List Entry → Machine
machine_after entries = machine_from [] first_machine entries

-- each further entry may come where it stands
abbrev pub IsLegalFrom : List Entry → Machine → List Entry → Type 0
IsLegalFrom before machine [] = Unit {0}
IsLegalFrom before machine (entry ∷ entries) =
    MayCome before machine entry × IsLegalFrom (before ++ entry ∷ []) (after_entry before machine entry) entries

abbrev pub IsLegal : List Entry → Type 0
IsLegal entries = IsLegalFrom [] first_machine entries

-- the changes of the present timeline, and the map that they make
abbrev pub log_of : List Entry → List Change
log_of entries = (machine_after entries).log

abbrev pub map_of : List Entry → Users
map_of entries = fold_changes (log_of entries)
