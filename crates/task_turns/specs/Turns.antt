-- The turns of a user's task over its share of the devices, and what the task has to show of each.
use Rattle.std.specs.Prelude.{◌⊎◌, ◌≡◌, Bool, true, false, cond, ℕ, ◌+◌, ◌<◌, ◌≤◌, List, [], ◌∷◌, ◌++◌}
use Rattle.std.specs.Prelude.{length, Option, Some, None, IfSome, is_some, Contains}
use Rattle.std.specs.FinMap as map
use Rattle.tree_model.specs.declared.blobs.Blob.{Blob}
use Rattle.tree_model.specs.declared.places.Class.{Class}
use Rattle.tree_model.specs.declared.places.Place.{Place}
use Rattle.tree_model.specs.declared.sites.LocalOp.{LocalOp}
use Rattle.tree_model.specs.declared.sites.LocalOp.TheVariants.{RemoveDir}
use Rattle.tree_model.specs.declared.sites.Site.{Site}
use Rattle.tree_model.specs.declared.sites.Site.TheVariants.{De, Ce}
use Rattle.tree_model.specs.Dir.{Files}
use Rattle.tree_model.specs.Sites.{site_of}
use Rattle.tree_model.specs.Tree.{user_of}
use Rattle.key_ring.specs.Ring.{same_class}
use Rattle.seal_model.specs.Sealed.{sealed_text}
use Rattle.journal_model.specs.declared.commands.Actor.TheVariants.{User}
use Rattle.journal_model.specs.declared.commands.Command.{Command}
use Rattle.journal_model.specs.declared.commands.Command.TheVariants.{Unlock, Protect, Destroy}
use Rattle.journal_model.specs.declared.commands.Reply.{Reply}
use Rattle.journal_model.specs.declared.commands.Reply.TheVariants.{Done as DoneReply, Gone}
use Rattle.journal_model.specs.Command.{actor_of}
use Rattle.journal_model.specs.Users.{Record}
use Rattle.journal_model.specs.Machine.{Running as Began, Evidence, kind_of_reply, Outcome, AllowsChange}
use Rattle.journal_model.specs.Machine.{AllowsOutcome, Installs, Evicts}
use Rattle.keystore_model.specs.declared.entry.StoreEntry.{StoreEntry}
use Rattle.keystore_model.specs.declared.entry.Tag.{Tag}
use Rattle.keystore_model.specs.Store.{entry_of, without}
use Rattle.deferred_delete.specs.declared.items.Item.{Item}
use Rattle.step_core.specs.declared.jobs.Job.{Job}
use Rattle.step_core.specs.declared.jobs.JobInput.{JobInput}
use Rattle.step_core.specs.declared.jobs.JobInput.TheVariants.{Unseal}
use Rattle.step_core.specs.Jobs.{output_of}
use Rattle.blob_custody.specs.Steps.{LetsGo}
use Rattle.user_world.specs.declared.changes.LocalChange.{LocalChange}
use Rattle.user_world.specs.declared.changes.LocalChange.TheVariants.{Dropped, Destroyed}
use Rattle.user_world.specs.Facts.{Holds, Still, Vacant}
use Rattle.user_world.specs.Changes.{change_of}
use Rattle.user_world.specs.OwnWorlds.{own_view, own_record, with_step, settled}
use Rattle.user_world.specs.Turns.{StepShows, IsLogged, AreDurable, with_note, adds_local, takes_local}
use Rattle.key_directory.specs.Opened.{answer_in}
use Rattle.key_directory.specs.Tried.{additions_of, if_of, with_additions}
use Rattle.key_directory.specs.Vaults.{Vault, Attempts, NoChanceMatch, sealed}
use Rattle.task_turns.specs.declared.calls.Answer.{Answer}
use Rattle.task_turns.specs.declared.calls.Answer.TheVariants.{Done, Installed, Directory, Blob as IsBlob, Sealed}
use Rattle.task_turns.specs.declared.calls.Answer.TheVariants.{Decrypted, Output}
use Rattle.task_turns.specs.declared.calls.Call.{Call}
use Rattle.task_turns.specs.declared.calls.Call.TheVariants.{Op, Sync, List as ListCall, Read}
use Rattle.task_turns.specs.declared.calls.Call.TheVariants.{Generate, Encrypt, Decrypt, Entries, Add, Remove}
use Rattle.task_turns.specs.declared.calls.Call.TheVariants.{Delete}
use Rattle.task_turns.specs.declared.next.Next.{Next}
use Rattle.task_turns.specs.declared.next.Next.TheVariants.{Call as CallNext, Work as WorkNext, Reply as ReplyNext}
use Rattle.task_turns.specs.Names.{Gains, BringsBlob}
use Rattle.task_turns.specs.Shares.{Share, ShareFact, IsUnder, IsNewestUnder, IsGiven, AllHas, AreHeld}

-- the blob has an entry of a key of the user's
pub record IsOwned (entries : List StoreEntry) (user : ℕ) (blob : Blob) : Type 0 where
  pub entry : StoreEntry
  pub live : entry_of entries blob ≡ Some entry
  pub tagged : entry.tag.user ≡ user

abbrev pub AllOwned : List StoreEntry → ℕ → List Blob → Type 0
AllOwned entries user blobs = (blob : Blob) → Contains blobs blob → IsOwned entries user blob

-- a task between two of its turns
pub record Rest : Type 1 where
  -- whose it is
  pub user : ℕ
  -- what it rests on
  pub facts : List ShareFact
  -- the blobs whose entries it made, and that no standing directory names yet
  pub held : List Blob
  -- what the machine has of its command
  pub serves : ℕ → Began → Type 0
  -- how many turns it has left, how many directories it still makes, and how many entries, each at most
  pub left : ℕ
  pub makes : ℕ
  pub draws : ℕ

pub record Rests (rest : Rest) (boot : ℕ) (began : Began) (share : Share) : Type 0 where
  pub of_user : actor_of began.command ≡ User rest.user
  pub accepted : began.verdict ≡ None
  pub serves : rest.serves boot began
  pub facts : AllHas rest.facts share
  -- the facts speak of entries whose blobs it holds, and these are of the user's keys
  pub known : AreHeld rest.held rest.facts
  pub owned : AllOwned share.vault.entries rest.user rest.held

-- where a task stands: the boot, its command, its user's share, and the first of the items that its command listed
-- which is still to be deleted
pub record Scene : Type 0 where
  pub boot : ℕ
  pub began : Began
  pub share : Share
  pub due : Option Item

-- what a type of tasks is: where each rests, which answers it may hear, what it is after one, and how many jobs it
-- asks for at most before its next call or reply
pub record Tasks (T : Type 0) : Type 1 where
  pub rest_of : T → Rest
  pub hears : T → Answer → Type 0
  pub after : T → Answer → T
  pub asks : T → ℕ

-- a task before a turn: where it rests, which answers it may hear, where it rests after one, and how many jobs it asks
-- for at most before its next call or reply, now and after an answer
pub record Seen : Type 1 where
  pub now : Rest
  pub hears : Answer → Type 0
  pub then : Answer → Rest
  pub asks : ℕ
  pub asks_then : Answer → ℕ

abbrev pub seen_of : {T : Type 0} → Tasks T → T → Seen
seen_of tasks task = record {
  now = tasks.rest_of task;
  hears = λ answer. tasks.hears task answer;
  then = λ answer. tasks.rest_of (tasks.after task answer);
  asks = tasks.asks task;
  asks_then = λ answer. tasks.asks (tasks.after task answer);
}

-- what a turn costs: the directories that it makes and removes, the entries that it makes, and the blobs that it lists
-- and deletes, each at most
pub record Cost : Type 0 where
  pub makes : ℕ
  pub takes : ℕ
  pub draws : ℕ
  pub lists : ℕ
  pub deletes : ℕ

abbrev pub no_cost : Cost
no_cost = record { makes = 0; takes = 0; draws = 0; lists = 0; deletes = 0 }

-- how many blobs a user's standing directories name at most that an operation removes: one each
abbrev pub drops_at : Site → Option Record → ℕ
drops_at De (Some known) = length (map.keys known.secrets) + 1
drops_at (Ce slot) (Some known) = 1
drops_at site known = 0

abbrev pub drops_most : LocalOp → Option Record → ℕ
drops_most (RemoveDir site) known = drops_at site known
drops_most op known = 0

-- by what is recorded of the user
abbrev pub cost_of : Option Record → Call → Cost
cost_of known (Op user op names) = record {
  makes = adds_local op;
  takes = takes_local op;
  draws = 0;
  lists = drops_most op known;
  deletes = 0;
}
cost_of known (Generate tag app_id) = record no_cost { draws = 1 }
cost_of known (Delete item tells) = record no_cost { deletes = 1 }
cost_of known call = no_cost

-- the task hears the answer, and rests in this share then; fewer turns are left, each directory that it removed and
-- each blob that it listed counting for one
pub record Leads (seen : Seen) (answer : Answer) (scene : Scene)
    (note : Option LocalChange) (cost : Cost) (share : Share) : Type 0 where
  pub hears : seen.hears answer
  pub facts : AllHas (seen.then answer).facts share
  pub known :
      AreHeld (seen.then answer).held (seen.then answer).facts
  pub serves : (seen.then answer).serves scene.boot
      (with_note seen.now.user scene.began note)
  pub same_user : (seen.then answer).user ≡ seen.now.user
  pub falls : (seen.then answer).left + cost.makes + cost.lists < seen.now.left + cost.takes + cost.deletes
  pub makes : (seen.then answer).makes + cost.makes ≤ seen.now.makes
  pub draws : (seen.then answer).draws + cost.draws ≤ seen.now.draws

-- the share after an operation of its user, with the change that it makes or none; after a sync; and with a last
-- entry, made at the store's level
abbrev pub operated : Share → LocalOp → Option LocalChange → Share
operated share op note = record share { own = with_step share.own (record { op = op; note = note }) }

abbrev pub synced : Share → Share
synced share = record share { own = settled share.own }

abbrev pub with_entry : Share → Blob → Tag → List ℕ → List ℕ → Share
with_entry share blob tag app_id key = record share {
  vault = record share.vault {
    entries = share.vault.entries ++ record {
      blob = blob;
      level = share.vault.level;
      app_id = app_id;
      key = key;
      tag = tag;
    } ∷ [];
  };
}

-- and with a key of the user's in the ring, and without it
abbrev pub with_key : Share → Class → List ℕ → Share
with_key share class key = record share {
  keys = λ other. cond (same_class other class) (Some key) (share.keys other);
}

abbrev pub without_key : Share → Class → Share
without_key share class = record share { keys = λ other. cond (same_class other class) None (share.keys other) }

-- what directories are opened with once a change of the command's was noted: what it added was made for it
abbrev pub noting : ℕ → Scene → Option LocalChange → Vault
noting user scene None = scene.share.vault
noting user scene (Some change) = record scene.share.vault {
  attempts = λ other. with_additions (scene.share.vault.attempts other) (if_of other (Some user)
      (additions_of scene.share.vault.seed other (record { boot = scene.boot; index = scene.began.index })
      (own_record scene.share.own) change));
}

-- an operation on the task's own user's places may be made and makes the change that it notes; what it makes the
-- user's directories name was held, and is let go
pub record OpShows (seen : Seen) (scene : Scene) (owner : ℕ) (op : LocalOp)
    (names : Option Blob) (change : Option LocalChange) : Type 0 where
  pub mine : owner ≡ seen.now.user
  pub step : StepShows (sealed (noting seen.now.user scene change)) seen.now.user scene.share.own
      (record { op = op; note = change }) []
  pub brings : BringsBlob (own_view scene.share.own) op names
  pub gains : List Blob
  pub gained : Gains scene.share.own op gains
  pub lets_go : LetsGo seen.now.held gains (seen.then Done).held
  -- it goes on holding all that it held, or nothing
  pub held : ((seen.then Done).held ≡ seen.now.held)
      ⊎ ((seen.then Done).held ≡ [])
  pub leads : Leads seen Done scene change (cost_of (own_record scene.share.own) (Op owner op names))
      (operated scene.share op change)

pub record SyncShows (seen : Seen) (scene : Scene) (change : Option LocalChange) :
    Type 0 where
  pub quiet : change ≡ None
  pub held : (seen.then Done).held ≡ seen.now.held
  pub leads : Leads seen Done scene None no_cost (synced scene.share)

-- with each blob that has no entry, whatever the entry's key
pub record BlobShows (seen : Seen) (scene : Scene) (tag : Tag) (app_id : List ℕ)
    (blob : Blob) (key : List ℕ) : Type 0 where
  pub held : (seen.then (IsBlob blob)).held ≡ seen.now.held ++ blob ∷ []
  pub leads : Leads seen (IsBlob blob) scene None (cost_of None (Generate tag app_id))
      (with_entry scene.share blob tag app_id key)

-- an entry of the user's is made
pub record GenerateShows (seen : Seen) (scene : Scene) (tag : Tag) (app_id : List ℕ)
    (change : Option LocalChange) : Type 0 where
  pub quiet : change ≡ None
  pub tagged : tag.user ≡ seen.now.user
  pub each : (blob : Blob) (key : List ℕ) → length blob ≡ 32 → entry_of scene.share.vault.entries blob ≡ None
      → BlobShows seen scene tag app_id blob key

-- the blob has an entry of this app id at the store's level
pub record SealsUnder (share : Share) (blob : Blob) (app_id : List ℕ) : Type 0 where
  pub entry : StoreEntry
  pub live : entry_of share.vault.entries blob ≡ Some entry
  pub bound : entry.app_id ≡ app_id
  pub current : entry.level ≡ share.vault.level

-- a key is sealed under the blob's entry
pub record EncryptShows (seen : Seen) (scene : Scene) (blob : Blob)
    (app_id nonce key : List ℕ) : Type 0 where
  pub under : SealsUnder scene.share blob app_id
  pub held : (seen.then (Sealed (sealed_text under.entry.key nonce key))).held
      ≡ seen.now.held
  pub leads : Leads seen (Sealed (sealed_text under.entry.key nonce key)) scene None no_cost scene.share

-- the task hears the directory that stands at a place of its user's
pub record DirectoryShows (seen : Seen) (scene : Scene) (files : Files) : Type 0 where
  pub held : (seen.then (Directory files)).held ≡ seen.now.held
  pub leads : Leads seen (Directory files) scene None no_cost scene.share

pub record ReadShows (seen : Seen) (scene : Scene) (place : Place) (change : Option LocalChange) : Type 0 where
  pub quiet : change ≡ None
  pub mine : user_of place ≡ seen.now.user
  pub there : is_some (own_view scene.share.own (site_of place)) ≡ true
  pub each : (files : Files) → own_view scene.share.own (site_of place) ≡ Some files → DirectoryShows seen scene files

-- a sealed key is opened under the blob's entry, whatever comes of it
pub record DecryptShows (seen : Seen) (scene : Scene) (blob : Blob) (app_id sealed_key : List ℕ)
    (change : Option LocalChange) : Type 0 where
  pub quiet : change ≡ None
  pub long : length sealed_key ≡ 92
  pub held : (seen.then (Decrypted (answer_in scene.share.vault blob app_id sealed_key))).held ≡ seen.now.held
  pub leads : Leads seen (Decrypted (answer_in scene.share.vault blob app_id sealed_key)) scene None no_cost
      scene.share

-- the secret that a command gives to open its user's key with, if it opens one
abbrev pub opening_secret : Command → Option (List ℕ)
opening_secret (Unlock user secret) = Some secret
opening_secret (Protect user given fresh) = Some given
opening_secret command = None

-- where the command opens its user's key, it gave a right secret
abbrev pub GaveRight : ℕ → Scene → Type 0
GaveRight user scene = IfSome (opening_secret scene.began.command) (IsUnder scene.share user)

-- a drop of such a command is of no slot that is the newest under its secret, where no tag matched by chance
abbrev pub KeepsNewest : Attempts → Record → LocalChange → List ℕ → Type 0
KeepsNewest attempts known (Dropped slot) secret = NoChanceMatch attempts → ¬ (IsNewestUnder known secret slot)
KeepsNewest attempts known change secret = Unit {0}

abbrev pub KeepsRight : ℕ → Scene → LocalChange → Type 0
KeepsRight user scene change = IfSome (own_record scene.share.own) (λ known.
    IfSome (opening_secret scene.began.command) (KeepsNewest (scene.share.vault.attempts user) known change))

-- a user's end comes once neither of the user's keys is in the ring
abbrev pub EndsKeyless : Share → LocalChange → Type 0
EndsKeyless share Destroyed = (class : Class) → share.keys class ≡ None
EndsKeyless share change = Unit {0}

-- the reply tells an unlock that its user's key was opened
abbrev pub TellsOpened : Reply → Command → Type 0
TellsOpened DoneReply (Unlock user secret) = Unit {0}
TellsOpened DoneReply command = ⊥
TellsOpened reply command = ⊥

-- a key that the task's user was given comes into the ring
pub record AddShows (seen : Seen) (scene : Scene) (owner : ℕ) (class : Class)
    (key : List ℕ) (change : Option LocalChange) : Type 0 where
  pub quiet : change ≡ None
  pub mine : owner ≡ seen.now.user
  pub given : IsGiven scene.share seen.now.user class key
  pub may : Installs scene.began.command seen.now.user class
  pub right : GaveRight seen.now.user scene
  pub held : (seen.then Installed).held ≡ seen.now.held
  pub leads : Leads seen Installed scene None no_cost (with_key scene.share class key)

-- a key of the task's user leaves the ring
pub record RemoveShows (seen : Seen) (scene : Scene) (owner : ℕ) (class : Class)
    (change : Option LocalChange) : Type 0 where
  pub quiet : change ≡ None
  pub mine : owner ≡ seen.now.user
  pub may : Evicts scene.began.command seen.now.user class
  pub held : (seen.then Done).held ≡ seen.now.held
  pub leads : Leads seen Done scene None no_cost (without_key scene.share class)

-- the share without the entry of a blob
abbrev pub without_entry : Share → Blob → Share
without_entry share blob =
    record share { vault = record share.vault { entries = without share.vault.entries blob } }

-- whether a delete of the command's is told where the keystore failed
abbrev pub tells_deletes : Command → Bool
tells_deletes (Destroy user) = true
tells_deletes command = false

-- the item that is due is deleted; a task that isn't told where the keystore failed goes on as well
pub record DeleteShows (seen : Seen) (scene : Scene) (item : Item) (tells : Bool) (change : Option LocalChange) :
    Type 0 where
  pub quiet : change ≡ None
  pub is_due : scene.due ≡ Some item
  pub telling : tells ≡ tells_deletes scene.began.command
  pub held : (seen.then Done).held ≡ seen.now.held
  pub leads : Leads seen Done scene None (cost_of None (Delete item tells)) (without_entry scene.share item.blob)
  pub goes_on : tells ≡ false → Leads seen Done scene None (cost_of None (Delete item tells)) scene.share

-- the call may be made, keeps every image, and leads to what the task rests on then; a user's task has no place and no
-- entry listed
abbrev pub CallStands : Seen → Scene → Call → Option LocalChange → Type 0
CallStands seen scene (Op owner op names) change = OpShows seen scene owner op names change
CallStands seen scene Sync change = SyncShows seen scene change
CallStands seen scene (Generate tag app_id) change = GenerateShows seen scene tag app_id change
CallStands seen scene (Encrypt blob app_id nonce key) change =
    (change ≡ None) × EncryptShows seen scene blob app_id nonce key
CallStands seen scene (Decrypt blob app_id key) change = DecryptShows seen scene blob app_id key change
CallStands seen scene (Add owner class key) change = AddShows seen scene owner class key change
CallStands seen scene (Remove owner class) change = RemoveShows seen scene owner class change
CallStands seen scene ListCall change = ⊥
CallStands seen scene (Read place) change = ReadShows seen scene place change
CallStands seen scene Entries change = ⊥
CallStands seen scene (Delete item tells) change = DeleteShows seen scene item tells change

-- whether the user's key of this class is in the ring
abbrev pub KeyIsIn : ℕ → Share → ℕ → Class → Bool → Type 0
KeyIsIn user share owner class there = (owner ≡ user) × (is_some (share.keys class) ≡ there)

-- what is told of the command, by its user's share
abbrev pub evidence_in : ℕ → Share → Evidence
evidence_in user share = record {
  logged = IsLogged user share.own;
  durable = AreDurable user share.own;
  has_key = KeyIsIn user share;
  recorded = λ owner known. (owner ≡ user) × (own_record share.own ≡ Some known);
}

-- the machine allows the change of the command
pub record MayChange (user : ℕ) (scene : Scene) (local : LocalChange) : Type 0 where
  pub allowed : AllowsChange (evidence_in user scene.share) scene.boot scene.began scene.began.command
      (change_of user local)
  pub right : GaveRight user scene
  pub keeps : KeepsRight user scene local
  pub keyless : EndsKeyless scene.share local

-- what a task has to show of a call that it makes next
pub record CallShows (seen : Seen) (scene : Scene) (call : Call)
    (change : Option LocalChange) : Type 0 where
  pub stands : CallStands seen scene call change
  pub may : IfSome change (MayChange seen.now.user scene)
  -- and where the call fails, it is told so in one more turn
  pub lasts : 1 < seen.now.left + (cost_of None call).deletes

-- of a job, whose output it hears in the same turn
pub record WorkShows (seen : Seen) (scene : Scene) (job : Job) : Type 0 where
  pub held : (seen.then (Output (output_of job.input))).held ≡ seen.now.held
  pub leads : Leads seen (Output (output_of job.input)) scene None no_cost scene.share

-- of a reply that the user is gone: nothing of the user's is pending, nothing of it stands in any part that a stop can
-- leave, and no delete is due
pub record EndsUser (scene : Scene) : Type 0 where
  pub still : Holds Still scene.share.own
  pub vacant : Holds Vacant scene.share.own
  pub ended : scene.due ≡ None

-- of a reply: it tells what came of the command's work, and that it holds no blob
pub record ReplyShows (seen : Seen) (scene : Scene) (reply : Reply) : Type 0 where
  pub outcome : kind_of_reply reply ≡ Outcome
  pub may : AllowsOutcome (evidence_in seen.now.user scene.share) scene.boot scene.began reply
  pub right : TellsOpened reply scene.began.command → GaveRight seen.now.user scene
  pub gone : reply ≡ Gone → EndsUser scene
  pub lasts : 0 < seen.now.left
  pub held : seen.now.held ≡ []

-- a sealed key that a job opens has 92 bytes
abbrev pub HasWholeKey : JobInput → Type 0
HasWholeKey (Unseal discard secret sealed_key) = length sealed_key ≡ 92
HasWholeKey input = Unit {0}

-- a job that a task asks for: it may hear the output, and asks for fewer jobs then
pub record AsksFor (seen : Seen) (job : Job) : Type 0 where
  pub whole : HasWholeKey job.input
  pub hears : seen.hears (Output (output_of job.input))
  pub fewer : seen.asks_then (Output (output_of job.input)) < seen.asks

-- a task asks for a job only where it says so
abbrev pub Asks : Seen → Next → Type 0
Asks seen (WorkNext job) = AsksFor seen job
Asks seen (CallNext call change) = Unit {0}
Asks seen (ReplyNext reply) = Unit {0}

-- what a task has to show of its next turn
abbrev pub TurnShows : Seen → Scene → Next → Type 0
TurnShows seen scene (CallNext call change) = CallShows seen scene call change
TurnShows seen scene (WorkNext job) = WorkShows seen scene job
TurnShows seen scene (ReplyNext reply) = ReplyShows seen scene reply
