-- A recovery as a task: it rests on the known places and on the list of waiting deletes, and shows of each turn that
-- every user's own world is kept.
use Rattle.std.specs.Prelude.{◌≡◌, ◌⊎◌, ℕ, ◌+◌, ◌-◌, ◌*◌, ◌<◌, ◌≤◌, Bool, true, false, not, List, [], ◌∷◌}
use Rattle.std.specs.Prelude.{Option, Some, None, is_some, slice_get}
use Rattle.std.specs.FinMap as map
use Rattle.tree_model.specs.declared.blobs.Blob.{Blob}
use Rattle.tree_model.specs.declared.ops.Op.{Op as DiskOp}
use Rattle.tree_model.specs.declared.places.Place.{Place}
use Rattle.tree_model.specs.declared.sites.LocalOp.{LocalOp}
use Rattle.tree_model.specs.declared.sites.LocalOp.TheVariants.{RemoveDir}
use Rattle.tree_model.specs.declared.sites.Site.{Site}
use Rattle.tree_model.specs.Disk.{view, with_op}
use Rattle.tree_model.specs.Named.{IsNamed, PartNames}
use Rattle.tree_model.specs.Parts.{after_local}
use Rattle.tree_model.specs.Sites.{op_of}
use Rattle.tree_model.specs.Tree.{Tree}
use Rattle.journal_model.specs.declared.commands.Reply.{Reply}
use Rattle.journal_model.specs.declared.commands.Reply.TheVariants.{Ended}
use Rattle.journal_model.specs.declared.phase.Phase.TheVariants.{Down}
use Rattle.keystore_model.specs.declared.entry.StoreEntry.{StoreEntry}
use Rattle.keystore_model.specs.Store.{IsLive, blobs_of}
use Rattle.deferred_delete.specs.Deferral.{Deferral, noted}
use Rattle.blob_custody.specs.Custody.{IsListed}
use Rattle.user_world.specs.OwnWorlds.{quiet, own_view}
use Rattle.user_world.specs.Timelines.{own_of, OwnWorldsStand, settled_line}
use Rattle.user_world.specs.Turns.{StepShows}
use Rattle.key_directory.specs.Vaults.{sealed}
use Rattle.step_core.specs.Table.{NamedPlaces, named_by}
use Rattle.task_turns.specs.declared.calls.Call.{Call}
use Rattle.task_turns.specs.declared.calls.Call.TheVariants.{Op, Sync, List as ListCall, Read, Generate, Encrypt}
use Rattle.task_turns.specs.declared.calls.Call.TheVariants.{Decrypt, Entries, Add, Remove, Delete}
use Rattle.task_turns.specs.declared.next.Next.{Next}
use Rattle.task_turns.specs.declared.next.Next.TheVariants.{Call as CallNext, Work as WorkNext, Reply as ReplyNext}
use Rattle.task_turns.specs.Names.{Gains, Brings}
use Rattle.task_turns.specs.Turns.{cost_of}
use Rattle.bench.specs.Bench.{KnowsPlaces, places_after, dropped, named_in, AreUnnamed, listed}
use Rattle.vold_book.specs.declared.recovery.Recovery.{Recovery}
use Rattle.vold_book.specs.declared.recovery.Recovery.TheVariants.{Listing, Sweeping, Reading, Settled, Listed}
use Rattle.vold_book.specs.State.{Ground}
use Rattle.vold_book.specs.Sweeping.{NoneLeft, IsLeft, IsTidy}

-- the most commands that a Book numbers, and the most directories that these make
abbrev pub max_commands : ℕ
max_commands = 65536

abbrev pub max_places : ℕ
max_places = 2 * max_commands

abbrev pub is_nothing : List DiskOp → Bool
is_nothing [] = true
is_nothing (op ∷ ops) = false

-- of the first so many known places it is known what each names
abbrev pub NamesFirst : NamedPlaces → Tree → ℕ → Type 0
NamesFirst places tree count = (at : ℕ) (place : Place) → at < count → slice_get (map.keys places) at ≡ Some place
    → map.get places place ≡ named_in (map.get tree place)

-- each live blob is named in the view or listed
abbrev pub AllPlaced : List StoreEntry → Tree → Deferral → Type 0
AllPlaced entries tree list = (blob : Blob) → IsLive entries blob → IsNamed tree blob ⊎ IsListed list blob

-- the places are known, and nothing is half made; nothing is listed yet
pub record IsSwept (ground : Ground) : Type 0 where
  pub known : KnowsPlaces ground.places (view ground.line.disk)
  pub none : NoneLeft ground.places (IsLeft ground.places)
  pub unlisted : ground.list.items ≡ []

-- nothing is half made, and nothing else can come of a stop
pub record IsSettled (ground : Ground) : Type 0 where
  pub tidy : IsTidy ground.places (view ground.line.disk)
  pub still : ground.line.disk.pending ≡ []

-- it read no more directories than there can be
abbrev pub CountsFew : Recovery → Type 0
CountsFew (Reading count) = count ≤ max_places
CountsFew recovery = Unit {0}

-- where a recovery stands, besides that the machine is down
abbrev pub RestsAt : Ground → Recovery → Type 0
RestsAt ground Listing = ground.list.items ≡ []
RestsAt ground Sweeping = KnowsPlaces ground.places (view ground.line.disk) × (ground.list.items ≡ [])
RestsAt ground (Reading count) =
    IsSwept ground × NamesFirst ground.places (view ground.line.disk) count × CountsFew (Reading count)
RestsAt ground Settled = IsSettled ground × (ground.list.items ≡ [])
RestsAt ground Listed = IsSettled ground × AllPlaced ground.vault.entries (view ground.line.disk) ground.list

abbrev pub RecoveryRests : Ground → Recovery → Type 0
RecoveryRests ground recovery = (ground.phase ≡ Down) × RestsAt ground recovery

-- how many turns it has at most: one for each directory that it reads
abbrev pub recovery_left : NamedPlaces → Recovery → ℕ
recovery_left places Listing = max_places + 6
recovery_left places Sweeping = max_places + 5
recovery_left places (Reading count) = 4 + (map.len places - count)
recovery_left places Settled = 3
recovery_left places Listed = 1

-- what it is after a call
abbrev pub after_read : Recovery → Recovery
after_read (Reading count) = Reading (count + 1)
after_read recovery = Reading 1

abbrev pub recovery_after : Call → Recovery → Recovery
recovery_after ListCall recovery = Sweeping
recovery_after (Read place) recovery = after_read recovery
recovery_after Sync recovery = Settled
recovery_after Entries recovery = Listed
recovery_after call recovery = recovery

-- the ground after an operation on a user's places that makes no change; after a sync; with a place of which it is
-- known what it names; and with more blobs listed
abbrev pub operated : Ground → ℕ → LocalOp → Option Blob → Ground
operated ground user op names = record ground {
  line = record ground.line { disk = with_op ground.line.disk (op_of user op) };
  places = places_after ground.places user op names;
}

abbrev pub synced_ground : Ground → Ground
synced_ground ground = record ground {
  line = settled_line ground.line;
  list = record ground.list { items = noted ground.list.items };
}

abbrev pub with_read : Ground → Place → Ground
with_read ground place = record ground {
  places = map.insert ground.places place (named_by (named_in (map.get (view ground.line.disk) place)));
}

-- what it does next with the places swept: it reads the next directory; behind the last it makes everything durable,
-- and then lists the keystore's entries
abbrev pub next_read : Option Place → Bool → Next
next_read (Some place) dirty = CallNext (Read place) None
next_read None true = CallNext Sync None
next_read None false = CallNext Entries None

-- the recovery rests on the ground that a call leaves, and fewer turns are left, each directory that was removed
-- counting for one
pub record Comes (before : Ground) (recovery : Recovery) (call : Call) (after : Ground) : Type 0 where
  pub rests : RecoveryRests after (recovery_after call recovery)
  pub falls : recovery_left after.places (recovery_after call recovery) + (cost_of None call).makes
      < recovery_left before.places recovery + (cost_of None call).takes

-- an operation removes a directory, keeps its user's world, the user's directories go on naming what they named, and
-- nothing else, and it lists nothing
pub record SweepShows (ground : Ground) (recovery : Recovery) (owner : ℕ) (op : LocalOp) (names : Option Blob) :
    Type 0 where
  pub site : Site
  pub removes : op ≡ RemoveDir site
  pub step : StepShows (sealed ground.vault) owner (own_of owner ground.line) (quiet op) []
  pub brings : Brings (own_view (own_of owner ground.line)) op names
  pub gained : Gains (own_of owner ground.line) op []
  pub keeps : (blob : Blob) → PartNames (own_view (own_of owner ground.line)) blob
      → PartNames (after_local (own_view (own_of owner ground.line)) op) blob
  pub lists : dropped ground.places owner op ≡ []
  pub comes : Comes ground recovery (Op owner op names) (operated ground owner op names)

-- what no directory names is listed, once it is known what each names
pub record EntriesShow (ground : Ground) (recovery : Recovery) : Type 0 where
  pub settled : IsSettled ground
  pub unlisted : ground.list.items ≡ []
  pub comes : (found : List Blob) → AreUnnamed ground.places (blobs_of ground.vault.entries) found
      → Comes ground recovery Entries (record ground { list = listed ground.list found })

-- what each call shows: every user's world is kept, and the recovery rests on what the call leaves
abbrev pub RecoveryCalls : Ground → Recovery → Call → Type 0
RecoveryCalls ground recovery (Op owner op names) = SweepShows ground recovery owner op names
RecoveryCalls ground recovery Sync = Comes ground recovery Sync (synced_ground ground)
RecoveryCalls ground recovery ListCall = (places : NamedPlaces) → KnowsPlaces places (view ground.line.disk)
    → Comes ground recovery ListCall (record ground { places = places })
RecoveryCalls ground recovery (Read place) = (is_some (map.get (view ground.line.disk) place) ≡ true)
    × Comes ground recovery (Read place) (with_read ground place)
RecoveryCalls ground recovery (Generate tag app_id) = ⊥
RecoveryCalls ground recovery (Encrypt blob app_id nonce key) = ⊥
RecoveryCalls ground recovery (Decrypt blob app_id text) = ⊥
RecoveryCalls ground recovery (Add user class key) = ⊥
RecoveryCalls ground recovery (Remove user class) = ⊥
RecoveryCalls ground recovery (Delete item tells) = ⊥
RecoveryCalls ground recovery Entries = EntriesShow ground recovery

-- it ends only where nothing is half made in the view, nothing else can come of a stop, and every blob is placed
pub record RecoveryEnds (ground : Ground) (reply : Reply) : Type 0 where
  pub ended : reply ≡ Ended 0
  pub settled : IsSettled ground
  pub placed : AllPlaced ground.vault.entries (view ground.line.disk) ground.list

-- what a recovery has to show of its next turn
abbrev pub RecoveryShows : Ground → Recovery → Next → Type 0
RecoveryShows ground recovery (CallNext call change) =
    (change ≡ None) × RecoveryCalls ground recovery call × (1 < recovery_left ground.places recovery)
RecoveryShows ground recovery (WorkNext job) = ⊥
RecoveryShows ground recovery (ReplyNext reply) = RecoveryEnds ground reply

-- the turn shows what it has to, on every ground of these places on which the recovery rests
abbrev pub RecoveryTurns : NamedPlaces → Bool → Recovery → Next → Type 0
RecoveryTurns places dirty recovery next = (ground : Ground) → ground.places ≡ places
    → dirty ≡ not (is_nothing ground.line.disk.pending) → OwnWorldsStand (sealed ground.vault) ground.line
    → map.len (view ground.line.disk) ≤ max_places
    → RecoveryRests ground recovery → RecoveryShows ground recovery next
