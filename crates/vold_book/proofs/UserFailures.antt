-- A call of a user's command that failed leaves the Book what it has to, and the devices' conditions on a call hold.
use Rattle.std.proofs.Common.{◌≡◌, ◌<◌, ◌^◌, ◌+◌, ℕ, inl, true, false, [], length, refl, sym, ap, ◌∙◌, subst}
use Rattle.std.proofs.lemmas.Option.{same_Some}
use Rattle.std.specs.Prelude.{Option, is_some, Ok}
use Rattle.tree_model.specs.declared.sites.LocalOp.{LocalOp}
use Rattle.tree_model.specs.Disk.{view}
use Rattle.key_ring.specs.Ring.{key_of}
use Rattle.deferred_delete.specs.declared.items.Item.{Item}
use Rattle.journal_model.specs.declared.entries.Device.{Device}
use Rattle.journal_model.specs.Machine.{Machine}
use Rattle.keystore_model.specs.Store.{entry_of}
use Rattle.user_world.specs.declared.changes.LocalChange.{LocalChange}
use Rattle.user_world.specs.OwnWorlds.{own_view}
use Rattle.user_world.specs.Timelines.{Timeline, own_of, OwnWorldsStand}
use Rattle.user_world.specs.Turns.{StepShows}
use Rattle.user_world.proofs.Timelines.{view-shown}
use Rattle.key_directory.specs.Vaults.{Vault, sealed}
use Rattle.task_turns.specs.declared.calls.Answer.TheVariants.{Done}
use Rattle.task_turns.specs.declared.calls.Call.{Call}
use Rattle.task_turns.specs.declared.calls.Call.TheVariants.{Op as OpCall, Sync, Generate, Encrypt, Decrypt}
use Rattle.task_turns.specs.declared.calls.Call.TheVariants.{List as ListCall, Read, Entries, Add, Remove, Delete}
use Rattle.task_turns.specs.Names.{BringsBlob}
use Rattle.task_turns.specs.Shares.{AllHas}
use Rattle.task_turns.specs.Turns.{seen_of, Scene, AllOwned, CallShows, OpShows, noting}
use Rattle.bench.specs.declared.made.Made.TheVariants.{Failed}
use Rattle.bench.specs.Bench.{Plain as Seen, Fits, IsFailed, IsFailedOp, IsMade, Rests as AllRests, dropped}
use Rattle.bench.specs.Known.{Knows}
use Rattle.bench.proofs.Failures.{failed-leaves}
use Rattle.bench.proofs.Known.{knows-failed}
use Rattle.user_tasks.specs.Tasks.{tasks, user_of, rest_of}
use Rattle.vold_book.specs.declared.tasks.Held.{Held}
use Rattle.vold_book.specs.declared.tasks.Task.TheVariants.{User as Using, Fault}
use Rattle.vold_book.specs.Owed.{due_of}
use Rattle.vold_book.specs.Parts.{Agrees, noted}
use Rattle.vold_book.specs.State.{Plain, Ground, machine_of, tried_in, timeline, ground_at, ground_of, vault_of}
use Rattle.vold_book.specs.State.{share_of}
use Rattle.vold_book.specs.Tasks.{HoldsOwn, HearsFailed, blobs_in, scene_of, task_heard, is_untold}
use Rattle.vold_book.specs.Whole.{Whole}
use Rattle.vold_book.proofs.DueItems.{due-listed}
use Rattle.vold_book.proofs.Grounds.{LeavesGround}
use Rattle.vold_book.proofs.HeardCalls.{found-own}
use Rattle.vold_book.proofs.Moves.{Moves, after_of, same-tried, holds-on}
use Rattle.vold_book.proofs.Needed.{IsNeeded}
use Rattle.vold_book.proofs.StepsMade.{Keeps, same-line, step-fits, step-told, step-failed, failed-disk}
use Rattle.vold_book.proofs.Tracked.{ChangeIsTold, pending-noted, noted-stays, failed-durable}
use Rattle.vold_book.proofs.UserRuns.{UserRuns, known, up-not-down, others-stand}
use Rattle.vold_book.proofs.UserRuns.{leads-move, owned-still, differ-still}
use Rattle.tree_model.specs.declared.blobs.Blob.{Blob}

module _ (book : Plain) (whole : Whole book) (runs : UserRuns book) where
  abbrev user : ℕ
  user = user_of runs.task

  abbrev machine : Machine
  machine = machine_of book

  abbrev line : Timeline
  line = timeline book.bench.disk machine

  abbrev scene : Scene
  scene = scene_of user (ground_of book) runs.on.began (due_of book.bench.list runs.owed)

  -- what a failed call leaves: nothing but the disk and the counts differs, and every world is kept
  module _ (change : Option LocalChange) (bench : Seen) where
    abbrev line' : Timeline
    line' = timeline bench.disk machine

    abbrev vault : Vault
    vault = vault_of (tried_in book) book.seed book.bench.store

    record Spares (call : Call) : Type 0 where
      store : bench.store ≡ book.bench.store
      keys : bench.keys ≡ book.bench.keys
      keeps : Keeps (sealed vault) user line line'
      told : ChangeIsTold (view book.bench.disk) call (is_some change)
      knows : Knows bench.places (view bench.disk)

    spares-op : (op : LocalOp) (names : Option Blob) → OpShows (seen_of tasks runs.task) scene user op names change
        → IsFailedOp book.bench bench user op → Spares (OpCall user op names)
    spares-op op names shows failed = record {
      store = ap (λ b. b.store) (failed-leaves book.bench bench (OpCall user op names) failed);
      keys = ap (λ b. b.keys) (failed-leaves book.bench bench (OpCall user op names) failed);
      keeps = step-failed (sealed vault) user line change whole.worlds op bench.disk shows.step
          (λ none. subst (λ c. StepShows (sealed (noting user scene c)) user (own_of user line)
          (record { op = op; note = change }) []) none shows.step)
          (failed-disk book.bench bench user op failed);
      told = step-told (sealed vault) user line change whole.worlds op shows.step;
      knows = knows-failed book.bench bench (known book whole runs) user op names
          (subst (λ part. BringsBlob part op names) (view-shown user _ line whole.worlds.shows) shows.brings) failed;
    }

    spares-same : (call : Call) → ChangeIsTold (view book.bench.disk) call (is_some change)
        → AllRests book.bench bench → Spares call
    spares-same call told rests = record {
      store = ap (λ b. b.store) rests;
      keys = ap (λ b. b.keys) rests;
      keeps = same-line (sealed vault) user line bench.disk whole.worlds (ap (λ b. b.disk) rests);
      told = told;
      knows = subst (λ b. Knows b.places (view b.disk)) (sym rests) (known book whole runs);
    }

    spares : (call : Call) → CallShows (seen_of tasks runs.task) scene call change → IsFailed book.bench bench call
        → Spares call
    spares (OpCall owner op names) shows failed =
        subst (λ u. OpShows (seen_of tasks runs.task) scene u op names change → IsFailedOp book.bench bench u op
        → Spares (OpCall u op names)) (sym shows.stands.mine) (spares-op op names) shows.stands failed
    spares Sync shows failed = spares-same Sync tt failed
    spares (Generate tag app_id) shows failed = spares-same (Generate tag app_id) tt failed
    spares (Encrypt blob app_id nonce key) shows failed = spares-same (Encrypt blob app_id nonce key) tt failed
    spares (Decrypt blob app_id text) shows failed = spares-same (Decrypt blob app_id text) tt failed
    spares (Add owner class key) shows failed = spares-same (Add owner class key) tt failed
    spares (Remove owner class) shows failed = spares-same (Remove owner class) tt failed
    spares (Delete item tells) shows failed = spares-same (Delete item tells) tt failed
    spares ListCall shows failed = absurd shows.stands
    spares (Read place) shows failed = spares-same (Read place) tt failed
    spares Entries shows failed = absurd shows.stands

    abbrev ground' : Ground
    ground' = ground_at (tried_in book) book.seed bench machine

    leaves-failed : (call : Call) → Spares call → LeavesGround (IsNeeded book) (ground_of book) ground' user
    leaves-failed call spared = record {
      boot = refl;
      level = ap (λ s. s.level) spared.store;
      seed = refl;
      attempts = λ other. same-tried (tried_in book other);
      kept = λ blob needed entry live. ap (λ s. entry_of s.entries blob) spared.store ∙ live;
      keys = λ other differ. ap (λ keys. key_of keys other) spared.keys;
      others = spared.keeps.others;
    }

    worlds-failed : (call : Call) → Spares call
        → OwnWorldsStand (sealed (vault_of (tried_in book) book.seed bench.store)) line'
    worlds-failed call spared =
        subst (λ s. OwnWorldsStand (sealed (vault_of (tried_in book) book.seed s)) line') (sym spared.store)
        spared.keeps.stands

    agrees-failed : (call : Call) (device : Device) → Spares call → IsMade book.bench bench call (Ok (Failed device))
        → Agrees (noted false call (is_some change) book.tracker) machine bench.disk
    agrees-failed call device spared made = let stays = noted-stays false call (is_some change) book.tracker in
        record {
          phase = whole.agrees.phase ∙ sym stays.phase;
          boot = whole.agrees.boot ∙ sym stays.boot;
          level = whole.agrees.level ∙ sym stays.level;
          durable = whole.agrees.durable ∙ sym (failed-durable call (is_some change) book.tracker);
          pending = pending-noted book.bench bench book.tracker whole.agrees.pending call (is_some change)
              (Failed device) spared.told made;
        }

    -- a call that failed, which is told next
    pub user-failed : (call : Call) (device : Device) (held : Held)
        → CallShows (seen_of tasks runs.task) scene call change
        → IsMade book.bench bench call (Ok (Failed device)) → blobs_in held ≡ (rest_of runs.task).held
        → Moves book runs.actor runs.number
        (after_of book runs.number call change (Fault device held) (Failed device) bench)
    user-failed call device held shows made all =
        let spared = spares call shows made.1 in
        let leaves = leaves-failed call spared in record {
          may = tt;
          quiet = tt;
          agrees = agrees-failed call device spared made;
          worlds = worlds-failed call spared;
          boot = refl;
          mine = record {
            began = runs.on.began;
            at = runs.on.at;
            own = runs.on.own;
            stands = runs.on.stands.accepted;
            holds = subst (HoldsOwn ground' runs.actor) (sym all)
                (holds-on (ground_of book) ground' runs.actor (rest_of runs.task).held
                (λ blob holds. leaves.kept blob (runs.needs blob holds)) runs.on.holds);
          };
          on_machine = λ n differ. refl;
          same_command = λ b at. ap (λ c. c.command) (same_Some runs.on.began b (sym runs.on.at ∙ at));
          others = others-stand book whole runs ground' leaves;
          kept = leaves.kept;
          phase = (noted-stays false call (is_some change) book.tracker).phase;
          up = λ is. spared.knows;
          durable = λ down. absurd (up-not-down book whole runs (whole.agrees.phase ∙ down));
        }

    -- a delete that failed of which the command isn't told, so that it goes on
    pub user-untold : (item : Item) (device : Device)
        → CallShows (seen_of tasks runs.task) scene (Delete item false) change
        → IsMade book.bench bench (Delete item false) (Ok (Failed device))
        → Moves book runs.actor runs.number (after_of book runs.number (Delete item false) change
        (Using (tasks.after runs.task Done)) (Failed device) bench)
    user-untold item device shows made =
        let spared = spares (Delete item false) shows made.1 in
        let leads = shows.stands.goes_on refl in
        leads-move book whole runs (tasks.after runs.task Done) runs.on.began _ (record {
          leaves = leaves-failed (Delete item false) spared;
          worlds = worlds-failed (Delete item false) spared;
          facts = subst (λ b. AllHas (rest_of (tasks.after runs.task Done)).facts
              (share_of user (ground_at (tried_in book) book.seed b machine))) (sym made.1) leads.facts;
          known = leads.known;
          owned = subst (λ s. AllOwned s.entries user (rest_of (tasks.after runs.task Done)).held) (sym spared.store)
              (owned-still book whole runs (tasks.after runs.task Done) (inl shows.stands.held));
          differ = differ-still book whole runs (tasks.after runs.task Done) (inl shows.stands.held);
          at = runs.on.at;
          on_machine = λ n differ. refl;
          command = refl;
          verdict = refl;
          serves = leads.serves;
          same_user = leads.same_user;
          is_task = refl;
          may = tt;
          quiet = tt;
          agrees = agrees-failed (Delete item false) device spared made;
          phase = (noted-stays false (Delete item false) (is_some change) book.tracker).phase;
          knows = spared.knows;
        })

  module _ (call : Call) (change : Option LocalChange) where
    -- the command may hear of a delete that failed of which it isn't told, and goes on
    pub untold-hears : CallShows (seen_of tasks runs.task) scene call change
        → HearsFailed (is_untold call) (Using runs.task)
    untold-hears shows = by call shows
      where
        by : (c : Call) → CallShows (seen_of tasks runs.task) scene c change → HearsFailed (is_untold c)
            (Using runs.task)
        by (Delete item false) shows = shows.stands.leads.hears
        by c shows = tt

    pub user-goes_on : (bench : Seen) (device : Device) → is_untold call ≡ true
        → CallShows (seen_of tasks runs.task) scene call change
        → IsMade book.bench bench call (Ok (Failed device))
        → Moves book runs.actor runs.number
        (after_of book runs.number call change (task_heard call Done (Using runs.task)) (Failed device) bench)
    user-goes_on bench device is shows made = by call is shows made
      where
        by : (c : Call) → is_untold c ≡ true → CallShows (seen_of tasks runs.task) scene c change
            → IsMade book.bench bench c (Ok (Failed device))
            → Moves book runs.actor runs.number
            (after_of book runs.number c change (task_heard c Done (Using runs.task)) (Failed device) bench)
        by (Delete item false) is shows made = user-untold change bench item device shows made
        by c is shows made = cc

  -- the devices' conditions hold, where the blobs given are few and the list has room for what may be dropped
  pub user-fits : (call : Call) (change : Option LocalChange) → CallShows (seen_of tasks runs.task) scene call change
      → length book.bench.store.given < 2 ^ 63
      → ((op : LocalOp) → book.bench.list.next + book.bench.list.promised
      + length (dropped book.bench.places user op) < 2 ^ 63)
      → Fits book.bench call
  user-fits (OpCall owner op names) change shows few room =
      subst (λ u. Fits book.bench (OpCall u op names)) (sym shows.stands.mine) (
        step-fits (sealed (vault_of (tried_in book) book.seed book.bench.store)) user line change whole.worlds op
            (subst (λ u. OpShows (seen_of tasks runs.task) scene u op names change) shows.stands.mine
            shows.stands).step,
        room op,
      )
  user-fits Sync change shows few room = tt
  user-fits (Generate tag app_id) change shows few room = few
  user-fits (Encrypt blob app_id nonce key) change shows few room =
      let under = shows.stands.1.under in
      record { entry = under.entry; found = under.live; bound = under.bound; current = under.current }
  user-fits (Add owner class key) change shows few room = tt
  user-fits (Remove owner class) change shows few room = tt
  user-fits (Delete item tells) change shows few room =
      let due = due-listed book.bench.list whole.numbered runs.owed item shows.stands.is_due in
      (due.listed, due.synced)
  user-fits ListCall change shows few room = absurd shows.stands
  user-fits (Read place) change shows few room =
      ap is_some (sym (found-own (own_view scene.share.own) (view book.bench.disk) user place
      (view-shown user _ line whole.worlds.shows) shows.stands.mine)) ∙ shows.stands.there
  user-fits (Decrypt blob app_id text) change shows few room = shows.stands.long
  user-fits Entries change shows few room = absurd shows.stands
