-- An operation of a user's command, and a sync of its, leave the Book what they have to where the command shows it.
use Rattle.std.proofs.Common.{◌≡◌, ◌≢◌, ℕ, ◌++◌, inl, inr, false, [], refl, sym, ap, ◌∙◌, subst}
use Rattle.std.proofs.lemmas.List.{append-nil}
use Rattle.std.specs.Prelude.{Option, Some, None, is_some, IsSomeAnd, IfSome}
use Rattle.std.specs.Cmp.{nat_cmp_total}
use Rattle.std.specs.FinMap as map
use Rattle.std.specs.FinMap.{nat_cmp-IsAntisymmetric}
use Rattle.tree_model.specs.declared.blobs.Blob.{Blob}
use Rattle.tree_model.specs.declared.sites.LocalOp.{LocalOp}
use Rattle.tree_model.specs.Disk.{view, with_op, synced}
use Rattle.tree_model.specs.Sites.{op_of}
use Rattle.tree_model.proofs.Maps.{get-insert_same, get-insert_other}
use Rattle.key_ring.specs.Ring.{key_of}
use Rattle.deferred_delete.specs.Deferral.{noted as items_noted}
use Rattle.journal_model.specs.declared.entries.Entry.TheVariants.{Changed}
use Rattle.journal_model.specs.Machine.{Machine, Running as BeganCommand, after_entry}
use Rattle.journal_model.specs.Machine.{if_running, with_change, evidence_of, AllowsChange}
use Rattle.keystore_model.specs.Store.{entry_of}
use Rattle.user_world.specs.declared.changes.LocalChange.{LocalChange}
use Rattle.user_world.specs.Changes.{change_of, if_noted}
use Rattle.user_world.specs.Facts.{Later}
use Rattle.user_world.specs.Meaning.{Meaning}
use Rattle.user_world.specs.OwnWorlds.{Step}
use Rattle.user_world.specs.Timelines.{Timeline, own_of, line_with, settled_line, OwnWorldsStand, LeadsTo}
use Rattle.user_world.specs.Turns.{with_note}
use Rattle.user_world.proofs.Timelines.{line-step, line-settled, own-synced, own-operated, view-shown, known-shown}
use Rattle.key_directory.specs.Vaults.{Vault, sealed}
use Rattle.task_turns.specs.declared.calls.Answer.{Answer}
use Rattle.task_turns.specs.declared.calls.Answer.TheVariants.{Done}
use Rattle.task_turns.specs.declared.calls.Call.TheVariants.{Op as OpCall, Sync}
use Rattle.task_turns.specs.Names.{BringsBlob}
use Rattle.task_turns.specs.Shares.{AllHas}
use Rattle.task_turns.specs.Turns.{seen_of, AllOwned, Scene, OpShows, SyncShows, operated, noting, MayChange}
use Rattle.bench.specs.declared.made.Made.TheVariants.{Heard}
use Rattle.bench.specs.Bench.{Plain as Seen, places_after, listed_as, dropped}
use Rattle.bench.specs.Known.{Knows}
use Rattle.bench.proofs.Known.{knows-view}
use Rattle.user_tasks.specs.declared.tasks.UserTask.{UserTask}
use Rattle.user_tasks.specs.Tasks.{tasks, user_of, rest_of}
use Rattle.vold_book.specs.declared.tasks.Task.TheVariants.{User as Using}
use Rattle.vold_book.specs.Entries.{changed_entry, machine_with, may_with}
use Rattle.vold_book.specs.Owed.{due_of}
use Rattle.vold_book.specs.Parts.{changes_made}
use Rattle.vold_book.specs.State.{Plain, machine_of, tried_in, timeline, ground_of, vault_of, share_of}
use Rattle.vold_book.specs.Tasks.{scene_of}
use Rattle.vold_book.specs.Whole.{Whole}
use Rattle.vold_book.proofs.Grounds.{worlds-later}
use Rattle.vold_book.proofs.Moves.{After, after_of, Moves, machine_then, tried_then, ground_then, same-tried}
use Rattle.vold_book.proofs.Moves.{tried-more}
use Rattle.vold_book.proofs.Noted.{noting-later, noting-keeps, noting-facts, noted-vault}
use Rattle.vold_book.proofs.Numbers.{IsQuiet, quiet-changed, quiet-synced}
use Rattle.vold_book.proofs.StepsMade.{step-fits, step-told, all-changes}
use Rattle.vold_book.proofs.Told.{change-told}
use Rattle.vold_book.proofs.Tracked.{pending-noted}
use Rattle.vold_book.proofs.UserRuns.{UserRuns, LeadsOn, leads-move, known, owned-still, differ-still}

module _ (book : Plain) (whole : Whole book) (runs : UserRuns book) where
  abbrev user : ℕ
  user = user_of runs.task

  abbrev machine : Machine
  machine = machine_of book

  abbrev line : Timeline
  line = timeline book.bench.disk machine

  abbrev scene : Scene
  scene = scene_of user (ground_of book) runs.on.began (due_of book.bench.list runs.owed)

  abbrev heard : Answer → UserTask
  heard answer = tasks.after runs.task answer

  -- an operation that was done
  module _ (names : Option Blob) (op : LocalOp) (note : Option LocalChange)
      (shows : OpShows (seen_of tasks runs.task) scene user op names note) (bench : Seen)
      (done : bench ≡ record book.bench {
        disk = with_op book.bench.disk (op_of user op);
        tree_counts = bench.tree_counts;
        places = places_after book.bench.places user op names;
        list = listed_as false book.bench.list (dropped book.bench.places user op);
      }) where
    abbrev after : After
    after = after_of book runs.number (OpCall user op names) note (Using (heard Done)) (Heard Done) bench

    abbrev step : Step
    step = record { op = op; note = note }

    began_with : Option LocalChange → BeganCommand
    began_with note = with_note user runs.on.began note

    -- the log with the change, if there is one
    log-noted : (change : Option LocalChange)
        → (machine_with book.ledger.entries machine (changed_entry runs.number user change)).log
        ≡ machine.log ++ if_noted change (change_of user) []
    log-noted None = sym (append-nil machine.log)
    log-noted (Some change) = refl

    kept-noted : (change : Option LocalChange)
        → (machine_with book.ledger.entries machine (changed_entry runs.number user change)).kept ≡ machine.kept
    kept-noted None = refl
    kept-noted (Some change) = refl

    boot-noted : (change : Option LocalChange)
        → (machine_with book.ledger.entries machine (changed_entry runs.number user change)).boot ≡ machine.boot
    boot-noted None = refl
    boot-noted (Some change) = refl

    is-line : timeline bench.disk (machine_then book after) ≡ line_with line user step
    is-line = λ i. record {
      disk = ap (λ b. b.disk) done i;
      kept = kept-noted note i;
      log = log-noted note i;
    }

    -- what directories are opened with once the change was noted
    abbrev then_vault : Vault
    then_vault = noting user scene note

    then-worlds : OwnWorldsStand (sealed then_vault) line
    then-worlds = worlds-later (vault_of (tried_in book) book.seed book.bench.store) then_vault line
        (noting-later user scene note) (λ blob shown. noting-keeps user scene note blob) whole.worlds

    led : LeadsTo (sealed then_vault) user [] line (line_with line user step)
    led = line-step (sealed then_vault) line user step [] then-worlds shows.step

    same_store : bench.store ≡ book.bench.store
    same_store = ap (λ b. b.store) done

    is-vault : vault_of (tried_then book after) book.seed bench.store ≡ then_vault
    is-vault = ap (vault_of (tried_then book after) book.seed) same_store
        ∙ noted-vault book user runs.number runs.on.began runs.on.at (known-shown user _ line whole.worlds.shows)
        (due_of book.bench.list runs.owed) note

    is-share : share_of user (ground_then book after) ≡ record (operated scene.share op note) { vault = then_vault }
    is-share = λ i. record {
      own = (ap (own_of user) is-line
          ∙ own-operated (sealed then_vault) line user step then-worlds shows.step.noted) i;
      vault = is-vault i;
      keys = key_of (ap (λ b. b.keys) done i) user;
    }

    at-noted : (change : Option LocalChange)
        → map.get (machine_with book.ledger.entries machine (changed_entry runs.number user change)).running
        runs.number
        ≡ Some (with_note user runs.on.began change)
    at-noted None = runs.on.at
    at-noted (Some change) =
        ap (λ m. map.get m runs.number) (running-noted change)
        ∙ get-insert_same nat_cmp_total nat_cmp-IsAntisymmetric machine.running runs.number _
      where
        running-noted : (change : LocalChange)
            → (after_entry book.ledger.entries machine (Changed runs.number (change_of user change))).running
            ≡ map.insert machine.running runs.number (with_change runs.on.began (change_of user change))
        running-noted change = ap (λ found. if_running found machine.running
            (λ r. map.insert machine.running runs.number (with_change r (change_of user change)))) runs.on.at

    on-machine : (change : Option LocalChange) (n : ℕ) → n ≢ runs.number
        → map.get (machine_with book.ledger.entries machine (changed_entry runs.number user change)).running n
        ≡ map.get machine.running n
    on-machine None n differ = refl
    on-machine (Some change) n differ =
        ap (λ m. map.get m n) (ap (λ found. if_running found machine.running
        (λ r. map.insert machine.running runs.number (with_change r (change_of user change)))) runs.on.at)
        ∙ get-insert_other nat_cmp_total nat_cmp-IsAntisymmetric machine.running runs.number _ n differ

    abbrev MayNote : Option LocalChange → Type 0
    MayNote change = IfSome change (MayChange user scene)

    may-noted : (change : Option LocalChange)
        → MayNote change → may_with book.ledger.entries machine (changed_entry runs.number user change)
    may-noted None may = tt
    may-noted (Some change) may = subst (λ found. IsSomeAnd found (λ b.
        (b.verdict ≡ None) × AllowsChange (evidence_of machine) machine.boot b b.command (change_of user change)))
        (sym runs.on.at) (
          runs.on.stands.accepted,
          change-told book whole user machine.boot runs.on.began runs.on.began.command
              (change_of user change) may.allowed,
        )

    quiet-noted : (change : Option LocalChange) → IfSome (changed_entry runs.number user change) IsQuiet
    quiet-noted None = tt
    quiet-noted (Some change) = quiet-changed runs.number (change_of user change)

    same-noted : (change : Option LocalChange) → (with_note user runs.on.began change).command ≡ runs.on.began.command
    same-noted None = refl
    same-noted (Some change) = refl

    verdict-noted : (change : Option LocalChange) → (with_note user runs.on.began change).verdict ≡
        runs.on.began.verdict
    verdict-noted None = refl
    verdict-noted (Some change) = refl

    phase-noted : (change : Option LocalChange)
        → (machine_with book.ledger.entries machine (changed_entry runs.number user change)).phase ≡ machine.phase
    phase-noted None = refl
    phase-noted (Some change) = refl

    level-noted : (change : Option LocalChange)
        → (machine_with book.ledger.entries machine (changed_entry runs.number user change)).level ≡ machine.level
    level-noted None = refl
    level-noted (Some change) = refl

    op-leads : MayNote note → LeadsOn book whole runs (heard Done) (with_note user runs.on.began note) after
    op-leads may = record {
      leaves = record {
        boot = boot-noted note;
        level = ap (λ s. s.level) same_store;
        seed = refl;
        attempts = tried-more book after.entry;
        kept = λ blob needed entry live. ap (λ s. entry_of s.entries blob) same_store ∙ live;
        keys = λ other differ. ap (λ b. key_of b.keys other) done;
        others = λ other differ. subst (λ l. Later (own_of other line) (own_of other l)) (sym is-line)
            (led.others other differ);
      };
      worlds = subst (λ l. OwnWorldsStand (sealed (vault_of (tried_then book after) book.seed bench.store)) l)
          (sym is-line)
          (subst (λ v. OwnWorldsStand (sealed v) (line_with line user step)) (sym is-vault) led.stands);
      facts = subst (AllHas (rest_of (heard Done)).facts) (sym is-share)
          (noting-facts user scene note (rest_of (heard Done)).facts (rest_of (heard Done)).held
          (operated scene.share op note) refl shows.leads.known shows.leads.facts);
      known = shows.leads.known;
      owned = subst (λ s. AllOwned s.entries user (rest_of (heard Done)).held) (sym same_store)
          (owned-still book whole runs (heard Done) shows.held);
      differ = differ-still book whole runs (heard Done) shows.held;
      at = at-noted note;
      on_machine = on-machine note;
      command = same-noted note;
      verdict = verdict-noted note;
      serves = shows.leads.serves;
      same_user = shows.leads.same_user;
      is_task = refl;
      may = may-noted note may;
      quiet = quiet-noted note;
      agrees = record {
        phase = phase-noted note ∙ whole.agrees.phase;
        boot = boot-noted note ∙ whole.agrees.boot;
        level = level-noted note ∙ whole.agrees.level;
        durable = kept-noted note ∙ whole.agrees.durable;
        pending = pending-noted book.bench bench book.tracker whole.agrees.pending (OpCall user op names)
            (is_some note) (Heard Done)
            (step-told (sealed (vault_of (tried_in book) book.seed book.bench.store)) user line note whole.worlds op
            shows.step)
            (refl, done);
      };
      phase = refl;
      knows = subst (λ b. Knows b.places (view b.disk)) (sym done)
          (knows-view book.bench.places book.bench.disk user op names (known book whole runs)
          (step-fits (sealed (vault_of (tried_in book) book.seed book.bench.store)) user line note whole.worlds op
          shows.step)
          (subst (λ part. BringsBlob part op names) (view-shown user _ line whole.worlds.shows) shows.brings));
    }

    pub op-moves : MayNote note → Moves book runs.actor runs.number after
    op-moves may = leads-move book whole runs (heard Done) (with_note user runs.on.began note) after (op-leads may)

  -- a sync
  module _ (shows : SyncShows (seen_of tasks runs.task) scene None) (bench : Seen) (done : bench ≡ record book.bench {
    disk = synced book.bench.disk;
    tree_counts = bench.tree_counts;
    list = record book.bench.list { items = items_noted book.bench.list.items };
  }) where
    abbrev sync_after : After
    sync_after = after_of book runs.number Sync None (Using (heard Done)) (Heard Done) bench

    sync-line : timeline bench.disk (machine_then book sync_after) ≡ settled_line line
    sync-line = ap (λ b. timeline b.disk (machine_then book sync_after)) done

    abbrev meaning : Meaning
    meaning = sealed (vault_of (tried_in book) book.seed book.bench.store)

    sync-leads : LeadsOn book whole runs (heard Done) runs.on.began sync_after
    sync-leads = record {
      leaves = record {
        boot = refl;
        level = ap (λ b. b.store.level) done;
        seed = refl;
        attempts = λ other. same-tried (tried_in book other);
        kept = λ blob needed entry live. ap (λ b. entry_of b.store.entries blob) done ∙ live;
        keys = λ other differ. ap (λ b. key_of b.keys other) done;
        others = λ other differ. inr (ap (own_of other) sync-line ∙ own-synced meaning line other whole.worlds);
      };
      worlds = subst (λ l. OwnWorldsStand (sealed (vault_of (tried_in book) book.seed bench.store)) l) (sym sync-line)
          (subst (λ b. OwnWorldsStand (sealed (vault_of (tried_in book) book.seed b.store)) (settled_line line))
          (sym done)
          (line-settled meaning line whole.worlds));
      facts = subst (AllHas (rest_of (heard Done)).facts) (sym (λ i. record {
        own = (ap (own_of user) sync-line ∙ own-synced meaning line user whole.worlds) i;
        vault = vault_of (tried_in book) book.seed (ap (λ b. b.store) done i);
        keys = key_of (ap (λ b. b.keys) done i) user;
      })) shows.leads.facts;
      known = shows.leads.known;
      owned = subst (λ b. AllOwned b.store.entries user (rest_of (heard Done)).held) (sym done)
          (owned-still book whole runs (heard Done) (inl shows.held));
      differ = differ-still book whole runs (heard Done) (inl shows.held);
      at = runs.on.at;
      on_machine = λ n differ. refl;
      command = refl;
      verdict = refl;
      serves = shows.leads.serves;
      same_user = shows.leads.same_user;
      is_task = refl;
      may = (
        runs.number,
        subst (λ found. IsSomeAnd found (λ b. b.verdict ≡ None)) (sym runs.on.at) runs.on.stands.accepted,
      );
      quiet = quiet-synced;
      agrees = record {
        phase = whole.agrees.phase;
        boot = whole.agrees.boot;
        level = whole.agrees.level;
        durable = all-changes book whole;
        pending = ap (λ b. changes_made b.disk.stable b.disk.pending) (sym done);
      };
      phase = refl;
      knows = subst (λ b. Knows b.places (view b.disk)) (sym done) (known book whole runs);
    }

    pub sync-moves : Moves book runs.actor runs.number sync_after
    sync-moves = leads-move book whole runs (heard Done) runs.on.began sync_after sync-leads
