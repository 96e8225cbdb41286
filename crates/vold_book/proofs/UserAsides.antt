-- A call of a user's command that makes no operation leaves the Book what it has to where the command shows it.
use Rattle.std.proofs.Common.{◌≡◌, ◌≢◌, ℕ, inl, inr, Bool, true, false, List, [], ◌∷◌, ◌++◌, length, refl, sym, ap}
use Rattle.std.proofs.Common.{◌∙◌, subst, arith}
use Rattle.std.proofs.lemmas.List.Elements.{Contains-push_cases}
use Rattle.std.proofs.lemmas.Option.{none-some}
use Rattle.std.specs.Prelude.{Some, None, is_some, IsSomeAnd, IfSome, Contains}
use Rattle.std.specs.FinMap as map
use Rattle.tree_model.specs.declared.blobs.Blob.{Blob}
use Rattle.tree_model.specs.declared.places.Class.{Class}
use Rattle.tree_model.specs.declared.places.Place.{Place}
use Rattle.tree_model.specs.Dir.{Files}
use Rattle.tree_model.specs.Disk.{view}
use Rattle.tree_model.specs.Sites.{site_of}
use Rattle.seal_model.specs.Sealed.{sealed_text}
use Rattle.key_ring.specs.Ring.{Owner, Ring, key_of, installed, removed, with_owner, without_owner}
use Rattle.key_ring.proofs.Owners.{others-keys, keys-added, others-stay, keys-removed}
use Rattle.deferred_delete.specs.declared.items.Item.{Item}
use Rattle.deferred_delete.specs.Deferral.{Deferral, taken}
use Rattle.journal_model.specs.Machine.{Machine, Installs, Evicts, blobs_swept}
use Rattle.keystore_model.specs.declared.entry.StoreEntry.{StoreEntry}
use Rattle.keystore_model.specs.declared.entry.Tag.{Tag}
use Rattle.keystore_model.specs.Sealed.{decrypted}
use Rattle.keystore_model.specs.Store.{Store, Differ, entry_of, IsGenerated, new_entry, generated as generated_store}
use Rattle.keystore_model.specs.Store.{deleted}
use Rattle.keystore_model.proofs.Stores.{decide-bytes, entry-push, entry-push_other, differ-push, not-given, none-live}
use Rattle.blob_custody.specs.Steps.{KeepsEntries}
use Rattle.blob_custody.proofs.Steps.{due-entries}
use Rattle.user_world.specs.OwnWorlds.{own_view}
use Rattle.user_world.specs.Timelines.{Timeline, own_of, OwnWorldsStand}
use Rattle.user_world.proofs.Timelines.{view-shown, known-shown}
use Rattle.key_directory.specs.Vaults.{Vault, sealed, KeepsEntry}
use Rattle.step_core.specs.Table.{NamedPlaces, named_by}
use Rattle.task_turns.specs.declared.calls.Answer.{Answer}
use Rattle.task_turns.specs.declared.calls.Answer.TheVariants.{Done, Installed, Directory, Blob as IsBlob, Sealed}
use Rattle.task_turns.specs.declared.calls.Answer.TheVariants.{Decrypted}
use Rattle.task_turns.specs.declared.calls.Call.{Call}
use Rattle.task_turns.specs.declared.calls.Call.TheVariants.{Generate, Encrypt, Decrypt, Read, Add, Remove, Delete}
use Rattle.task_turns.specs.Shares.{AllHas}
use Rattle.task_turns.specs.Turns.{seen_of, AllOwned, Scene, Leads, cost_of, GenerateShows, EncryptShows, DecryptShows}
use Rattle.task_turns.specs.Turns.{ReadShows, AddShows, RemoveShows, DeleteShows, no_cost, IsOwned, BlobShows}
use Rattle.bench.specs.declared.made.Made.TheVariants.{Heard}
use Rattle.bench.specs.Bench.{Plain as Seen, named_in}
use Rattle.bench.specs.Known.{Knows}
use Rattle.bench.proofs.Known.{knows-read}
use Rattle.user_tasks.specs.declared.tasks.UserTask.{UserTask}
use Rattle.user_tasks.specs.Tasks.{tasks, user_of, rest_of}
use Rattle.vold_book.specs.declared.tasks.Task.TheVariants.{User as Using}
use Rattle.vold_book.specs.Entries.{entry_of as entry_of_call, machine_with, tried_with, may_with}
use Rattle.vold_book.specs.Owed.{due_of}
use Rattle.vold_book.specs.Parts.{changes_made, noted}
use Rattle.vold_book.specs.State.{Plain, machine_of, tried_in, timeline, ground_of, vault_of}
use Rattle.vold_book.specs.Tasks.{scene_of}
use Rattle.vold_book.specs.Whole.{Whole, custody_of}
use Rattle.vold_book.proofs.DueItems.{IsDue, due-listed}
use Rattle.vold_book.proofs.Grounds.{worlds-later}
use Rattle.vold_book.proofs.HeardCalls.{found-own}
use Rattle.vold_book.proofs.Moves.{After, after_of, Moves, machine_then, tried_then, tried-more}
use Rattle.vold_book.proofs.Needed.{KeepsNeeded, keeps-needed}
use Rattle.vold_book.proofs.Numbers.{IsQuiet, quiet-installed, quiet-evicted, quiet-swept}
use Rattle.vold_book.proofs.UserRuns.{UserRuns, LeadsOn, leads-move, known, owned-still, differ-still}

-- what such a call leaves: the keystore, the ring, the places, the list, and whose keys the machine has in the ring
pub record Aside : Type 0 where
  pub store : Store
  pub keys : Ring
  pub places : NamedPlaces
  pub list : Deferral
  pub owners : List Owner

-- a bench, but for its counts
counted-too : (after target : Seen) → after ≡ target
    → after ≡ record target {
      tree_counts = after.tree_counts;
      store_counts = after.store_counts;
      ring_counts = after.ring_counts;
    }
counted-too after target same = λ i. record (same i) {
  tree_counts = after.tree_counts;
  store_counts = after.store_counts;
  ring_counts = after.ring_counts;
}

module _ (book : Plain) (whole : Whole book) (runs : UserRuns book) where
  abbrev user : ℕ
  user = user_of runs.task

  abbrev machine : Machine
  machine = machine_of book

  abbrev line : Timeline
  line = timeline book.bench.disk machine

  abbrev scene : Scene
  scene = scene_of user (ground_of book) runs.on.began (due_of book.bench.list runs.owed)

  abbrev heard : Answer → UserTask
  heard answer = tasks.after runs.task answer

  abbrev entries : List StoreEntry
  entries = book.bench.store.entries

  -- what a call with no change leaves that was done
  abbrev heard_after : Call → Answer → Seen → After
  heard_after call answer bench =
      after_of book runs.number call None (Using (heard answer)) (Heard answer) bench

  -- a call with no operation leaves the disk, and of the machine all but whose keys are in the ring
  module _ (call : Call) (answer : Answer) (bench : Seen) (aside : Aside)
      (same : bench ≡ record book.bench {
        tree_counts = bench.tree_counts;
        store = aside.store;
        store_counts = bench.store_counts;
        keys = aside.keys;
        ring_counts = bench.ring_counts;
        places = aside.places;
        list = aside.list;
      })
      (plain : noted true call false book.tracker ≡ book.tracker)
      (then : machine_with book.ledger.entries machine (entry_of_call runs.number call None)
      ≡ record machine { ring = aside.owners })
      (untried : tried_with book.seed machine (tried_in book) (entry_of_call runs.number call None) ≡ tried_in book)
    where
      abbrev aside_after : After
      aside_after = heard_after call answer bench

      pub record AsideLeads : Type 0 where
        pub may : may_with book.ledger.entries machine (entry_of_call runs.number call None)
        pub quiet : IfSome (entry_of_call runs.number call None) IsQuiet
        pub level : aside.store.level ≡ book.bench.store.level
        pub knows : Knows aside.places (view book.bench.disk)
        pub kept : KeepsNeeded book (vault_of (tried_in book) book.seed aside.store)
        pub keys : (other : ℕ) → other ≢ user → key_of aside.keys other ≡ key_of book.bench.keys other
        pub worlds : OwnWorldsStand (sealed (vault_of (tried_in book) book.seed aside.store)) line
        pub leads : Leads (seen_of tasks runs.task) answer scene None (cost_of None call) (record {
          own = own_of user line;
          vault = vault_of (tried_in book) book.seed aside.store;
          keys = key_of aside.keys user;
        })
        pub owned : AllOwned aside.store.entries user (rest_of (heard answer)).held
        pub differ : Differ (rest_of (heard answer)).held

      module _ (led : AsideLeads) where
        line-same : timeline bench.disk (machine_then book aside_after) ≡ line
        line-same = λ i. timeline (ap (λ b. b.disk) same i) (then i)

        aside-leads : LeadsOn book whole runs (heard answer) runs.on.began aside_after
        aside-leads = record {
          leaves = record {
            boot = ap (λ m. m.boot) then;
            level = ap (λ b. b.store.level) same ∙ led.level;
            seed = refl;
            attempts = tried-more book (entry_of_call runs.number call None);
            kept = λ blob needed entry live.
                ap (λ b. entry_of b.store.entries blob) same ∙ led.kept blob needed entry live;
            keys = λ other differ. ap (λ b. key_of b.keys other) same ∙ led.keys other differ;
            others = λ other differ. inl (ap (own_of other) line-same);
          };
          worlds = subst
              (λ l. OwnWorldsStand (sealed (vault_of (tried_then book aside_after) book.seed bench.store)) l)
              (sym line-same)
              (subst (λ t. OwnWorldsStand (sealed (vault_of t book.seed bench.store)) line) (sym untried)
              (subst (λ b. OwnWorldsStand (sealed (vault_of (tried_in book) book.seed b.store)) line) (sym same)
              led.worlds));
          facts = subst (AllHas (rest_of (heard answer)).facts) (sym (λ i. record {
            own = ap (own_of user) line-same i;
            vault = vault_of (untried i) book.seed (ap (λ b. b.store) same i);
            keys = key_of (ap (λ b. b.keys) same i) user;
          })) led.leads.facts;
          known = led.leads.known;
          owned = subst (λ b. AllOwned b.store.entries user (rest_of (heard answer)).held) (sym same) led.owned;
          differ = led.differ;
          at = ap (λ m. map.get m.running runs.number) then ∙ runs.on.at;
          on_machine = λ n differ. ap (λ m. map.get m.running n) then;
          command = refl;
          verdict = refl;
          serves = led.leads.serves;
          same_user = led.leads.same_user;
          is_task = refl;
          may = led.may;
          quiet = led.quiet;
          agrees = record {
            phase = ap (λ m. m.phase) then ∙ whole.agrees.phase ∙ sym (ap (λ t. t.phase) plain);
            boot = ap (λ m. m.boot) then ∙ whole.agrees.boot ∙ sym (ap (λ t. t.boot) plain);
            level = ap (λ m. m.level) then ∙ whole.agrees.level ∙ sym (ap (λ t. t.level) plain);
            durable = ap (λ m. m.kept) then ∙ whole.agrees.durable ∙ sym (ap (λ t. t.durable) plain);
            pending = ap (λ t. t.pending) plain ∙ whole.agrees.pending
                ∙ ap (λ b. changes_made b.disk.stable b.disk.pending) (sym same);
          };
          phase = ap (λ t. t.phase) plain;
          knows = subst (λ b. Knows b.places (view b.disk)) (sym same) led.knows;
        }

        pub aside-moves : Moves book runs.actor runs.number aside_after
        aside-moves = leads-move book whole runs (heard answer) runs.on.began aside_after aside-leads

  -- a call of the keystore leaves the ring
  abbrev of_store : Store → Aside
  of_store store = record {
    store = store;
    keys = book.bench.keys;
    places = book.bench.places;
    list = book.bench.list;
    owners = machine.ring;
  }

  -- and one of the ring the keystore
  abbrev of_ring : Ring → List Owner → Aside
  of_ring keys owners = record {
    store = book.bench.store;
    keys = keys;
    places = book.bench.places;
    list = book.bench.list;
    owners = owners;
  }

  -- an entry is made
  module _ (tag : Tag) (app_id : List ℕ) (blob : Blob) (bench : Seen)
      (shows : GenerateShows (seen_of tasks runs.task) scene tag app_id None) (long : length blob ≡ 32)
      (generated : IsGenerated book.bench.store bench.store tag app_id blob) where
    abbrev then_store : Store
    then_store = generated_store book.bench.store blob tag app_id generated.key

    none : entry_of entries blob ≡ None
    none = not-given book.bench.store blob whole.store generated.fresh

    abbrev made_vault : Vault
    made_vault = vault_of (tried_in book) book.seed then_store

    kept : (b : Blob) → KeepsEntry (vault_of (tried_in book) book.seed book.bench.store) made_vault b
    kept b entry live = elim (decide-bytes b blob) [
      | inl same ↦ absurd (none-some entry (sym none ∙ sym (ap (entry_of entries) same) ∙ live))
      | inr differ ↦ entry-push_other entries _ b differ ∙ live
    ]

    abbrev each : BlobShows (seen_of tasks runs.task) scene tag app_id blob generated.key
    each = shows.each blob generated.key long none

    not-held : ¬ (Contains (rest_of runs.task).held blob)
    not-held is = let owned = runs.on.stands.owned blob is in none-some owned.entry (sym none ∙ owned.live)

    owned-now : AllOwned then_store.entries user ((rest_of runs.task).held ++ blob ∷ [])
    owned-now b is = elim (Contains-push_cases (rest_of runs.task).held blob b is) [
      | inl before ↦ let owned = runs.on.stands.owned b before in record {
        entry = owned.entry;
        live = kept b owned.entry owned.live;
        tagged = owned.tagged;
      }
      | inr same ↦ subst (λ c. IsOwned then_store.entries user c) same (record {
        entry = new_entry book.bench.store blob tag app_id generated.key;
        live = entry-push entries _ none;
        tagged = shows.tagged;
      })
    ]

    pub generate-moves : bench ≡ record book.bench { store = bench.store; store_counts = bench.store_counts }
        → Moves book runs.actor runs.number (heard_after (Generate tag app_id) (IsBlob blob) bench)
    generate-moves same =
        let now : bench ≡ record book.bench { store = then_store; store_counts = bench.store_counts } =
        same ∙ ap (λ s. record book.bench { store = s; store_counts = bench.store_counts }) generated.made in
        aside-moves (Generate tag app_id) (IsBlob blob) bench (of_store then_store)
        (counted-too bench _ now) refl refl refl (record {
          may = tt;
          quiet = tt;
          level = refl;
          knows = known book whole runs;
          kept = λ b needed. kept b;
          keys = λ other differ. refl;
          worlds = worlds-later (vault_of (tried_in book) book.seed book.bench.store) made_vault line (record {
            level = omega arith;
            seed = refl;
            attempts = λ u. record { additions = λ a is. is; secrets = λ a is. is };
          }) (λ b shown. kept b) whole.worlds;
          leads = each.leads;
          owned = subst (AllOwned then_store.entries user) (sym each.held) owned-now;
          differ = subst Differ (sym each.held) (differ-push (rest_of runs.task).held blob runs.on.holds.differ
              not-held);
        })

  -- a key is sealed
  pub encrypt-moves : (blob : Blob) (app_id nonce key : List ℕ) (bench : Seen)
      → (shows : EncryptShows (seen_of tasks runs.task) scene blob app_id nonce key)
      → bench ≡ record book.bench { store_counts = bench.store_counts }
      → Moves book runs.actor runs.number (heard_after (Encrypt blob app_id nonce key)
      (Sealed (sealed_text shows.under.entry.key nonce key)) bench)
  encrypt-moves blob app_id nonce key bench shows same =
      let answer = Sealed (sealed_text shows.under.entry.key nonce key) in
      aside-moves (Encrypt blob app_id nonce key) answer bench (of_store book.bench.store)
      (counted-too bench _ same) refl refl refl (record {
        may = tt;
        quiet = tt;
        level = refl;
        knows = known book whole runs;
        kept = λ b needed entry live. live;
        keys = λ other differ. refl;
        worlds = whole.worlds;
        leads = shows.leads;
        owned = owned-still book whole runs (heard answer) (inl shows.held);
        differ = differ-still book whole runs (heard answer) (inl shows.held);
      })

  -- a sealed key is opened
  pub decrypt-moves : (blob : Blob) (app_id text : List ℕ) (bench : Seen)
      → DecryptShows (seen_of tasks runs.task) scene blob app_id text None
      → bench ≡ record book.bench { store_counts = bench.store_counts }
      → Moves book runs.actor runs.number (heard_after (Decrypt blob app_id text)
      (Decrypted (decrypted book.bench.store blob app_id text)) bench)
  decrypt-moves blob app_id text bench shows same =
      let answer = Decrypted (decrypted book.bench.store blob app_id text) in
      aside-moves (Decrypt blob app_id text) answer bench (of_store book.bench.store)
      (counted-too bench _ same) refl refl refl (record {
        may = tt;
        quiet = tt;
        level = refl;
        knows = known book whole runs;
        kept = λ b needed entry live. live;
        keys = λ other differ. refl;
        worlds = whole.worlds;
        leads = shows.leads;
        owned = owned-still book whole runs (heard answer) (inl shows.held);
        differ = differ-still book whole runs (heard answer) (inl shows.held);
      })

  -- a directory of the user's is read
  module _ (place : Place) (files : Files) (shows : ReadShows (seen_of tasks runs.task) scene place None)
      (found : map.get (view book.bench.disk) place ≡ Some files) where
    found-here : own_view scene.share.own (site_of place) ≡ Some files
    found-here = found-own (own_view scene.share.own) (view book.bench.disk) user place
        (view-shown user _ line whole.worlds.shows) shows.mine ∙ found

    pub read-hears : tasks.hears runs.task (Directory files)
    read-hears = (shows.each files found-here).leads.hears

    pub read-moves : (bench : Seen) → bench ≡ record book.bench {
      tree_counts = bench.tree_counts;
      places = map.insert book.bench.places place (named_by (named_in (map.get (view book.bench.disk) place)));
    } → Moves book runs.actor runs.number (heard_after (Read place) (Directory files) bench)
    read-moves bench same =
        let each = shows.each files found-here in
        aside-moves (Read place) (Directory files) bench (record (of_store book.bench.store) {
          places = map.insert book.bench.places place (named_by (named_in (map.get (view book.bench.disk) place)));
        }) (counted-too bench _ same) refl refl refl (record {
          may = tt;
          quiet = tt;
          level = refl;
          knows = knows-read book.bench.places (view book.bench.disk) place (ap is_some found)
              (known book whole runs);
          kept = λ b needed entry live. live;
          keys = λ other differ. refl;
          worlds = whole.worlds;
          leads = each.leads;
          owned = owned-still book whole runs (heard (Directory files)) (inl each.held);
          differ = differ-still book whole runs (heard (Directory files)) (inl each.held);
        })

  -- a key comes into the ring
  pub add-moves : (class : Class) (key : List ℕ) (bench : Seen)
      → AddShows (seen_of tasks runs.task) scene user class key None
      → bench ≡ record book.bench {
        keys = installed book.bench.keys user class key;
        ring_counts = bench.ring_counts;
      }
      → Moves book runs.actor runs.number (heard_after (Add user class key) Installed bench)
  add-moves class key bench shows same =
      let keys = installed book.bench.keys user class key in
      aside-moves (Add user class key) Installed bench (of_ring keys (with_owner machine.ring user class))
      (counted-too bench _ same) refl refl refl (record {
        may = (
          ap is_some (sym (known-shown user _ line whole.worlds.shows) ∙ shows.given.there),
          (
            runs.number,
            subst (λ found. IsSomeAnd found (λ b. (b.verdict ≡ None) × Installs b.command user class))
                (sym runs.on.at) (runs.on.stands.accepted, shows.may),
          ),
        );
        quiet = quiet-installed user class;
        level = refl;
        knows = known book whole runs;
        kept = λ b needed entry live. live;
        keys = λ other differ. others-keys book.bench.keys user class key other differ;
        worlds = whole.worlds;
        leads = subst (λ found. Leads (seen_of tasks runs.task) Installed scene None no_cost
            (record {
              own = own_of user line;
              vault = vault_of (tried_in book) book.seed book.bench.store;
              keys = found;
            }))
            (sym (λ i kind. keys-added book.bench.keys user class key kind i)) shows.leads;
        owned = owned-still book whole runs (heard Installed) (inl shows.held);
        differ = differ-still book whole runs (heard Installed) (inl shows.held);
      })

  -- a key leaves it
  pub remove-moves : (class : Class) (bench : Seen) → RemoveShows (seen_of tasks runs.task) scene user class None
      → bench ≡ record book.bench { keys = removed book.bench.keys user class; ring_counts = bench.ring_counts }
      → Moves book runs.actor runs.number (heard_after (Remove user class) Done bench)
  remove-moves class bench shows same =
      let keys = removed book.bench.keys user class in
      aside-moves (Remove user class) Done bench (of_ring keys (without_owner machine.ring user class))
      (counted-too bench _ same) refl refl refl (record {
        may = (
          runs.number,
          subst (λ found. IsSomeAnd found (λ b. (b.verdict ≡ None) × Evicts b.command user class))
              (sym runs.on.at) (runs.on.stands.accepted, shows.may),
        );
        quiet = quiet-evicted user class;
        level = refl;
        knows = known book whole runs;
        kept = λ b needed entry live. live;
        keys = λ other differ. others-stay book.bench.keys user class other differ;
        worlds = whole.worlds;
        leads = subst (λ found. Leads (seen_of tasks runs.task) Done scene None no_cost
            (record {
              own = own_of user line;
              vault = vault_of (tried_in book) book.seed book.bench.store;
              keys = found;
            }))
            (sym (λ i kind. keys-removed book.bench.keys user class kind whole.ring.once i)) shows.leads;
        owned = owned-still book whole runs (heard Done) (inl shows.held);
        differ = differ-still book whole runs (heard Done) (inl shows.held);
      })

  -- the entry of the item that is due is deleted
  module _ (item : Item) (tells : Bool) (shows : DeleteShows (seen_of tasks runs.task) scene item tells None)
      (bench : Seen) where
    abbrev deleted_store : Store
    deleted_store = deleted book.bench.store item.blob

    is-due : IsDue book.bench.list runs.owed.from runs.owed.items item
    is-due = due-listed book.bench.list whole.numbered runs.owed item shows.is_due

    keeps : KeepsEntries (custody_of book) deleted_store.entries
    keeps = due-entries (custody_of book) item whole.clean refl is-due.listed is-due.synced

    abbrev deleted_vault : Vault
    deleted_vault = vault_of (tried_in book) book.seed deleted_store

    kept-needed : KeepsNeeded book deleted_vault
    kept-needed = keeps-needed book deleted_vault keeps

    owned-kept : AllOwned deleted_store.entries user (rest_of (heard Done)).held
    owned-kept blob is =
        let before = subst (λ held. Contains held blob) shows.held is in
        let owned = runs.on.stands.owned blob before in record {
          entry = owned.entry;
          live = kept-needed blob (runs.needs blob before) owned.entry owned.live;
          tagged = owned.tagged;
        }

    -- it wasn't deleted before
    once : ¬ (Contains (blobs_swept book.ledger.entries) item.blob)
    once has = none-live (entry_of entries item.blob) (whole.swept item.blob has).gone
        (whole.clean.live item is-due.listed)

    pub delete-moves : bench ≡ record book.bench {
      store = deleted_store;
      store_counts = bench.store_counts;
      list = record book.bench.list { items = taken book.bench.list.items item.number };
    } → Moves book runs.actor runs.number (heard_after (Delete item tells) Done bench)
    delete-moves same =
        aside-moves (Delete item tells) Done bench (record (of_store deleted_store) {
          list = record book.bench.list { items = taken book.bench.list.items item.number };
        }) (counted-too bench _ same) refl refl refl (record {
          may = (
            once,
            (
              runs.number,
              subst (λ found. IsSomeAnd found (λ b. b.verdict ≡ None)) (sym runs.on.at) runs.on.stands.accepted,
            ),
          );
          quiet = quiet-swept item.blob;
          level = refl;
          knows = known book whole runs;
          kept = kept-needed;
          keys = λ other differ. refl;
          worlds = worlds-later (vault_of (tried_in book) book.seed book.bench.store) deleted_vault line (record {
            level = omega arith;
            seed = refl;
            attempts = λ u. record { additions = λ a is. is; secrets = λ a is. is };
          }) (λ blob shown. kept-needed blob (inr shown)) whole.worlds;
          leads = shows.leads;
          owned = owned-kept;
          differ = differ-still book whole runs (heard Done) (inl shows.held);
        })
