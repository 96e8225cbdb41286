-- Scenes that refute wrong plans.
use Rattle.std.proofs.Common.{Bool, true, false, ◌≡◌, cond, List, [], ◌∷◌, length, refl, sym, ap, ◌∙◌, subst, inl, inr}
use Rattle.std.specs.Prelude.{Some, None, Contains}
use Rattle.std.proofs.lemmas.Bool.{false≢true}
use Rattle.std.proofs.lemmas.Option.{none-some, same_Some}
use Rattle.tree_model.specs.declared.blobs.Blob.{Blob}
use Rattle.tree_model.specs.declared.places.Class.{Class}
use Rattle.tree_model.specs.declared.places.Class.TheVariants.{De as ForDe, Ce as ForCe}
use Rattle.tree_model.specs.declared.places.Slot.TheVariants.{Current}
use Rattle.tree_model.specs.declared.sites.Site.TheVariants.{De, Ce, Temp}
use Rattle.tree_model.specs.declared.sites.LocalOp.TheVariants.{RenameDir}
use Rattle.tree_model.specs.Dir.{Files}
use Rattle.tree_model.specs.Parts.{Part, after_local}
use Rattle.journal_model.specs.declared.commands.Command.TheVariants.{Create as CreateCommand}
use Rattle.journal_model.specs.Made.{made, key_of, nonce_of, discardable_of}
use Rattle.journal_model.specs.Hashes.{app_id_of}
use Rattle.journal_model.specs.Users.{Record}
use Rattle.journal_model.proofs.Streams.{length-stream_bytes}
use Rattle.keystore_model.specs.declared.entry.StoreEntry.{StoreEntry}
use Rattle.keystore_model.specs.Store.{entry_of}
use Rattle.keystore_model.proofs.Elements.{Contains-none, Contains-first, Contains-rest, Contains-cases}
use Rattle.keystore_model.proofs.Stores.{bytes-same, bytes-apart}
use Rattle.user_world.specs.declared.changes.LocalChange.TheVariants.{Born}
use Rattle.user_world.specs.Meaning.{PartStands}
use Rattle.user_world.specs.OwnWorlds.{OwnWorld, OwnImagesStand, own_view, settled}
use Rattle.blob_custody.proofs.Names.{absent}
use Rattle.blob_custody.proofs.Renamings.{whole-rename}
use Rattle.key_directory.specs.Vaults.{Vault, sealed}
use Rattle.task_turns.specs.Shares.{IsSound, IsSealedFor}
use Rattle.task_turns.specs.Turns.{IsOwned, Scene, Rests}
use Rattle.store_task.specs.declared.stages.Progress.{Progress}
use Rattle.store_task.specs.declared.stages.Progress.TheVariants.{Settled, Stored}
use Rattle.store_task.specs.Task.{IsTask, all_files}
use Rattle.store_task.proofs.StoredFiles.{files-named}
use Rattle.user_tasks.specs.declared.creates.Stage.{Stage}
use Rattle.user_tasks.specs.declared.creates.Stage.TheVariants.{StoringDe, Created, InstallingDe}
use Rattle.user_tasks.specs.Looks.{IsNextToClear, Finds}
use Rattle.user_tasks.specs.Create.{new_record, create_rest, changes_at}
use Rattle.user_tasks.specs.Stores.{part}
use Rattle.user_tasks.specs.WrongPlans.{Plan, spec_of, text_of, blob_of, task_at, create_at, finding}
use Rattle.user_tasks.specs.WrongPlans.{RepliesBeforeSync, LeavesOutDevice, HidesChange, HidesBlob, TouchesOther}
use Rattle.user_tasks.specs.WrongPlans.{RepliesBeforeKeys, InstallsOther}
use Rattle.user_tasks.proofs.NewUsers.{IsKept, born}

module _ (plan : Plan) where
  -- the entries of both keys, whose own keys have no bytes
  abbrev entry_for : Class → StoreEntry
  entry_for class = record {
    blob = blob_of plan class;
    level = 0;
    app_id = app_id_of (spec_of plan class).discard [];
    key = [];
    tag = record { user = plan.user; class = class };
  }

  abbrev vault : Vault
  vault = record {
    entries = entry_for ForCe ∷ entry_for ForDe ∷ [];
    level = 0;
    seed = plan.seed;
    attempts = λ user. record { additions = []; secrets = [] };
  }

  live-for : (class : Class) → entry_of vault.entries (blob_of plan class) ≡ Some (entry_for class)
  live-for ForCe = ap (λ t. cond t (Some (entry_for ForCe)) (entry_of (entry_for ForDe ∷ []) plan.ce_blob))
      (bytes-same plan.ce_blob)
  live-for ForDe = ap (λ t. cond t (Some (entry_for ForCe)) (entry_of (entry_for ForDe ∷ []) plan.de_blob))
      (bytes-apart plan.de_blob plan.ce_blob plan.differ)
      ∙ ap (λ t. cond t (Some (entry_for ForDe)) None) (bytes-same plan.de_blob)

  sealed-for : (class : Class) → IsSealedFor vault (blob_of plan class) (app_id_of (spec_of plan class).discard [])
      (record { user = plan.user; class = class }) (spec_of plan class).nonce (spec_of plan class).key
      (text_of plan class)
  sealed-for class = record {
    keyed = record {
      entry = entry_for class;
      live = live-for class;
      bound = refl;
      tagged = refl;
      current = refl;
    };
    sealed_so = refl;
  }

  abbrev files_for : Class → Files
  files_for class = all_files (spec_of plan class).discard (Some (blob_of plan class)) (text_of plan class)

  abbrev both_in : Part
  both_in = part (Some (files_for ForCe)) (Some (files_for ForDe))

  -- the create in a world of its user's
  abbrev scene_at : Stage → OwnWorld → Scene
  scene_at stage own = record {
    boot = plan.birth.boot;
    began = record {
      command = CreateCommand plan.user;
      verdict = None;
      changes = changes_at stage plan.user plan.birth;
      index = plan.birth.index;
    };
    share = record { own = own; vault = vault; keys = λ class. None };
    due = None;
  }

  -- nothing is pending, and the device key's directory was synced
  abbrev still : OwnWorld
  still = record { stable = both_in; durable = []; pending = [] }

  owned-for : (class : Class) → IsOwned vault.entries plan.user (blob_of plan class)
  owned-for class = record { entry = entry_for class; live = live-for class; tagged = refl }

  owned-both : (blob : Blob) → Contains (plan.ce_blob ∷ plan.de_blob ∷ []) blob
      → IsOwned vault.entries plan.user blob
  owned-both blob has = elim (Contains-cases plan.ce_blob (plan.de_blob ∷ []) blob has) [
    | inl same ↦ subst (IsOwned vault.entries plan.user) same (owned-for ForCe)
    | inr rest ↦ elim (Contains-cases plan.de_blob [] blob rest) [
      | inl same ↦ subst (IsOwned vault.entries plan.user) same (owned-for ForDe)
      | inr none ↦ absurd (Contains-none blob none)
    ]
  ]

  same-level : (ce_found de_found : Bool) (entry : StoreEntry)
      → cond ce_found (Some (entry_for ForCe)) (cond de_found (Some (entry_for ForDe)) None) ≡ Some entry
      → entry.level ≡ vault.level
  same-level true de_found entry is =
      let same : entry_for ForCe ≡ entry = cc in sym (ap (λ (e : StoreEntry). e.level) same)
  same-level false true entry is =
      let same : entry_for ForDe ≡ entry = cc in sym (ap (λ (e : StoreEntry). e.level) same)
  same-level false false entry is = cc

  sound-in : (own : OwnWorld) → OwnImagesStand (sealed vault) plan.user own
      → IsSound plan.user (record { own = own; vault = vault; keys = λ class. None })
  sound-in own images = record {
    images = images;
    current = λ blob entry is. same-level _ _ entry is;
  }

  -- the temporary directory is in the way, and no directory stands that names a blob
  finds-temp : Finds (scene_at StoringDe still) (plan.ce_blob ∷ plan.de_blob ∷ []) (finding (Some Temp))
  finds-temp = record {
    clear = (tt, refl, λ away. absurd (away refl));
    unnamed = λ blob has names. absent (both_in De) refl names.present;
    durable = λ is. absurd (false≢true is);
    due = refl;
    spared = tt;
  }

  settled-rests : Rests (create_rest (create_at plan Settled StoringDe)) plan.birth.boot
      (scene_at StoringDe still).began (scene_at StoringDe still).share
  settled-rests = record {
    of_user = refl;
    accepted = refl;
    serves = record { command = refl; born = refl; changes = refl };
    facts = (
      refl,
      (
        refl,
        (
          refl,
          (
            sealed-for ForCe,
            (
              λ left is. is,
              (
                sealed-for ForDe,
                (λ left is. ap (λ p. p Temp) is, (λ left is. ap (λ p. p De) is, (refl, (refl, tt)))),
              ),
            ),
          ),
        ),
      ),
    );
    known = (
      tt,
      (
        tt,
        (
          tt,
          (
            Contains-first plan.ce_blob (plan.de_blob ∷ []),
            (
              tt,
              (
                Contains-rest plan.ce_blob (plan.de_blob ∷ []) plan.de_blob (Contains-first plan.de_blob []),
                (tt, (tt, (tt, (tt, tt)))),
              ),
            ),
          ),
        ),
      ),
    );
    owned = owned-both;
  }

  -- the user was made, which isn't durable yet
  abbrev pending_birth : OwnWorld
  pending_birth = record {
    stable = both_in;
    durable = [];
    pending = record { op = RenameDir Temp De; note = Some (Born plan.birth) } ∷ [];
  }

  -- once the user is there the current credential directory is in the way, and no blob is held
  finds-slot : (stage : Stage) (own : OwnWorld) → own_view own ≡ after_local both_in (RenameDir Temp De)
      → Finds (scene_at stage own) [] (finding (Some (Ce Current)))
  finds-slot stage own is = record {
    clear = subst (λ view. IsNextToClear view (Some (Ce Current))) (sym is) (tt, refl, λ away. refl);
    unnamed = λ blob none. absurd (Contains-none blob none);
    durable = λ is. absurd (false≢true is);
    due = refl;
    spared = tt;
  }

  created-rests : Rests (create_rest (create_at plan Stored Created)) plan.birth.boot
      (scene_at Created pending_birth).began (scene_at Created pending_birth).share
  created-rests = record {
    of_user = refl;
    accepted = refl;
    serves = record { command = refl; born = refl; changes = refl };
    facts = (Contains-first (Born plan.birth) [], (refl, (refl, (refl, tt))));
    known = (tt, (tt, (tt, (tt, tt))));
    owned = λ blob none. absurd (Contains-none blob none);
  }

  -- and then it is durable, and no key is in the ring
  abbrev lasting_birth : OwnWorld
  lasting_birth = settled pending_birth

  installing-rests : Rests (create_rest (create_at plan Stored InstallingDe)) plan.birth.boot
      (scene_at InstallingDe lasting_birth).began (scene_at InstallingDe lasting_birth).share
  installing-rests = record {
    of_user = refl;
    accepted = refl;
    serves = record { command = refl; born = refl; changes = refl };
    facts = (Contains-first (Born plan.birth) [], (refl, (refl, (refl, (refl, tt)))));
    known = (tt, (tt, (tt, (tt, (tt, tt)))));
    owned = λ blob none. absurd (Contains-none blob none);
  }

  key-long : (class : Class) → length (key_of plan.seed class plan.user plan.birth) ≡ 64
  unfolding key_of made
  key-long class = length-stream_bytes _ _ _ 16

  nonce-long : (class : Class) → length (nonce_of plan.seed class plan.user plan.birth) ≡ 12
  unfolding nonce_of made
  nonce-long class = length-stream_bytes _ _ _ 3

  discard-long : (class : Class) → length (discardable_of plan.seed class plan.user plan.birth) ≡ 16384
  unfolding discardable_of made
  discard-long class = length-stream_bytes _ _ _ 4096

  blob-long : (class : Class) → length (blob_of plan class) ≡ 32
  blob-long ForCe = plan.ce_long
  blob-long ForDe = plan.de_long

  task-whole : (class : Class) (progress : Progress) → IsTask (task_at plan class progress)
  task-whole ForCe progress = record {
    key = key-long ForCe;
    nonce = nonce-long ForCe;
    discard = discard-long ForCe;
    owner = refl;
    target = λ e. cc;
    stage = (refl, plan.ce_long);
  }
  task-whole ForDe progress = record {
    key = key-long ForDe;
    nonce = nonce-long ForDe;
    discard = discard-long ForDe;
    owner = refl;
    target = λ e. cc;
    stage = (refl, plan.de_long);
  }

  abbrev kept-for : (class : Class)
      → IsKept (scene_at Created pending_birth).share plan.user plan.birth class (task_at plan class Stored)
  kept-for class = record {
    whole = task-whole class Stored;
    tagged = refl;
    bare = refl;
    blob = blob_of plan class;
    sealed = text_of plan class;
    bound = (refl, blob-long class);
    has = sealed-for class;
    given = refl;
  }

  created-stands : OwnImagesStand (sealed vault) plan.user pending_birth
  created-stands = (
    refl,
    λ fill. subst (λ op. PartStands (sealed vault) plan.user (after_local both_in op)
        (Some (new_record plan.birth))) (sym (whole-rename Temp De fill))
        (born (kept-for ForCe) (kept-for ForDe)),
  )

  lasting-stands : OwnImagesStand (sealed vault) plan.user lasting_birth
  lasting-stands = born (kept-for ForCe) (kept-for ForDe)

no-cons : {A : Type 0} (x : A) (xs : List A) → x ∷ xs ≡ [] → ⊥
no-cons x xs e = cc

pub replies-before-sync : RepliesBeforeSync
replies-before-sync plan turns =
    let shows = turns (scene_at plan Created (pending_birth plan))
    (sound-in plan (pending_birth plan) (created-stands plan))
    (finds-slot plan Created (pending_birth plan) refl) (created-rests plan) in
    no-cons (Born plan.birth) [] shows.may.1.1

pub leaves-out-device : LeavesOutDevice
leaves-out-device plan turns =
    let shows = turns (scene_at plan StoringDe (still plan)) (sound-in plan (still plan) refl) (finds-temp plan)
    (settled-rests plan) in
    no-cons plan.ce_blob (plan.de_blob ∷ []) shows.held

pub hides-change : HidesChange
hides-change plan turns =
    let shows = turns (scene_at plan StoringDe (still plan)) (sound-in plan (still plan) refl) (finds-temp plan)
    (settled-rests plan) in
    none-some _ (sym shows.stands.step.noted)

pub hides-blob : HidesBlob
hides-blob plan turns =
    let shows = turns (scene_at plan StoringDe (still plan)) (sound-in plan (still plan) refl) (finds-temp plan)
    (settled-rests plan) in
    none-some plan.de_blob (shows.stands.brings.brings
    ∙ files-named (spec_of plan ForDe).discard (Some plan.de_blob) (text_of plan ForDe))

pub touches-other : TouchesOther
touches-other plan other apart turns =
    apart (turns (scene_at plan StoringDe (still plan)) (sound-in plan (still plan) refl) (finds-temp plan)
    (settled-rests plan)).stands.mine

pub replies-before-keys : RepliesBeforeKeys
replies-before-keys plan turns =
    let shows = turns (scene_at plan InstallingDe (lasting_birth plan))
    (sound-in plan (lasting_birth plan) (lasting-stands plan))
    (finds-slot plan InstallingDe (lasting_birth plan) refl)
    (installing-rests plan) in false≢true shows.may.2.1

pub installs-other : InstallsOther
installs-other plan key differ turns =
    let given = (turns (scene_at plan InstallingDe (lasting_birth plan))
    (sound-in plan (lasting_birth plan) (lasting-stands plan))
    (finds-slot plan InstallingDe (lasting_birth plan) refl)
    (installing-rests plan)).stands.given in
    differ (given.given tt
    ∙ sym (ap (λ (known : Record). key_of plan.seed ForDe plan.user known.birth) (same_Some _ _ given.there)))
