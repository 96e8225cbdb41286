-- Each turn of a task shows what it has to.
use Rattle.std.proofs.Common.{◌≡◌, ◌≢◌, ◌⊎◌, ℕ, ◌+◌, ◌<◌, ◌≤◌, true, false, cond, List, refl, sym, ap, ◌∙◌}
use Rattle.std.proofs.Common.{subst, arith, inl, inr}
use Rattle.std.specs.Prelude.{Option, Some, None, is_some, Result, Ok, Err, IfOk}
use Rattle.std.specs.FinMap as map
use Rattle.tree_model.specs.declared.blobs.Blob.{Blob}
use Rattle.tree_model.specs.declared.files.FileName.{FileName}
use Rattle.tree_model.specs.declared.files.FileName.TheVariants.{Version, EncryptedKey, Blob as BlobFile, Discard}
use Rattle.tree_model.specs.declared.ops.Fill.TheVariants.{Same as SameFill}
use Rattle.tree_model.specs.declared.sites.Site.{Site}
use Rattle.tree_model.specs.declared.sites.Site.TheVariants.{De, Ce, Temp}
use Rattle.tree_model.specs.declared.sites.LocalOp.{LocalOp}
use Rattle.tree_model.specs.declared.sites.LocalOp.TheVariants.{MakeDir, Write, RenameDir}
use Rattle.tree_model.specs.Dir.{Files}
use Rattle.tree_model.specs.Order.{slot_total, slot_exact}
use Rattle.tree_model.specs.Parts.{LocalFits, set}
use Rattle.tree_model.specs.Sites.{site_of, same_site, touches}
use Rattle.tree_model.specs.Tree.{if_there}
use Rattle.tree_model.proofs.Maps.{tied}
use Rattle.tree_model.proofs.Parts.{frame}
use Rattle.keystore_model.proofs.Stores.{entry-push}
use Rattle.user_world.specs.declared.changes.LocalChange.{LocalChange}
use Rattle.user_world.specs.OwnWorlds.{OwnWorld, own_view, with_step}
use Rattle.user_world.specs.Facts.{HereAt, Holds}
use Rattle.user_world.specs.Turns.{adds_local}
use Rattle.user_world.proofs.OwnWorlds.{view-step}
use Rattle.key_directory.specs.Shape.{version_bytes}
use Rattle.store_task.specs.declared.turns.StoreSpec.{StoreSpec}
use Rattle.store_task.specs.declared.turns.Doing.{Doing}
use Rattle.store_task.specs.declared.turns.Doing.TheVariants.{Generate, Encrypt, Tree}
use Rattle.store_task.specs.declared.stages.Stage.{Stage}
use Rattle.store_task.specs.declared.stages.Stage.TheVariants.{Tied, Generated, Storing}
use Rattle.store_task.specs.declared.stages.Progress.{Progress}
use Rattle.store_task.specs.declared.stages.Progress.TheVariants.{Absent, Made, Versioned, Discardable, Named, Keyed}
use Rattle.store_task.specs.declared.stages.Progress.TheVariants.{Settled, Stored}
use Rattle.task_turns.specs.Shares.{Share, Has, AllHas}
use Rattle.store_task.specs.Task.{Task, places_at, sealing, filling, with_version, with_discard, with_blob}
use Rattle.store_task.specs.Task.{IsTask, left_in, makes_in, progress_after}
use Rattle.task_turns.specs.Turns.{operated}
use Rattle.store_task.specs.Turns.{StoreTurns, StaysAside, PutsInPlace}

pub off-temp : (site : Site) → site ≢ Temp → same_site site Temp ≡ false
off-temp De away = refl
off-temp (Ce slot) away = refl
off-temp Temp away = absurd (away refl)

temp-off : (site : Site) → site ≢ Temp → same_site Temp site ≡ false
temp-off De away = refl
temp-off (Ce slot) away = refl
temp-off Temp away = absurd (away refl)

pub at-itself : (site : Site) → same_site site site ≡ true
at-itself De = refl
at-itself (Ce slot) = tied slot_total slot_exact slot slot refl
at-itself Temp = refl

-- a user's world after one more operation, with any change noted
module _ (own : OwnWorld) (note : Option LocalChange) where
  -- what is elsewhere stays
  elsewhere : (op : LocalOp) (site : Site) (held : Option Files) → touches op site ≡ false
      → Holds (HereAt site held) own → Holds (HereAt site held) (with_step own (record { op = op; note = note }))
  elsewhere op site held apart here =
      ap (λ part. part site) (view-step own (record { op = op; note = note }))
      ∙ frame (own_view own) SameFill op site apart ∙ here

  made : Holds (HereAt Temp (Some map.empty)) (with_step own (record { op = MakeDir Temp; note = note }))
  made = ap (λ part. part Temp) (view-step own (record { op = MakeDir Temp; note = note }))

  written : (files : Files) (file : FileName) (bytes : List ℕ) → Holds (HereAt Temp (Some files)) own
      → Holds (HereAt Temp (Some (map.insert files file bytes)))
      (with_step own (record { op = Write Temp file bytes; note = note }))
  written files file bytes here =
      ap (λ part. part Temp) (view-step own (record { op = Write Temp file bytes; note = note }))
      ∙ ap (λ found. if_there found (own_view own)
      (λ held. set (own_view own) Temp (Some (map.insert held file bytes))) Temp) here

  module _ (target : Site) (away : target ≢ Temp) (files : Files) (here : Holds (HereAt Temp (Some files)) own) where
    renamed-at : (site : Site) → own_view (with_step own (record { op = RenameDir Temp target; note = note })) site
        ≡ set (set (own_view own) Temp None) target (Some files) site
    renamed-at site =
        ap (λ part. part site) (view-step own (record { op = RenameDir Temp target; note = note }))
        ∙ ap (λ found. if_there found (own_view own)
        (λ held. set (set (own_view own) Temp None) target (Some held)) site) here

    renamed-target : Holds (HereAt target (Some files))
        (with_step own (record { op = RenameDir Temp target; note = note }))
    renamed-target = renamed-at target
        ∙ ap (λ t. cond t (Some files) (set (own_view own) Temp None target)) (at-itself target)

    renamed-temp : Holds (HereAt Temp None) (with_step own (record { op = RenameDir Temp target; note = note }))
    renamed-temp = renamed-at Temp ∙ ap (λ t. cond t (Some files) None) (temp-off target away)

-- how the key was sealed is no matter of the user's world
pub sealing-stays : (spec : StoreSpec) (blob : Option Blob) (sealed : List ℕ) (share : Share) (own : OwnWorld)
    → Has (sealing spec blob sealed) share
    → Has (sealing spec blob sealed) (record share { own = own })
sealing-stays spec None sealed share own has = has
sealing-stays spec (Some blob) sealed share own has = has

module _ (task : Task) (next : Option Doing) where
  at_stage : (stage : Stage) → task.stage ≡ stage → (doing : Option Doing) → next ≡ doing
      → StoreTurns (record task { stage = stage }) doing
      → StoreTurns task next
  at_stage stage is doing named turns =
      subst (λ s. StoreTurns (record task { stage = s }) next) (sym is)
      (subst (StoreTurns (record task { stage = stage })) (sym named) turns)

  -- the entry of the app id is made
  pub generate-turn : (app_id : List ℕ) → task.stage ≡ Tied app_id
      → next ≡ Some (Generate task.spec.tag app_id) → StoreTurns task next
  generate-turn app_id is named = at_stage (Tied app_id) is _ named (
    λ e. cc,
    λ share facts. record {
      tagged = refl;
      leads = λ blob key long none. record {
        answers = long;
        falls = omega arith;
        facts = (
          facts.0,
          (
            record {
              entry = record {
                blob = blob;
                level = share.vault.level;
                app_id = app_id;
                key = key;
                tag = task.spec.tag;
              };
              live = entry-push share.vault.entries _ none;
              bound = refl;
              tagged = refl;
              current = refl;
            },
            facts.1,
          ),
        );
      };
    },
  )

  -- and seals the key
  pub encrypt-turn : (app_id : List ℕ) (blob : Blob) → task.stage ≡ Generated app_id blob
      → next ≡ Some (Encrypt blob app_id task.spec.nonce task.spec.key) → StoreTurns task next
  encrypt-turn app_id blob is named = at_stage (Generated app_id blob) is _ named (
    λ e. cc,
    λ share facts.
        let keyed = facts.1.0 in record {
          entry = keyed.entry;
          live = keyed.live;
          bound = keyed.bound;
          current = keyed.current;
          leads = record {
            answers = tt;
            falls = omega arith;
            facts = (
              record {
                keyed = record {
                  entry = keyed.entry;
                  live = keyed.live;
                  bound = keyed.bound ∙ facts.0;
                  tagged = keyed.tagged;
                  current = keyed.current;
                };
                sealed_so = refl;
              },
              facts.1.1,
            );
          };
        },
  )

-- once the key is sealed
module _ (spec : StoreSpec) (job : ℕ) (blob : Option Blob) (sealed : List ℕ) where
  abbrev at : Progress → Task
  at progress = record { spec = spec; job = job; stage = Storing blob sealed progress }

  abbrev InPlace : Progress → Share → Type 0
  InPlace progress share = AllHas (places_at (site_of spec.target) spec.discard blob sealed progress) share

  -- the directory gets so far by the operation
  record GetsTo (progress then : Progress) (op : LocalOp) : Type 0 where
    is : progress_after (is_some blob) progress ≡ then
    lasts : progress ≢ Stored
    falls : left_in then < left_in progress
    makes : makes_in then + adds_local op ≤ makes_in progress

  stays-aside : (progress then : Progress) (op : LocalOp) → GetsTo progress then op → then ≢ Settled → then ≢ Stored
      → ((site : Site) → site ≢ Temp → touches op site ≡ false) → StaysAside (at progress) op
  stays-aside progress then op gets unsynced goes_on apart = record {
    apart = apart;
    unsynced = subst (λ p. p ≢ Settled) (sym gets.is) unsynced;
    goes_on = subst (λ p. p ≢ Stored) (sym gets.is) goes_on;
  }

  tree-turn : (progress then : Progress) (op : LocalOp) → GetsTo progress then op
      → StaysAside (at progress) op ⊎ PutsInPlace (at progress) op
      → ((share : Share) → InPlace progress share → LocalFits (own_view share.own) op)
      → ((share : Share) (note : Option LocalChange) → InPlace progress share → InPlace then (operated share op note))
      → StoreTurns (at progress) (Some (Tree op))
  tree-turn progress then op gets owned fits leads = (
    λ e. absurd (omega (arith, e, gets.falls)),
    λ share facts. record {
      fits = fits share facts.1;
      owned = owned;
      makes = subst (λ p. makes_in p + adds_local op ≤ makes_in progress) (sym gets.is) gets.makes;
      leads = λ note. record {
        answers = gets.lasts;
        falls = subst (λ p. left_in p < left_in progress) (sym gets.is) gets.falls;
        facts = (
          sealing-stays spec blob sealed share (operated share op note).own facts.0,
          subst (λ p. InPlace p (operated share op note)) (sym gets.is) (leads share note facts.1),
        );
      };
    },
  )

  module _ (away : site_of spec.target ≢ Temp) where
    make-turn : StoreTurns (at Absent) (Some (Tree (MakeDir Temp)))
    make-turn =
        let gets : GetsTo Absent Made (MakeDir Temp) =
        record { is = refl; lasts = λ e. cc; falls = omega arith; makes = omega arith } in
        tree-turn Absent Made (MakeDir Temp) gets
        (inl (stays-aside Absent Made (MakeDir Temp) gets (λ e. cc) (λ e. cc) off-temp))
        (λ share places. ap is_some places.0)
        (λ share note places. (
          made share.own note,
          (elsewhere share.own note (MakeDir Temp) (site_of spec.target) None (off-temp _ away) places.1.0, tt),
        ))

    -- a file is written
    record Writes (progress then : Progress) (files : Files) (file : FileName) (bytes : List ℕ) : Type 0 where
      gets : GetsTo progress then (Write Temp file bytes)
      unsynced : then ≢ Settled
      goes_on : then ≢ Stored
      now : places_at (site_of spec.target) spec.discard blob sealed progress ≡ filling (site_of spec.target) files
      later : places_at (site_of spec.target) spec.discard blob sealed then
          ≡ filling (site_of spec.target) (map.insert files file bytes)

    write-turn : (progress then : Progress) (files : Files) (file : FileName) (bytes : List ℕ)
        → Writes progress then files file bytes
        → StoreTurns (at progress) (Some (Tree (Write Temp file bytes)))
    write-turn progress then files file bytes writes =
        tree-turn progress then (Write Temp file bytes) writes.gets
        (inl (stays-aside progress then (Write Temp file bytes) writes.gets writes.unsynced writes.goes_on off-temp))
        (λ share places. let facts = subst (λ fs. AllHas fs share) writes.now places in ap is_some facts.0)
        (λ share note places.
        let facts = subst (λ fs. AllHas fs share) writes.now places in
        subst (λ fs. AllHas fs (operated share (Write Temp file bytes) note)) (sym writes.later) (
          written share.own note files file bytes facts.0,
          (
            elsewhere share.own note (Write Temp file bytes) (site_of spec.target) None (off-temp _ away) facts.1.0,
            tt,
          ),
        ))

    rename-turn : StoreTurns (at Settled) (Some (Tree (RenameDir Temp (site_of spec.target))))
    rename-turn = tree-turn Settled Stored (RenameDir Temp (site_of spec.target))
        (record { is = refl; lasts = λ e. cc; falls = omega arith; makes = omega arith })
        (inr (record { renames = refl; synced = refl }))
        (λ share places. (ap is_some places.1.1.0, ap is_some places.1.1.1.0))
        (λ share note places. (
          renamed-temp share.own note (site_of spec.target) away _ places.1.1.0,
          (renamed-target share.own note (site_of spec.target) away _ places.1.1.0, tt),
        ))

-- the turn of a task whose key is sealed, from how far its directory is
module _ (task : Task) (blob : Option Blob) (sealed : List ℕ) (whole : IsTask task) where
  store-at : (progress : Progress) → task.stage ≡ Storing blob sealed progress → (doing : Option Doing)
      → StoreTurns (at task.spec task.job blob sealed progress) doing → StoreTurns task doing
  store-at progress is doing turns = at_stage task doing (Storing blob sealed progress) is doing refl turns

  pub absent-turn : task.stage ≡ Storing blob sealed Absent → StoreTurns task (Some (Tree (MakeDir Temp)))
  absent-turn is =
      store-at Absent is (Some (Tree (MakeDir Temp))) (make-turn task.spec task.job blob sealed whole.target)

  pub version-turn : task.stage ≡ Storing blob sealed Made
      → StoreTurns task (Some (Tree (Write Temp Version version_bytes)))
  version-turn is =
      store-at Made is (Some (Tree (Write Temp Version version_bytes)))
      (write-turn task.spec task.job blob sealed whole.target Made Versioned map.empty Version version_bytes
      (record {
        gets = record { is = refl; lasts = λ e. cc; falls = omega arith; makes = omega arith };
        unsynced = λ e. cc;
        goes_on = λ e. cc;
        now = refl;
        later = refl;
      }))

  pub discard-turn : task.stage ≡ Storing blob sealed Versioned
      → StoreTurns task (Some (Tree (Write Temp Discard task.spec.discard)))
  discard-turn is =
      store-at Versioned is (Some (Tree (Write Temp Discard task.spec.discard)))
      (write-turn task.spec task.job blob sealed whole.target Versioned Discardable with_version Discard
      task.spec.discard
      (record {
        gets = record { is = refl; lasts = λ e. cc; falls = omega arith; makes = omega arith };
        unsynced = λ e. cc;
        goes_on = λ e. cc;
        now = refl;
        later = refl;
      }))

  pub named-turn : task.stage ≡ Storing blob sealed Named
      → StoreTurns task (Some (Tree (Write Temp EncryptedKey sealed)))
  named-turn is =
      store-at Named is (Some (Tree (Write Temp EncryptedKey sealed)))
      (write-turn task.spec task.job blob sealed whole.target Named Keyed
      (with_blob task.spec.discard blob) EncryptedKey sealed
      (record {
        gets = record { is = refl; lasts = λ e. cc; falls = omega arith; makes = omega arith };
        unsynced = λ e. cc;
        goes_on = λ e. cc;
        now = refl;
        later = refl;
      }))

  pub settled-turn : task.stage ≡ Storing blob sealed Settled
      → StoreTurns task (Some (Tree (RenameDir Temp (site_of task.spec.target))))
  settled-turn is =
      store-at Settled is (Some (Tree (RenameDir Temp (site_of task.spec.target))))
      (rename-turn task.spec task.job blob sealed whole.target)

-- a directory with a blob names it next, and one without holds its key next
module _ (task : Task) (sealed : List ℕ) (whole : IsTask task) where
  pub blob-turn : (blob : Blob) → task.stage ≡ Storing (Some blob) sealed Discardable
      → StoreTurns task (Some (Tree (Write Temp BlobFile blob)))
  blob-turn blob is = store-at task (Some blob) sealed whole Discardable is (Some (Tree (Write Temp BlobFile blob)))
      (write-turn task.spec task.job (Some blob) sealed whole.target Discardable Named
      (with_discard task.spec.discard) BlobFile blob
      (record {
        gets = record { is = refl; lasts = λ e. cc; falls = omega arith; makes = omega arith };
        unsynced = λ e. cc;
        goes_on = λ e. cc;
        now = refl;
        later = refl;
      }))

  pub unnamed-turn : task.stage ≡ Storing None sealed Discardable
      → StoreTurns task (Some (Tree (Write Temp EncryptedKey sealed)))
  unnamed-turn is = store-at task None sealed whole Discardable is (Some (Tree (Write Temp EncryptedKey sealed)))
      (write-turn task.spec task.job None sealed whole.target Discardable Keyed
      (with_discard task.spec.discard) EncryptedKey sealed
      (record {
        gets = record { is = refl; lasts = λ e. cc; falls = omega arith; makes = omega arith };
        unsynced = λ e. cc;
        goes_on = λ e. cc;
        now = refl;
        later = refl;
      }))

-- a turn that takes memory
pub ok-turns : {E : Type 0} (task : Task) (doing : Option Doing) (result : Result (Option Doing) E)
    → IfOk result (λ made. made ≡ doing) → StoreTurns task doing → IfOk result (StoreTurns task)
ok-turns task doing (Ok given) is turns = subst (StoreTurns task) (sym is) turns
ok-turns task doing (Err fault) is turns = tt
