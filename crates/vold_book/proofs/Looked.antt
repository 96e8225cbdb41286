-- A look at the keystore leaves a Book whole: nothing but the device's counts changes.
use Rattle.std.proofs.Common.{◌≡◌, ◌≤◌, inl, inr, sym, subst, arith}
use Rattle.tree_model.specs.Counted.{Counts}
use Rattle.journal_model.specs.declared.entries.Device.{Device}
use Rattle.journal_model.specs.declared.entries.Device.TheVariants.{Tree as TreeDevice, Store as StoreDevice}
use Rattle.journal_model.specs.declared.entries.Device.TheVariants.{Ring as RingDevice}
use Rattle.journal_model.specs.declared.phase.Phase.{Phase}
use Rattle.journal_model.specs.declared.phase.Phase.TheVariants.{Up, Down, Halted}
use Rattle.keystore_model.specs.Store.{Store}
use Rattle.vold_book.specs.State.{Plain, machine_of}
use Rattle.vold_book.specs.Whole.{Whole, PhaseStands, IsCharged, faults_of}

-- the Book with a keystore and its counts
abbrev with_store : Plain → Store → Counts → Plain
with_store book store counts = record book { bench = record book.bench { store = store; store_counts = counts } }

module _ (book : Plain) (counts : Counts) (rises : book.bench.store_counts.faults ≤ counts.faults) where
  abbrev looked : Plain
  looked = with_store book book.bench.store counts

  faults-rise : (device : Device) → faults_of book.bench device ≤ faults_of looked.bench device
  faults-rise TreeDevice = omega arith
  faults-rise StoreDevice = rises
  faults-rise RingDevice = omega arith

  charged : (device : Device) → IsCharged book device → IsCharged looked device
  charged device was = let rise = faults-rise device in elim was [
    | inl less ↦ inl (omega (arith, rise, less))
    | inr full ↦ inr (omega (arith, rise, full))
  ]

  stands : (phase : Phase) → PhaseStands phase book (machine_of book) → PhaseStands phase looked (machine_of book)
  stands Up is = is
  stands Down is = is
  stands Halted is = is

  looked-same : Whole book → Whole looked
  looked-same whole = record {
    legal = whole.legal;
    agrees = whole.agrees;
    short = whole.short;
    seeded = whole.seeded;
    store = whole.store;
    level = whole.level;
    current = whole.current;
    images = whole.images;
    worlds = whole.worlds;
    ring = whole.ring;
    numbers = whole.numbers;
    run = whole.run;
    all = whole.all;
    phase = stands book.tracker.phase whole.phase;
    clean = whole.clean;
    numbered = whole.numbered;
    swept = whole.swept;
    ended = λ user answered. let left = whole.ended user answered in record {
      vacant = left.vacant;
      keyless = left.keyless;
      listed = left.listed;
      idle = left.idle;
    };
    small = record {
      given = whole.small.given;
      entries = whole.small.entries;
      trees = whole.small.trees;
      listed = whole.small.listed;
      unpromised = whole.small.unpromised;
    };
    charged = λ device. charged device (whole.charged device);
  }

pub looked-whole : (book : Plain) → Whole book → (store : Store) (counts : Counts) → store ≡ book.bench.store
    → book.bench.store_counts.faults ≤ counts.faults → Whole (with_store book store counts)
looked-whole book whole store counts same rises =
    subst (λ s. Whole (with_store book s counts)) (sym same) (looked-same book counts rises whole)
