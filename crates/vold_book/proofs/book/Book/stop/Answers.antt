use Rattle.std.proofs.Common.{refl, sym, subst, ◌≢◌, ◌<◌, ◌^◌, length}
use Rattle.journal_model.specs.declared.phase.Phase.TheVariants.{Halted}
use Rattle.bench.specs.Bench.{BenchState, Senses}
use Rattle.vold_book.specs.State.{BookState, book_of, senses}
use Rattle.vold_book.specs.Stops.{IsStopped}
use Rattle.vold_book.proofs.Machines.{stopped-book, stops-whole, changes-fit}
use Rattle.vold_book.proofs.book.Book.stop.Given.{Over}
use Rattle.vold_book.proofs.book.Book.stop.Goals as goal

abbrev sense : (g : Over) → Senses g.row.T.Denot g.row.K.Denot g.row.G.Denot
sense g = senses g.T.TreeDisk.disk g.T.TreeDisk.counts g.K.Keystore.store g.K.Keystore.counts g.G.KeyRing.ring
    g.G.KeyRing.counts

pub survivors-kept-requires : goal.survivors-kept-requires
survivors-kept-requires g c =
    changes-fit (sense g) _ c.self.invariant
    (subst (λ l. length l.entries < 2 ^ 64) c.in_ok-reserve.ensures.same c.in_ok-reserve.ensures.few)

abbrev before : (g : Over) (c : goal.After-order g) → BookState (BenchState g.row.T.Denot g.row.K.Denot g.row.G.Denot)
before g c = book_of (record {
  tree = c.self.inside.bench.tree;
  store = c.self.inside.bench.store;
  ring = c.self.inside.bench.ring;
  places = c.self.inside.bench.table.places;
  list = c.self.inside.bench.list;
  opened = c.self.inside.opened;
  seed = c.self.inside.seed;
  boot_seed = c.self.inside.bench.seed;
  marks = c.self.inside.bench.table.marks;
  ledger = c.self.inside.ledger.now;
  docket = c.self.inside.docket;
  tracker = c.self.inside.tracker.now;
})

abbrev after : (g : Over) (c : goal.After-order g) → BookState (BenchState g.row.T.Denot g.row.K.Denot g.row.G.Denot)
after g c = book_of (record {
  tree = c.stop.new.self;
  store = c.self.inside.bench.store;
  ring = c.clear.new.self;
  places = c.self.inside.bench.table.places;
  list = c.clear-2.new.self;
  opened = c.self.inside.opened;
  seed = c.self.inside.seed;
  boot_seed = c.self.inside.bench.seed;
  marks = c.self.inside.bench.table.marks;
  ledger = c.order.new.self.now;
  docket = c.stop-2.new.self;
  tracker = c.stop-3.new.self.now;
})

stopped : (g : Over) (c : goal.After-order g) → IsStopped (sense g) (before g c) (after g c) c.args.cut
stopped g c =
    stopped-book (sense g) (before g c) c.self.invariant (after g c) c.args.cut (record {
      kept = c.survivors-kept.result;
      copied = c.in_ok-duplicate.field-0;
      reserved = c.reserve.new.self.now;
      left = c.stop.ensures.stopped;
      counts = c.stop.ensures.counts;
      keys = c.clear.ensures.cleared;
      ring_counts = c.clear.ensures.counts;
      list = c.clear-2.ensures;
      is_kept = c.survivors-kept.ensures;
      is_copied = c.in_ok-duplicate.ensures;
      is_reserved = c.in_ok-reserve.ensures.same;
      entered = c.order.ensures;
      ended = c.stop-2.ensures;
      halted = c.stop-3.ensures;
      rest = refl;
    })

pub invariant_of-self-2 : goal.invariant_of-self-2
invariant_of-self-2 g c =
    stops-whole (sense g) (before g c) c.self.invariant (after g c) c.args.cut
    (subst (λ b. b.tracker.phase ≢ Halted) (sym c.self.view_is) c.requires) (stopped g c)

pub returns-clause-stopped : goal.returns-clause-stopped
returns-clause-stopped g c =
    subst (λ b. IsStopped (sense g) b (after g c) c.args.cut) c.self.view_is (stopped g c)

pub returns-clause-whole : goal.returns-clause-whole
returns-clause-whole g c = invariant_of-self-2 g c
