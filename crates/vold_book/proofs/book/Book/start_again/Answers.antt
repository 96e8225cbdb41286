use Rattle.std.proofs.Common.{◌≡◌, ◌+◌, ◌<◌, ◌∙◌, refl, sym, ap, subst, length}
use Rattle.journal_model.specs.declared.phase.Phase.TheVariants.{Halted}
use Rattle.journal_model.specs.Actor.{actor_cmp}
use Rattle.journal_model.specs.Made.{boot_seed_of}
use Rattle.docket.specs.Docket.{docket_of}
use Rattle.bench.specs.Bench.{BenchState, Senses}
use Rattle.vold_book.specs.Recovery.{max_commands}
use Rattle.vold_book.specs.State.{BookState, book_of, senses}
use Rattle.vold_book.specs.Stops.{IsRestarted}
use Rattle.vold_book.proofs.Machines.{restarted-book, restarts-whole}
use Rattle.vold_book.proofs.book.Book.start_again.Given.{Over}
use Rattle.vold_book.proofs.book.Book.start_again.Goals as goal

abbrev sense : (g : Over) → Senses g.row.T.Denot g.row.K.Denot g.row.G.Denot
sense g = senses g.T.TreeDisk.disk g.T.TreeDisk.counts g.K.Keystore.store g.K.Keystore.counts g.G.KeyRing.ring
    g.G.KeyRing.counts

abbrev before : (g : Over) (c : goal.After-enter g) → BookState (BenchState g.row.T.Denot g.row.K.Denot g.row.G.Denot)
before g c = book_of (record {
  tree = c.self.inside.bench.tree;
  store = c.self.inside.bench.store;
  ring = c.self.inside.bench.ring;
  places = c.self.inside.bench.table.places;
  list = c.self.inside.bench.list;
  opened = c.self.inside.opened;
  seed = c.self.inside.seed;
  boot_seed = c.self.inside.bench.seed;
  marks = c.self.inside.bench.table.marks;
  ledger = c.self.inside.ledger.now;
  docket = c.self.inside.docket;
  tracker = c.self.inside.tracker.now;
})

abbrev after : (g : Over) (c : goal.After-enter g) → BookState (BenchState g.row.T.Denot g.row.K.Denot g.row.G.Denot)
after g c = book_of (record {
  tree = c.restart.new.self;
  store = c.self.inside.bench.store;
  ring = c.self.inside.bench.ring;
  places = c.self.inside.bench.table.places;
  list = c.self.inside.bench.list;
  opened = c.self.inside.opened;
  seed = c.self.inside.seed;
  boot_seed = c.boot_seed-self-inside.result;
  marks = c.self.inside.bench.table.marks;
  ledger = c.enter.new.self.now;
  docket = c.restart-2.new.self;
  tracker = c.restart-3.new.self.now;
})

restarted : (g : Over) (c : goal.After-enter g) → IsRestarted (sense g) (before g c) (after g c) c.args.level
restarted g c =
    restarted-book (sense g) (before g c) c.self.invariant (after g c) c.args.level (record {
      boot = c.boot-boot.result;
      reserved = c.reserve.new.self.now;
      queued = docket_of actor_cmp c.enqueue_first.new.self;
      same_disk = c.restart.ensures.same;
      same_counts = c.restart.ensures.counts;
      is_boot = c.boot-boot.ensures;
      is_reserved = c.in_ok-reserve.ensures.same;
      is_queued = c.in_ok-number.ensures.queued;
      seeded = c.boot_seed-self-inside.ensures
          ∙ ap (λ s. boot_seed_of s (c.boot-boot.result + 1)) c.as_slice.ensures;
      entered = c.enter.ensures;
      counted = c.restart-2.ensures;
      down = c.restart-3.ensures;
      rest = refl;
    })

pub invariant_of-self-2 : goal.invariant_of-self-2
invariant_of-self-2 g c =
    restarts-whole (sense g) (before g c) c.self.invariant (after g c) c.args.level
    (subst (λ b. b.tracker.phase ≡ Halted) (sym c.self.view_is) c.requires.stopped)
    (subst (λ b. c.args.level ≡ b.tracker.level) (sym c.self.view_is) c.requires.level)
    (subst (λ b. length b.docket.commands < max_commands) (sym c.self.view_is) c.requires.few) (restarted g c)

pub returns-clause-whole : goal.returns-clause-whole
returns-clause-whole g c = invariant_of-self-2 g c
