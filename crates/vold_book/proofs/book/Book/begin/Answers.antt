use Rattle.std.proofs.Common.{ap, sym, subst, ◌∙◌}
use Rattle.std.specs.Prelude.{Some, IsNone, cond}
use Rattle.std.specs.FinMap as map
use Rattle.std.specs.FinSet as set
use Rattle.journal_model.specs.Actor.{actor_cmp}
use Rattle.journal_model.specs.Machine.{TakesTurn}
use Rattle.journal_model.specs.Refusals.{refusal_of}
use Rattle.docket.specs.Docket.{docket_of, TakesFirst}
use Rattle.bench.specs.Bench.{BenchState, Senses}
use Rattle.vold_book.specs.State.{BookState, book_of, senses, machine_of}
use Rattle.vold_book.specs.Turns.{Begins, FirstTask, facts_in, unlisted}
use Rattle.vold_book.proofs.BookBegun.{begun-book, begins-whole}
use Rattle.vold_book.proofs.Machines.{few-begin}
use Rattle.vold_book.proofs.book.Book.begin.Given.{Over}
use Rattle.vold_book.proofs.book.Book.begin.Goals as goal

abbrev means : (g : Over) → Senses g.row.T.Denot g.row.K.Denot g.row.G.Denot
means g = senses g.T.TreeDisk.disk g.T.TreeDisk.counts g.K.Keystore.store g.K.Keystore.counts g.G.KeyRing.ring
    g.G.KeyRing.counts

pub begin-requires-clause-few : goal.begin-requires-clause-few
begin-requires-clause-few g c = few-begin (means g) _ c.self.invariant c.args.actor

abbrev before : (g : Over) (c : goal.After-enter g) → BookState (BenchState g.row.T.Denot g.row.K.Denot g.row.G.Denot)
before g c = book_of (record {
  tree = c.self.inside.bench.tree;
  store = c.self.inside.bench.store;
  ring = c.self.inside.bench.ring;
  places = c.self.inside.bench.table.places;
  list = c.self.inside.bench.list;
  opened = c.self.inside.opened;
  seed = c.self.inside.seed;
  boot_seed = c.self.inside.bench.seed;
  marks = c.self.inside.bench.table.marks;
  ledger = c.self.inside.ledger.now;
  docket = c.self.inside.docket;
  tracker = c.self.inside.tracker.now;
})

abbrev bench : (g : Over) (c : goal.After-enter g) → BenchState g.row.T.Denot g.row.K.Denot g.row.G.Denot
bench g c = record {
  tree = c.begin_on.new.bench.tree;
  store = c.begin_on.new.bench.store;
  ring = c.begin_on.new.bench.ring;
  places = c.begin_on.new.bench.table.places;
  list = c.begin_on.new.bench.list;
}

abbrev after : (g : Over) (c : goal.After-enter g) → BookState (BenchState g.row.T.Denot g.row.K.Denot g.row.G.Denot)
after g c = record (before g c) {
  bench = bench g c;
  boot_seed = c.begin_on.new.bench.seed;
  marks = c.begin_on.new.bench.table.marks;
  ledger = c.enter.new.self.now;
  docket = docket_of actor_cmp c.begin.new.self;
}

begun : (g : Over) (c : goal.After-enter g) → Begins (before g c) (after g c) c.args.actor
begun g c =
    begun-book (before g c) c.args.actor c.first-number.result c.in_ok-begin.field-0 c.in_ok-command.command
    c.in_ok-task.task (record { boot = c.boot.result; index = c.begun.result }) (bench g c)
    c.begin_on.new.bench.seed c.begin_on.new.bench.table.marks c.reserve.new.self.now c.enter.new.self.now
    (docket_of actor_cmp c.begin.new.self)
    (subst (λ owed. TakesFirst (before g c).docket (docket_of actor_cmp c.begin.new.self) c.args.actor
    c.in_ok-begin.field-0 (record { number = c.first-number.result; task = c.in_ok-task.task; owed = owed }))
    c.nothing-owed.ensures c.in_ok-begin.ensures.begun)
    c.first-number.ensures.first
    (c.command.ensures ∙ ap Some (sym c.in_ok-command.ensures)) c.boot.ensures c.begun.ensures
    (subst (λ b. FirstTask c.in_ok-command.command (record {
      birth = record { boot = c.boot.result; index = c.begun.result };
      boot_seed = b.boot_seed;
      places = b.bench.places;
      ring = (machine_of b).ring;
    }) (refusal_of c.in_ok-command.command (facts_in b.bench.places b c.in_ok-command.command))
    c.in_ok-task.task) (sym c.self.view_is) c.in_ok-task.ensures)
    (λ i. record {
      tree = c.begin_on.ensures.tree i;
      store = c.begin_on.ensures.store i;
      ring = c.begin_on.ensures.ring i;
      places = (c.begin_on.ensures.places
          ∙ ap (λ anew. cond anew map.empty c.self.inside.bench.table.places) c.begins_anew-anew.ensures) i;
      list = (c.begin_on.ensures.list
          ∙ ap (λ anew. cond anew (unlisted c.self.inside.bench.list) c.self.inside.bench.list)
          c.begins_anew-anew.ensures) i;
    }) c.begin_on.ensures.seed
    (c.begin_on.ensures.marks
    ∙ ap (λ anew. cond anew set.empty c.self.inside.bench.table.marks) c.begins_anew-anew.ensures)
    c.in_ok-reserve.ensures.same c.enter.ensures

pub invariant_of-self-2 : goal.invariant_of-self-2
invariant_of-self-2 g c =
    begins-whole (means g) (before g c) c.self.invariant (after g c) c.args.actor
    (subst (λ b. IsNone (map.get b.docket.running c.args.actor)) (sym c.self.view_is) c.requires.idle) (begun g c)
    (subst (λ b. TakesTurn b.tracker.phase c.args.actor) (sym c.self.view_is) c.requires.takes)

pub returns-clause-begun : goal.returns-clause-begun
returns-clause-begun g c = subst (λ b. Begins b (after g c) c.args.actor) c.self.view_is (begun g c)

pub returns-clause-whole : goal.returns-clause-whole
returns-clause-whole g c = invariant_of-self-2 g c
