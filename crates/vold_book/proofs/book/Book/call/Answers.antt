-- The call that was planned is made, and what it left is noted.
use Rattle.std.proofs.Common.{◌≡◌, refl, ap, sym, subst, ◌∙◌, ◌+◌, ◌<◌, ◌^◌, length, arith}
use Rattle.std.proofs.lemmas.Option.{same_Some}
use Rattle.std.specs.Prelude.{Option, Ok, IsSome, ◌&&◌}
use Rattle.std.specs.FinMap as map
use Rattle.tree_model.proofs.Maps.{get-insert_same}
use Rattle.sorted_map.proofs.Maps.{insert-insert}
use Rattle.journal_model.specs.Actor.{actor_cmp, actor_total, actor_exact}
use Rattle.docket.specs.Docket.{docket_of}
use Rattle.journal_model.specs.declared.commands.Actor.{Actor}
use Rattle.user_world.specs.declared.changes.LocalChange.{LocalChange}
use Rattle.task_turns.specs.declared.calls.Call.{Call}
use Rattle.user_tasks.specs.declared.tasks.UserTask.{UserTask}
use Rattle.bench.specs.Bench.{BenchState, Senses, was_done}
use Rattle.bench.specs.Seen.{marks_told}
use Rattle.step_core.specs.Table.{NamedPlaces, Users}
use Rattle.vold_book.specs.declared.plans.Plan.TheVariants.{Call as PlansCall}
use Rattle.vold_book.specs.Owed.{more_owed, drops_of}
use Rattle.vold_book.specs.Parts.{count_changes, ledger_with, noted}
use Rattle.vold_book.specs.State.{Docket, BookState, book_of, over, senses, seen}
use Rattle.vold_book.specs.Steps.{IsPlanned, task_now, GoesOn}
use Rattle.vold_book.specs.Turns.{Making, Makes, IsSame, marks_with}
use Rattle.vold_book.specs.Whole.{Whole, IsWhole}
use Rattle.vold_book.proofs.Books.{planned-fits, planned-hears, planned-tries, planned-whole, planned-goes}
use Rattle.vold_book.proofs.Books.{noted-makes}
use Rattle.vold_book.proofs.Machines.{changes-fit}
use Rattle.vold_book.proofs.book.Book.call.Given.{Over}
use Rattle.vold_book.proofs.book.Book.call.Goals as goal

abbrev means : (g : Over) → Senses g.row.T.Denot g.row.K.Denot g.row.G.Denot
means g = senses g.T.TreeDisk.disk g.T.TreeDisk.counts g.K.Keystore.store g.K.Keystore.counts g.G.KeyRing.ring
    g.G.KeyRing.counts

abbrev planned : (g : Over) (inside : BookState (BenchState g.row.T.Denot g.row.K.Denot g.row.G.Denot))
    → (actor : Actor) → (done : Option UserTask) → (call : Call) → (change : Option LocalChange) → Type 0
planned g book actor done call change =
    IsPlanned (seen (means g) book) actor (record { task = done; plan = PlansCall call change })

-- the call was planned for the Book as it was
pub make-requires-clause-fits : goal.make-requires-clause-fits
make-requires-clause-fits g c =
    planned-fits (means g) _ c.self.invariant c.args.actor c.args.task c.args.call c.args.change
    (subst (λ b. planned g b c.args.actor c.args.task c.args.call c.args.change) (sym c.self.view_is) c.requires)

pub make-requires-clause-few : goal.make-requires-clause-few
make-requires-clause-few g c = let few = c.self.invariant.numbered.few in omega (arith, few)

-- where memory was wanted the Book is as it was
abbrev kept : (g : Over) (c : goal.Joined-call g) → BookState (BenchState g.row.T.Denot g.row.K.Denot g.row.G.Denot)
kept g c = book_of (record {
  tree = c.self.inside.bench.tree;
  store = c.self.inside.bench.store;
  ring = c.self.inside.bench.ring;
  places = c.self.inside.bench.table.places;
  list = c.self.inside.bench.list;
  opened = c.self.inside.opened;
  seed = c.self.inside.seed;
  boot_seed = c.self.inside.bench.seed;
  marks = c.self.inside.bench.table.marks;
  ledger = c.self.inside.ledger.now;
  docket = c.self.inside.docket;
  tracker = c.self.inside.tracker.now;
})

abbrev failed : (g : Over) (c : goal.Joined-call g) → BookState (BenchState g.row.T.Denot g.row.K.Denot g.row.G.Denot)
failed g c = record (kept g c) {
  bench = record {
    tree = c.make.new.bench.tree;
    store = c.make.new.bench.store;
    ring = c.make.new.bench.ring;
    places = c.make.new.bench.table.places;
    list = c.make.new.bench.list;
  };
  boot_seed = c.make.new.bench.seed;
  marks = c.make.new.bench.table.marks;
  ledger = c.make.new.ledger.now;
  tracker = c.make.new.tracker.now;
}

same : (g : Over) (c : goal.Joined-call g) → IsSame (means g) (kept g c) (failed g c)
same g c = record {
  state = λ i. record (failed g c) {
    boot_seed = c.make.ensures.seed i;
    marks = c.in_default-make.ensures.refused.marks i;
    ledger = c.make.ensures.entries i;
    tracker = c.make.ensures.tracked i;
  };
  same = c.in_default-make.ensures.refused.same;
}

pub invariant_of-self : goal.invariant_of-self
invariant_of-self g c = subst (λ b. IsWhole (means g) b) (sym (same g c).state)
    (subst (λ bench. Whole (over (kept g c) bench)) (sym (same g c).same) c.self.invariant)

pub returns-in_default-make-clause-refused : goal.returns-in_default-make-clause-refused
returns-in_default-make-clause-refused g c =
    subst (λ b. IsSame (means g) b (failed g c)) c.self.view_is (same g c)

-- where it was made
pub note-requires-clause-few : goal.note-requires-clause-few
note-requires-clause-few g c =
    subst (λ t. t.durable + count_changes t.pending < 2 ^ 64) (sym c.make.ensures.tracked)
    (changes-fit (means g) _ c.self.invariant
    (subst (λ l. length l.entries < 2 ^ 64) c.make.ensures.entries c.in-Ok.ensures.few))

pub after-requires-clause-tries : goal.after-requires-clause-tries
after-requires-clause-tries g c =
    planned-tries (means g) _ c.self.invariant c.args.actor c.args.task c.args.call c.args.change
    (subst (λ b. planned g b c.args.actor c.args.task c.args.call c.args.change) (sym c.self.view_is) c.requires)

pub after-requires-clause-hears : goal.after-requires-clause-hears
after-requires-clause-hears g c =
    planned-hears (means g) _ c.self.invariant c.args.actor c.args.task c.args.call c.args.change
    (subst (λ b. planned g b c.args.actor c.args.task c.args.call c.args.change) (sym c.self.view_is) c.requires)
    c.set-it.result c.set-it.ensures.was (task_now c.args.task c.set-it.result.task) refl c.in-Ok.field-0.made
    (record {
      tree = c.make.new.bench.tree;
      store = c.make.new.bench.store;
      ring = c.make.new.bench.ring;
      places = c.make.new.bench.table.places;
      list = c.make.new.bench.list;
    }) c.in-Ok.ensures.called.made c.in-Ok.ensures.called.answers

pub set-requires : goal.set-requires
set-requires g c =
    subst (λ d. IsSome (map.get d.running c.args.actor)) (sym c.set-it.ensures.runs)
    (subst IsSome (sym (get-insert_same actor_total actor_exact
    (docket_of actor_cmp c.self.inside.docket).running c.args.actor c.none.result)) refl)

abbrev before : (g : Over) (c : goal.Joined-call-3 g)
    → BookState (BenchState g.row.T.Denot g.row.K.Denot g.row.G.Denot)
before g c = book_of (record {
  tree = c.self.inside.bench.tree;
  store = c.self.inside.bench.store;
  ring = c.self.inside.bench.ring;
  places = c.self.inside.bench.table.places;
  list = c.self.inside.bench.list;
  opened = c.self.inside.opened;
  seed = c.self.inside.seed;
  boot_seed = c.self.inside.bench.seed;
  marks = c.self.inside.bench.table.marks;
  ledger = c.self.inside.ledger.now;
  docket = c.self.inside.docket;
  tracker = c.self.inside.tracker.now;
})

-- the Book after the turn, with the places and the marks of a table
abbrev after : (g : Over) (c : goal.Joined-call-3 g) → (places : NamedPlaces) → (marks : Users)
    → BookState (BenchState g.row.T.Denot g.row.K.Denot g.row.G.Denot)
after g c places marks = book_of (record {
  tree = c.make.new.bench.tree;
  store = c.make.new.bench.store;
  ring = c.make.new.bench.ring;
  places = places;
  list = c.make.new.bench.list;
  opened = c.self.inside.opened;
  seed = c.self.inside.seed;
  boot_seed = c.make.new.bench.seed;
  marks = marks;
  ledger = c.note-2.new.self.now;
  docket = c.set.new.self;
  tracker = c.note.new.self.now;
})

abbrev making : (g : Over) (c : goal.Joined-call-3 g) → Making
making g c = record {
  call = c.args.call;
  change = c.args.change;
  task = task_now c.args.task c.set-it.result.task;
  then = c.after.result.task;
  owed = c.after.result.owed;
}

now : (g : Over) (c : goal.Joined-call-3 g)
    → planned g (before g c) c.args.actor c.args.task c.args.call c.args.change
now g c = subst (λ b. planned g b c.args.actor c.args.task c.args.call c.args.change) (sym c.self.view_is) c.requires

-- what the actor ran is what was lent before the call
it-same : (g : Over) (c : goal.Joined-call-3 g) → c.in-Some.it.now ≡ c.set-it.result
it-same g c = same_Some c.in-Some.it.now c.set-it.result (c.in-Some.ensures ∙ c.set-it.ensures.was)

-- the call whose change is marked
marked-makes : (g : Over) (c : goal.Joined-call-3 g)
    → Makes (means g) (before g c) (after g c c.make.new.bench.table.places
    (marks_with c.make.new.bench.table.places c.make.new.bench.table.marks c.args.call
    (c.was_done-2.result && c.is_some-2.result))) c.args.actor c.set-it.result (making g c)
marked-makes g c =
    let made = c.in-Ok.field-0.made in
    let places = c.make.new.bench.table.places in
    let called = c.in-Ok.ensures.called in
    noted-makes (means g) (before g c) c.self.invariant c.args.actor c.args.task c.args.call c.args.change (now g c)
    c.set-it.result c.set-it.ensures.was made c.in-Ok.field-0.more c.after.result (record {
      tree = c.make.new.bench.tree;
      store = c.make.new.bench.store;
      ring = c.make.new.bench.ring;
      places = places;
      list = c.make.new.bench.list;
    }) (record {
      number = c.after.ensures.number;
      task = c.after.ensures.task;
      owed = c.after.ensures.owed;
    }) _ c.make.new.bench.seed c.note-2.new.self.now (docket_of actor_cmp c.set.new.self) c.note.new.self.now
    called.made called.counted called.answers
    (called.more ∙ ap (λ r. more_owed r.owed c.self.inside.bench.list.next
    (drops_of c.self.inside.bench.table.places c.args.call)) (it-same g c))
    (ap (λ m. marks_with places m c.args.call (c.was_done-2.result && c.is_some-2.result)) called.marks
    ∙ ap (λ done. marks_with places (marks_told c.self.inside.bench.table.marks c.args.call (Ok made)) c.args.call
    (done && c.is_some-2.result)) c.was_done-2.ensures
    ∙ ap (λ change. marks_with places (marks_told c.self.inside.bench.table.marks c.args.call (Ok made)) c.args.call
    (was_done made && change)) c.is_some-2.ensures)
    c.make.ensures.seed
    (c.note-2.ensures ∙ ap (λ l. ledger_with l c.args.actor c.entry_of-entry.result) c.make.ensures.entries
    ∙ ap (ledger_with c.self.inside.ledger.now c.args.actor) c.entry_of-entry.ensures)
    (c.set.ensures.runs
    ∙ ap {A = Docket} (λ d. record d { running = map.insert d.running c.args.actor c.after.result })
    c.set-it.ensures.runs
    ∙ ap (λ m. record (before g c).docket { running = m })
    (insert-insert actor_total actor_exact (before g c).docket.running c.args.actor c.none.result c.after.result))
    (c.note.ensures
    ∙ ap (noted c.was_done.result c.args.call c.is_some.result) c.make.ensures.tracked
    ∙ ap (λ done. noted done c.args.call c.is_some.result c.self.inside.tracker.now) c.was_done.ensures
    ∙ ap (λ change. noted (was_done made) c.args.call change c.self.inside.tracker.now) c.is_some.ensures)

makes : (g : Over) (c : goal.Joined-call-3 g) → Makes (means g) (before g c)
    (after g c c.mark_change.new.table.places c.mark_change.new.table.marks) c.args.actor c.set-it.result (making g c)
makes g c = subst (λ t. Makes (means g) (before g c) (after g c t.places t.marks) c.args.actor c.set-it.result
    (making g c)) (sym c.mark_change.ensures) (marked-makes g c)

pub invariant_of-self-2 : goal.invariant_of-self-2
invariant_of-self-2 g c =
    planned-whole (means g) (before g c) c.self.invariant c.args.actor c.args.task c.args.call c.args.change (now g c)
    c.set-it.result c.set-it.ensures.was _ c.after.result.task c.after.result.owed (makes g c)

pub returns-clause-called : goal.returns-clause-called
returns-clause-called g c =
    subst
    (λ b. GoesOn (means g) b (after g c c.mark_change.new.table.places c.mark_change.new.table.marks) c.args.actor)
    c.self.view_is
    (planned-goes (means g) (before g c) c.self.invariant c.args.actor c.args.task c.args.call c.args.change (now g c)
    c.set-it.result c.set-it.ensures.was _ c.after.result.task c.after.result.owed (makes g c))

pub returns-clause-whole : goal.returns-clause-whole
returns-clause-whole g c = invariant_of-self-2 g c
