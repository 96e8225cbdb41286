-- The reply that was planned is given to what the actor runs.
use Rattle.std.proofs.Common.{ap, sym, subst, ◌∙◌, ◌∷◌, [], ◌++◌, inr}
use Rattle.std.proofs.lemmas.Option.{same_Some}
use Rattle.journal_model.specs.declared.entries.Entry.TheVariants.{Replied}
use Rattle.journal_model.specs.Actor.{actor_cmp}
use Rattle.docket.specs.Docket.{docket_of}
use Rattle.task_turns.specs.declared.next.Next.TheVariants.{Reply as ReplyNext}
use Rattle.bench.specs.Bench.{BenchState, Senses, listed}
use Rattle.vold_book.specs.Parts.{LedgerState}
use Rattle.vold_book.specs.State.{BookState, book_of, senses, seen}
use Rattle.vold_book.specs.Steps.{RepliesNext, RepliesTo, GoesOn}
use Rattle.vold_book.specs.Tasks.{Plans}
use Rattle.vold_book.proofs.Books.{replies-whole, number-given}
use Rattle.vold_book.proofs.book.Book.reply.Given.{Over}
use Rattle.vold_book.proofs.book.Book.reply.Goals as goal

abbrev means : (g : Over) → Senses g.row.T.Denot g.row.K.Denot g.row.G.Denot
means g = senses g.T.TreeDisk.disk g.T.TreeDisk.counts g.K.Keystore.store g.K.Keystore.counts g.G.KeyRing.ring
    g.G.KeyRing.counts

pub command-requires : goal.command-requires
command-requires g c = number-given (means g) _ c.self.invariant c.args.actor c.in-Some.it.now (sym c.in-Some.ensures)

abbrev before : (g : Over) (c : goal.After-enter g) → BookState (BenchState g.row.T.Denot g.row.K.Denot g.row.G.Denot)
before g c = book_of (record {
  tree = c.self.inside.bench.tree;
  store = c.self.inside.bench.store;
  ring = c.self.inside.bench.ring;
  places = c.self.inside.bench.table.places;
  list = c.self.inside.bench.list;
  opened = c.self.inside.opened;
  seed = c.self.inside.seed;
  boot_seed = c.self.inside.bench.seed;
  marks = c.self.inside.bench.table.marks;
  ledger = c.self.inside.ledger.now;
  docket = c.self.inside.docket;
  tracker = c.self.inside.tracker.now;
})

abbrev bench : (g : Over) (c : goal.After-enter g) → BenchState g.row.T.Denot g.row.K.Denot g.row.G.Denot
bench g c = record (before g c).bench { list = c.list_held.new.list }

abbrev after : (g : Over) (c : goal.After-enter g) → BookState (BenchState g.row.T.Denot g.row.K.Denot g.row.G.Denot)
after g c = record (before g c) {
  bench = bench g c;
  ledger = c.enter.new.self.now;
  docket = docket_of actor_cmp c.end.new.self;
  tracker = c.reply.new.self.now;
}

-- what was planned, of what the actor runs
planned : (g : Over) (c : goal.After-enter g) → RepliesNext (seen (means g) (before g c)) c.args.actor c.args.reply
planned g c =
    subst (λ b. RepliesNext (seen (means g) b) c.args.actor c.args.reply) (sym c.self.view_is) c.requires

plans : (g : Over) (c : goal.After-enter g) → Plans (seen (means g) (before g c)) c.args.actor c.in-Some.it.now
    (planned g c).now (ReplyNext c.args.reply)
plans g c =
    subst (λ it. Plans (seen (means g) (before g c)) c.args.actor it (planned g c).now (ReplyNext c.args.reply))
    (same_Some (planned g c).it c.in-Some.it.now (sym (planned g c).plans.runs ∙ sym c.in-Some.ensures))
    (planned g c).plans

replied : (g : Over) (c : goal.After-enter g)
    → RepliesTo (before g c) (after g c) c.args.actor c.in-Some.it.now c.args.reply
replied g c =
    let number = c.in-Some.it.now.number in record {
      command = c.command.result.now;
      given = c.command.ensures;
      state = λ i. record (before g c) {
        bench = record (before g c).bench {
          list = (c.in_ok-list_held.ensures.listed
              ∙ ap (listed c.self.inside.bench.list) c.failed_with.ensures) i;
        };
        ledger = (c.enter.ensures ∙ ap {A = LedgerState}
            (λ l. record l { entries = l.entries ++ Replied number c.args.reply ∷ [] })
            c.in_ok-reserve.ensures.same) i;
        docket = c.end.ensures i;
        tracker = c.reply.ensures i;
      };
    }

pub invariant_of-self-2 : goal.invariant_of-self-2
invariant_of-self-2 g c =
    replies-whole (means g) (before g c) c.self.invariant c.args.actor c.in-Some.it.now (planned g c).now c.args.reply
    (plans g c) (after g c) (replied g c)

goes : (g : Over) (c : goal.After-enter g) → GoesOn (means g) (before g c) (after g c) c.args.actor
goes g c = inr (record {
  it = c.in-Some.it.now;
  now = (planned g c).now;
  reply = c.args.reply;
  plans = plans g c;
  replies = replied g c;
})

pub returns-clause-replied : goal.returns-clause-replied
returns-clause-replied g c = subst (λ b. GoesOn (means g) b (after g c) c.args.actor) c.self.view_is (goes g c)

pub returns-clause-whole : goal.returns-clause-whole
returns-clause-whole g c = invariant_of-self-2 g c
