use Rattle.std.proofs.Common.{◌≡◌, subst, ap, ◌∙◌}
use Rattle.journal_model.specs.Actor.{actor_cmp}
use Rattle.journal_model.specs.Made.{boot_seed_of}
use Rattle.docket.specs.Docket.{docket_of}
use Rattle.keystore_model.specs.Store.{empty_store}
use Rattle.vold_book.specs.Parts.{new_tracker}
use Rattle.vold_book.specs.State.{senses}
use Rattle.vold_book.proofs.Machines.{opened-whole}
use Rattle.vold_book.proofs.book.Book.open.Goals as goal

pub invariant_of-result : goal.invariant_of-result
invariant_of-result g c =
    opened-whole
    (senses g.T.TreeDisk.disk g.T.TreeDisk.counts g.K.Keystore.store g.K.Keystore.counts g.G.KeyRing.ring
    g.G.KeyRing.counts) c.args.tree c.args.store c.args.ring
    (record {
      bench = record {
        tree = c.new.result.tree;
        store = c.new.result.store;
        ring = c.new.result.ring;
        places = c.new.result.table.places;
        list = c.new.result.list;
      };
      opened = record {
        tree = record { calls = c.calls.result; faults = c.faults.result };
        store = record { calls = c.calls-2.result; faults = c.faults-2.result };
        ring = record { calls = c.calls-3.result; faults = c.faults-3.result };
      };
      seed = c.args.seed;
      boot_seed = c.new.result.seed;
      marks = c.new.result.table.marks;
      ledger = c.new-2.result.now;
      docket = docket_of actor_cmp c.new-3.result;
      tracker = c.new-4.result.now;
    })
    (record {
      disk = c.requires.tree;
      entries = c.requires.store ∙ ap empty_store c.requires.level;
      keys = c.requires.ring;
      short = c.requires.seed;
      bench = λ i. record {
        tree = c.new.ensures.tree i;
        store = c.new.ensures.store i;
        ring = c.new.ensures.ring i;
        places = (c.new.ensures.table i).places;
        list = c.new.ensures.list i;
      };
      opened = λ i. record {
        tree = record { calls = c.calls.ensures i; faults = c.faults.ensures i };
        store = record { calls = c.calls-2.ensures i; faults = c.faults-2.ensures i };
        ring = record { calls = c.calls-3.ensures i; faults = c.faults-3.ensures i };
      };
      boot_seed = c.new.ensures.seed ∙ c.boot_seed-boot_seed.ensures
          ∙ ap (λ s. boot_seed_of s 0) c.as_slice.ensures;
      marks = λ i. (c.new.ensures.table i).marks;
      ledger = c.new-2.ensures;
      docket = c.new-3.ensures;
      tracker = subst (λ level. c.new-4.result.now ≡ record new_tracker { level = level }) c.requires.level
          c.new-4.ensures;
    })

pub returns-clause-whole : goal.returns-clause-whole
returns-clause-whole g c = invariant_of-result g c
