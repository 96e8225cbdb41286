-- What was read of the devices is what is shown of them.
use Rattle.std.proofs.Common.{◌≡◌, inl, ℕ, List, ◌++◌, sym, ap, ◌∙◌, subst}
use Rattle.tree_model.specs.Disk.{view}
use Rattle.script_text.specs.Journal.{journal_text}
use Rattle.bench.specs.Bench.{BenchState, Senses}
use Rattle.vold_book.specs.Stands.{IsLooked}
use Rattle.vold_book.specs.State.{BookState, seen}
use Rattle.vold_run.specs.Shown.{tree_text, ReadsTree}
use Rattle.vold_run.specs.Shown.{Shows, ShowsDevices, ShowsStore}
use Rattle.vold_run.proofs.Looks.{disk-looked}

module _ {D E F : Type 0} (senses : Senses D E F) (before after : BookState (BenchState D E F))
    (looked : IsLooked senses before after) where
  -- the tree was read, and the other devices stay
  pub record ReadTree (between : BookState (BenchState D E F)) : Type 0 where
    pub reads : ReadsTree (view (senses.disk before.bench.tree)) (senses.tree_counts before.bench.tree)
        (senses.tree_counts between.bench.tree)
    pub store : between.bench.store ≡ before.bench.store
    pub ring : between.bench.ring ≡ before.bench.ring

  -- the keystore was read and then the ring, and the tree and the ring stay
  pub record ReadStore (between : BookState (BenchState D E F)) (text : List ℕ) : Type 0 where
    pub shows : ShowsStore (senses.store between.bench.store) (senses.keys between.bench.ring)
        (senses.store_counts between.bench.store) (senses.store_counts after.bench.store) text
    pub tree : after.bench.tree ≡ between.bench.tree
    pub ring : after.bench.ring ≡ between.bench.ring

  -- the tree was read, and then the keystore and the ring
  pub reads-on : (between : BookState (BenchState D E F)) → ReadTree between → (text store_text : List ℕ)
      → ReadStore between store_text
      → text ≡ tree_text (view (senses.disk before.bench.tree)) ++ store_text
      → ShowsDevices (seen senses before).bench (seen senses after).bench text
  reads-on between tree text store_text store is = inl (record {
    store_text = store_text;
    is = is ∙ ap (λ disk. tree_text (view disk) ++ store_text) (sym (disk-looked senses before after looked));
    tree =
        subst (λ t. ReadsTree (view (senses.disk before.bench.tree)) (senses.tree_counts before.bench.tree)
        (senses.tree_counts t)) (sym store.tree) tree.reads;
    store =
        subst (λ s. ShowsStore s (senses.keys after.bench.ring) (senses.store_counts before.bench.store)
        (senses.store_counts after.bench.store) store_text) (sym (ap (λ bench. bench.store) looked.same))
        (subst (λ s. ShowsStore (senses.store s) (senses.keys after.bench.ring) (senses.store_counts s)
        (senses.store_counts after.bench.store) store_text) tree.store
        (subst (λ ring. ShowsStore (senses.store between.bench.store) (senses.keys ring)
        (senses.store_counts between.bench.store) (senses.store_counts after.bench.store) store_text)
        (sym store.ring) store.shows));
    ring = ap senses.ring_counts (store.ring ∙ tree.ring);
  })

  -- the journal stands before the devices
  pub shows-all : (text devices : List ℕ) → text ≡ journal_text before.ledger.entries ++ devices
      → ShowsDevices (seen senses before).bench (seen senses after).bench devices
      → Shows (seen senses before) (seen senses after) text
  shows-all text devices is shown = record {
    devices = devices;
    is = is ∙ ap (λ book. journal_text book.ledger.entries ++ devices) (sym looked.state);
    shown = shown;
  }
