use Rattle.std.proofs.Common.{refl, ◌∙◌, rules}
use Rattle.tree_model.specs.Disk.{view}
use Rattle.bench.specs.Bench.{seen}
use Rattle.bench.specs.Seen.{senses_by, state_of}
use Rattle.bench.proofs.Listing.{listed-fit, listed-known, listed-unread}
use Rattle.bench.proofs.bench.Bench.list_places.Goals as goal

pub list_anew-requires : goal.list_anew-requires
list_anew-requires g c = record {
  room = listed-fit (view (g.T.TreeDisk.disk c.args.self.now.tree)) c.as_slice.result.now c.args.self.now.table
      c.reserve.new.self c.len.result
      (c.as_slice.ensures.value ∙ c.in-Ok.ensures.listed) c.len.ensures c.in_ok-reserve.ensures.promised;
}

pub returns-in-Ok : goal.returns-in-Ok
returns-in-Ok g c =
    let after = seen (senses_by g.T.TreeDisk.disk g.T.TreeDisk.counts g.K.Keystore.store
    g.K.Keystore.counts g.G.KeyRing.ring g.G.KeyRing.counts)
    (state_of (record c.args.self.now { tree = c.list.new.self; table = c.list_anew.new.table })) in
    record {
      made = (
        refl,
        listed-known c.list_anew.new.table.places c.as_slice.result.now c.list_anew.ensures.listed
            (view (g.T.TreeDisk.disk c.args.self.now.tree)) (c.as_slice.ensures.value ∙ c.in-Ok.ensures.listed),
        (λ i. record after { disk = c.list.ensures.same i }),
      );
      counted = search rules;
      seed = refl;
      marks = c.list_anew.ensures.marks;
      dirty = search (rules, c.list_anew.ensures.dirty, c.in_ok-reserve.ensures.promised);
      unread = listed-unread c.list_anew.new.table.places c.as_slice.result.now c.list_anew.ensures.listed;
      brings = tt;
      answers = tt;
    }
