use Rattle.std.proofs.Common.{refl, sym, ap, ◌∙◌, rules}
use Rattle.std.specs.FinMap as map
use Rattle.step_core.specs.Table.{TableState, named_by}
use Rattle.bench.specs.Bench.{seen, named_in}
use Rattle.bench.specs.Seen.{senses_by, state_of}
use Rattle.bench.proofs.bench.Bench.read.Goals as goal

pub returns-in-Ok : goal.returns-in-Ok
returns-in-Ok g c =
    let after = seen (senses_by g.T.TreeDisk.disk g.T.TreeDisk.counts g.K.Keystore.store
    g.K.Keystore.counts g.G.KeyRing.ring g.G.KeyRing.counts)
    (state_of (record c.args.self.now { tree = c.read.new.self; table = c.put.new.self })) in
    let places =
    ap (λ (table : TableState). table.places) c.put.ensures
    ∙ ap (λ (table : TableState). map.insert table.places c.args.place c.named.result) c.in_ok-reserve.ensures.promised
    ∙ ap (map.insert c.args.self.now.table.places c.args.place)
    (c.named.ensures ∙ sym (ap (λ found. named_by (named_in found)) c.in-Ok.ensures.found)) in
    record {
      made = (
        c.in-Ok.dir,
        c.in-Ok.ensures.found,
        refl,
        (λ i. record after { disk = c.read.ensures.same i; places = places i }),
      );
      counted = search rules;
      seed = refl;
      marks = search rules;
      dirty = search rules;
      unread = tt;
      brings = tt;
      answers = tt;
    }
