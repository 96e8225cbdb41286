use Rattle.std.proofs.Common.{◌≡◌, refl, sym, ◌∙◌, subst, rules}
use Rattle.bench.specs.Bench.{seen, listed}
use Rattle.task_turns.specs.declared.calls.Call.TheVariants.{Entries}
use Rattle.bench.specs.Seen.{senses_by, state_of, Makes}
use Rattle.bench.specs.Steps.{AreNamed, unnamed}
use Rattle.bench.proofs.Failures.{entries-fail}
use Rattle.bench.proofs.Pushed.{listed-rows, unnamed-rows}
use Rattle.bench.proofs.bench.Bench.list_entries.Goals as goal

pub returns-in-Ok : goal.returns-in-Ok
returns-in-Ok g c =
    let store = g.K.Keystore.store c.args.self.now.store in
    let named = c.as_slice.result.now in
    let rows = c.as_slice-in-Ok.result.now in
    let after = seen (senses_by g.T.TreeDisk.disk g.T.TreeDisk.counts g.K.Keystore.store
    g.K.Keystore.counts g.G.KeyRing.ring g.G.KeyRing.counts)
    (state_of (record c.args.self.now { store = c.list.new.self; list = c.list_unnamed.new.list })) in
    let are_rows = c.as_slice-in-Ok.ensures.value ∙ c.in-Ok.ensures.listed in
    let are_named : AreNamed c.args.self.now.table.places named =
    subst (AreNamed c.args.self.now.table.places) (sym c.as_slice.ensures.value) c.in_ok-named.ensures in
    let lists : c.list_unnamed.new.list ≡ listed c.args.self.now.list (unnamed named rows) =
    listed-rows c.args.self.now.list store named rows are_rows c.reserve.new.self c.list_unnamed.new.list
    c.len-count.result c.len-count.ensures.count c.in_ok-reserve.ensures.promised c.list_unnamed.ensures in
    record {
      made = (
        refl,
        (
          unnamed named rows,
          unnamed-rows c.args.self.now.list store named rows are_rows c.args.self.now.table.places are_named,
          (λ i. record after { store = c.list.ensures.same i; list = lists i }),
        ),
      );
      counted = search rules;
      seed = refl;
      marks = refl;
      dirty = refl;
      unread = tt;
      brings = tt;
      answers = tt;
    }

pub returns : goal.returns
returns g c =
    let senses = senses_by g.T.TreeDisk.disk g.T.TreeDisk.counts g.K.Keystore.store g.K.Keystore.counts
    g.G.KeyRing.ring g.G.KeyRing.counts in
    let left = record c.args.self.now { store = c.list.new.self; list = c.give_back.new.self } in
    subst (Makes senses c.args.self.now left Entries)
    (sym c.failure.ensures)
    (entries-fail senses c.args.self.now c.list.new.self c.give_back.new.self c.in-Err.fault
    (search (rules, c.give_back.ensures, c.in_ok-reserve.ensures.promised)) c.in-Err.ensures.same
    c.in-Err.ensures.counted)
