use Rattle.std.proofs.Common.{rules, ◌≡◌, ◌++◌, ap, ◌∙◌}
use Rattle.std.proofs.lemmas.Result.{IfOk-weaker}
use Rattle.tree_model.specs.Disk.{view}
use Rattle.vold_book.specs.State.{senses}
use Rattle.vold_run.specs.Shown.{tree_text}
use Rattle.vold_run.proofs.Devices.{reads-on}
use Rattle.vold_run.proofs.Looks.{looked-joined}
use Rattle.vold_run.proofs.output.devices_text.Goals as goal

pub returns-in_ok-store-in-Ok-clause-shown : goal.returns-in_ok-store-in-Ok-clause-shown
returns-in_ok-store-in-Ok-clause-shown g c =
    let seeing =
    senses g.T.TreeDisk.disk g.T.TreeDisk.counts g.B.Keystore.store g.B.Keystore.counts g.G.KeyRing.ring
    g.G.KeyRing.counts in
    let before = c.args.book.now in
    let between = c.read_dirs.new.book in
    let after = c.store_text.new.book in
    let tree : c.as_slice-in-Ok.result.now ≡ tree_text (view (g.T.TreeDisk.disk before.bench.tree)) = search rules in
    let store : c.as_slice-in-Ok-2.result.now ≡ c.in_ok-store-in-Ok.store = search rules in
    IfOk-weaker c.joined.result _ _ (λ text is.
    reads-on seeing before after
    (looked-joined seeing before between after c.read_dirs.ensures.looked c.store_text.ensures.looked) between
    (record {
      reads = c.in-Ok.ensures.answered;
      store = c.read_dirs.ensures.store;
      ring = c.read_dirs.ensures.ring;
    }) text c.in_ok-store-in-Ok.store
    (record {
      shows = c.in_ok-store-in-Ok.ensures.shown;
      tree = c.store_text.ensures.tree;
      ring = c.store_text.ensures.ring;
    })
    (is ∙ ap (λ first. first ++ c.as_slice-in-Ok-2.result.now) tree
    ∙ ap (λ second. tree_text (view (g.T.TreeDisk.disk before.bench.tree)) ++ second) store)) c.joined.ensures
