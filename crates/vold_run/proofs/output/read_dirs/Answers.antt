use Rattle.std.proofs.Common.{rules, ◌≡◌, suc, get_or, add-one, refl, sym, ap, ◌∙◌, subst, arith}
use Rattle.std.specs.Prelude.{IsSome, Ok, Err}
use Rattle.std.specs.FinMap as map
use Rattle.tree_model.specs.declared.device.DevFault.TheVariants.{Failed}
use Rattle.tree_model.specs.declared.places.Place.TheVariants.{De}
use Rattle.tree_model.specs.Disk.{view}
use Rattle.vold_book.specs.State.{senses}
use Rattle.vold_run.specs.Shown.{AreAnswered}
use Rattle.vold_run.proofs.Dirs.{place_there, look_wanted, dir_read}
use Rattle.vold_run.proofs.Looks.{answered_look, disk-looked, failed_look, looked-joined}
use Rattle.vold_run.proofs.output.read_dirs.Goals as goal

pub read_place-requires : goal.read_place-requires
read_place-requires g c =
    let seeing =
    senses g.T.TreeDisk.disk g.T.TreeDisk.counts g.B.Keystore.store g.B.Keystore.counts g.G.KeyRing.ring
    g.G.KeyRing.counts in
    let same = disk-looked seeing c.args.book.now c.loop-place.book c.loop-place.invariant.looked in
    let tree = view (g.T.TreeDisk.disk c.args.book.now.bench.tree) in
    let places = c.as_slice-place-items.result.now in
    let listed : places ≡ map.keys tree = c.as_slice-place-items.ensures.value ∙ c.in_ok-places.ensures.listed in
    let there = place_there tree places c.loop-place.place-index (De 0) listed c.loop-place-test.true in
    subst (λ disk. IsSome (map.get (view disk) (get_or places c.loop-place.place-index (De 0))))
    (sym same) there

pub loop-place-preserved : goal.loop-place-preserved
loop-place-preserved g c =
    let seeing =
    senses g.T.TreeDisk.disk g.T.TreeDisk.counts g.B.Keystore.store g.B.Keystore.counts g.G.KeyRing.ring
    g.G.KeyRing.counts in
    let same = disk-looked seeing c.args.book.now c.loop-place.book c.loop-place.invariant.looked in
    let tree = view (g.T.TreeDisk.disk c.args.book.now.bench.tree) in
    let places = c.as_slice-place-items.result.now in
    let listed : places ≡ map.keys tree = c.as_slice-place-items.ensures.value ∙ c.in_ok-places.ensures.listed in
    record {
      read = dir_read tree places c.loop-place.place-index (De 0) c.in_ok-dir.dir _ _ listed c.loop-place-test.true
          (ap (λ disk. map.get (view disk) (get_or places c.loop-place.place-index (De 0)))
          (sym same) ∙ c.in_ok-dir.ensures.found)
          c.loop-place.invariant.read c.in_ok-push_dir.ensures;
      looked =
          looked-joined seeing c.args.book.now c.loop-place.book c.read_place.new.self c.loop-place.invariant.looked
          c.read_place.ensures.same;
      store = c.read_place.ensures.store ∙ c.loop-place.invariant.store;
      ring = c.read_place.ensures.ring ∙ c.loop-place.invariant.ring;
      looks =
          subst (λ count. AreAnswered (suc count) (g.T.TreeDisk.counts c.args.book.now.bench.tree)
          (g.T.TreeDisk.counts c.read_place.new.self.bench.tree)) (sym (add-one c.loop-place.place-index)) (
            g.T.TreeDisk.counts c.loop-place.book.bench.tree,
            c.loop-place.invariant.looks,
            answered_look _ _ c.in_ok-dir.dir (Ok c.in_ok-dir.dir) refl c.in_ok-dir.ensures.counted,
          );
      whole = search rules;
    }

pub returns-in_err-dir-clause-failed : goal.returns-in_err-dir-clause-failed
returns-in_err-dir-clause-failed g c = λ failed.
    let listed : c.as_slice-place-items.result.now ≡ map.keys (view (g.T.TreeDisk.disk c.args.book.now.bench.tree)) =
    c.as_slice-place-items.ensures.value ∙ c.in_ok-places.ensures.listed in
    let is : c.read_place.result ≡ Err Failed = search rules in
    record {
      answered = suc c.loop-place.place-index;
      wanted =
          look_wanted (view (g.T.TreeDisk.disk c.args.book.now.bench.tree)) c.as_slice-place-items.result.now
          c.loop-place.place-index listed c.loop-place-test.true;
      reached = g.T.TreeDisk.counts c.loop-place.book.bench.tree;
      looks = c.loop-place.invariant.looks;
      failed = failed_look _ _ c.read_place.result is c.read_place.ensures.counted;
    }

pub returns-in_err-places-clause-failed : goal.returns-in_err-places-clause-failed
returns-in_err-places-clause-failed g c = λ failed.
    let is : c.places.result ≡ Err Failed = search rules in
    record {
      answered = 0;
      wanted = omega arith;
      reached = g.T.TreeDisk.counts c.args.book.now.bench.tree;
      looks = refl;
      failed = failed_look _ _ c.places.result is c.places.ensures.counted;
    }
