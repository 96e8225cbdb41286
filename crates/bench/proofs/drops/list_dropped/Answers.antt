use Rattle.std.proofs.Common.{false, take, ap, ◌∙◌, arith}
use Rattle.std.proofs.lemmas.List.{length-take-le}
use Rattle.deferred_delete.specs.Deferral.{Deferral, pushed}
use Rattle.bench.proofs.Pushed.{pushed_all-promised, pushed_all-more}
use Rattle.bench.proofs.drops.list_dropped.Goals as goal

pub push-requires : goal.push-requires
push-requires c = record {
  promised = omega (
    arith,
    ap (λ (l : Deferral). l.promised) c.loop-blob.invariant,
    pushed_all-promised c.args.list.now (take c.loop-blob.blob-index c.args.blobs.now) false,
    length-take-le c.loop-blob.blob-index c.args.blobs.now (omega arith),
    c.requires.promised,
  );
}

pub loop-blob-preserved : goal.loop-blob-preserved
loop-blob-preserved c = pushed_all-more c.args.list.now c.loop-blob.list c.push.new.self c.args.blobs.now false
    c.loop-blob.blob-index c.blob-item.result c.loop-blob-test.true c.loop-blob.invariant
    (c.push.ensures ∙ ap (λ blob. pushed c.loop-blob.list blob false) c.blob-item.is)
