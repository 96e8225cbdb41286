use Rattle.std.proofs.Common.{◌∙◌, sym}
use Rattle.bench.proofs.Pushed.{row-named, row-unnamed}
use Rattle.bench.proofs.unnamed.list_unnamed.Goals as goal
use Rattle.bench.proofs.unnamed.list_unnamed.Goals.{then-is_named, else-is_named}

pub loop-blob-preserved : goal.loop-blob-preserved
loop-blob-preserved c = elim c.if-is_named.branch [
  | then-is_named w ↦ w.list-is
      ∙ row-named c.args.list.now c.args.named.now c.args.rows.now c.loop-blob.blob-index c.loop-blob-item.result
      c.loop-blob-test.true c.loop-blob-item.is c.loop-blob.list w.give_back.new.self c.loop-blob.invariant
      (sym c.is_named.ensures ∙ w.if-is_named.true) w.give_back.ensures
  | else-is_named w ↦ w.list-is
      ∙ row-unnamed c.args.list.now c.args.named.now c.args.rows.now c.loop-blob.blob-index c.loop-blob-item.result
      c.loop-blob-test.true c.loop-blob-item.is c.loop-blob.list w.push.new.self c.loop-blob.invariant
      (sym c.is_named.ensures ∙ w.if-is_named.false) w.push.ensures
]
