use Rattle.std.proofs.Common.{[], ◌∷◌, ◌++◌, ◌∙◌, arith}
use Rattle.vold_book.proofs.OwedItems.{item_of, items-more}
use Rattle.vold_book.proofs.owed.Owed.with.Goals as goal

pub loop-blob-preserved : goal.loop-blob-preserved
loop-blob-preserved c = record {
  items = c.in_ok-push.ensures.items
      ∙ (λ i. c.loop-blob.invariant.items i
      ++ item_of (c.loop-blob.invariant.number i) (c.blob-item.is i) ∷ [])
      ∙ items-more c.args.self.now.items c.args.next c.args.blobs.now c.loop-blob.blob-index c.blob-item.result
      c.loop-blob-test.true;
  number = omega (arith, c.loop-blob.invariant.number);
}
