use Rattle.seal_model.specs.Polynomial.{bits}
use Rattle.seal_model.specs.Gcm.{polynomial_of}
use Rattle.aes_gcm.specs.Hash.{block}
use Rattle.aes_gcm.proofs.Sums.{adds_one, adds_more}
use Rattle.aes_gcm.proofs.hash.absorb.Goals as goal

pub loop-index-preserved : goal.loop-index-preserved
loop-index-preserved c =
    let h = c.args.h.now in let total = c.loop-index.total in let s = c.args.bytes.now in let i = c.loop-index.index in
    adds_more (bits 128 h) (bits 128 c.args.sum) (bits 128 total) (bits 128 c.times-total.result)
    s 1 i c.loop-index.invariant
    (adds_one h total c.element_at.result c.times-total.result (polynomial_of (block s i))
    c.element_at.ensures c.times-total.ensures)
