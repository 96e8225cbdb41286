use Rattle.seal_model.specs.Gcm.{polynomial_of}
use Rattle.aes_gcm.proofs.Sums.{adds_one}
use Rattle.aes_gcm.proofs.hash.absorb_block.Goals as goal

pub returns : goal.returns
returns c =
    adds_one c.args.h.now c.args.sum c.element_of.result c.times.result (polynomial_of c.args.block)
    c.element_of.ensures c.times.ensures
