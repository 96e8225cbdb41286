use Rattle.std.proofs.Common.{◌∙◌, ap}
use Rattle.seal_model.specs.Polynomial.{bits}
use Rattle.seal_model.specs.Gcm.{blocks_of}
use Rattle.aes_gcm.proofs.Sums.{hash_bytes}
use Rattle.aes_gcm.proofs.ghash.Goals as goal

pub returns : goal.returns
returns c =
    c.to_be_bytes.ensures
    ∙ hash_bytes c.new-h.result c.absorb.result c.args.h (blocks_of c.args.bytes.now)
    (ap (bits 128) c.new-h.ensures ∙ c.element_of.ensures) c.absorb.ensures
