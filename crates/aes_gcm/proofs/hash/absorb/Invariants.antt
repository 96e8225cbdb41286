use Rattle.std.proofs.Common.{map}
use Rattle.seal_model.specs.Polynomial.{bits}
use Rattle.seal_model.specs.Gcm.{first_blocks, polynomial_of}
use Rattle.aes_gcm.specs.Hash.{Adds}
use Rattle.aes_gcm.proofs.hash.absorb.Given as goal

abbrev pub invariant-loop-index : goal.invariant-loop-index
invariant-loop-index l =
    Adds (bits 128 l.h) (bits 128 l.sum) (bits 128 l.total) (map polynomial_of (first_blocks l.index l.bytes))
