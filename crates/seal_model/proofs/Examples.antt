-- The standards' own examples of products of bytes, and the modulus of blocks.
use Rattle.std.proofs.Common.{refl}
use Rattle.seal_model.specs.Polynomial.{bits}
use Rattle.seal_model.specs.Aes.{multiply, byte_modulus, polynomial_of}
use Rattle.seal_model.specs.Gcm.{block_modulus, bytes_of}
use Rattle.seal_model.specs.Laws.{ByteProducts, BlockModulusIsR}

pub byte_products : ByteProducts
unfolding multiply byte_modulus polynomial_of bits
byte_products = record {
  of_57_and_83 = refl;
  of_57_and_13 = refl;
}

pub block_modulus_is_r : BlockModulusIsR
unfolding bytes_of block_modulus
block_modulus_is_r = refl
