use Rattle.seal_model.proofs.Examples.{byte_products}
use Rattle.seal_model.proofs.bytes_have_products.Goals as goal

pub returns : goal.returns
returns c = byte_products
