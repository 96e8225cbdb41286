use Rattle.std.proofs.Common.{◌≡◌, ◌*◌, ◌/◌, ◌^◌}
use Rattle.seal_model.specs.Polynomial.{bits}
use Rattle.seal_model.specs.Gcm.{field_product}
use Rattle.aes_gcm.proofs.field.product.Given as goal

abbrev pub invariant-loop-i : goal.invariant-loop-i
invariant-loop-i l = (l.rest ≡ l.left / 2 ^ (4 * l._i))
    × (bits 128 l.product ≡ field_product (bits (4 * l._i) l.left) (bits 128 l.right))
