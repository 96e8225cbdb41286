use Rattle.std.proofs.Common.{◌≡◌, ℕ, ◌<◌, ◌++◌, Bool, List, slice_index}
use Rattle.seal_model.specs.Polynomial.{bits}
use Rattle.seal_model.specs.Gcm.{field_product}
use Rattle.aes_gcm.specs.Lanes.{element}
use Rattle.aes_gcm.proofs.lanes.times_half.Given as goal

abbrev pub invariant-loop-i : goal.invariant-loop-i
invariant-loop-i l =
    (j : ℕ) → j < 8 → (before : List Bool)
    → bits 128 (element l.fn.product.high l.fn.product.low j) ≡ field_product before
    (bits 128 (element l.right.high l.right.low j))
    → bits 128 (element l.product.high l.product.low j)
    ≡ field_product (bits l.i (slice_index l.half j) ++ before) (bits 128 (element l.right.high l.right.low j))
