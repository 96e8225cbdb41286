use Rattle.std.proofs.Common.{ℕ, w64, [], slice_index, ◌∙◌, ap}
use Rattle.std.proofs.lemmas.Simd.{get_or-replicate}
use Rattle.seal_model.specs.Polynomial.{bits}
use Rattle.seal_model.specs.Gcm.{field_product}
use Rattle.seal_model.proofs.Pointwise.{lane_fits}
use Rattle.aes_gcm.specs.Lanes.{element, joined}
use Rattle.aes_gcm.proofs.Halves.{no_factor, whole_factor}
use Rattle.aes_gcm.proofs.lanes.product.Goals as goal

pub returns : goal.returns
returns c j h =
    let right = bits 128 (element c.args.right.high c.args.right.low j) in
    let none = get_or-replicate {A = ℕ} 8 j 0 0 h in
    let start = (λ t. bits 128 (joined (none t) (none t))) ∙ no_factor right in
    c.times_half-2.ensures j h _ (c.times_half.ensures j h [] start)
    ∙ ap (λ p. field_product p right)
    (whole_factor (slice_index c.args.high j) (slice_index c.args.low j) (lane_fits w64 c.args.low j c.fits-low.1))
