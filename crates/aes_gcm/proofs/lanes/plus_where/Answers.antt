use Rattle.std.proofs.Common.{w64, ◌==◌, bit_and, slice_index}
use Rattle.seal_model.proofs.Pointwise.{lane_fits}
use Rattle.aes_gcm.proofs.Halves.{added_where}
use Rattle.aes_gcm.proofs.lanes.plus_where.Goals as goal

pub returns : goal.returns
returns c j h =
    rw (
      c.xor.ensures.lanes j h,
      c.xor-2.ensures.lanes j h,
      c.where_set.ensures.lanes j h,
      c.where_set-2.ensures.lanes j h,
    )
    (added_where (bit_and (slice_index c.args.half j) c.args.bit == c.args.bit) _ _ _ _
    (lane_fits w64 c.args.low j c.fits-low.1) (lane_fits w64 c.args.other_low j c.fits-other_low.1))
