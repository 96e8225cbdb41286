use Rattle.std.proofs.Common.{w64, ℕ}
use Rattle.std.proofs.lemmas.Simd.{get_or-replicate}
use Rattle.seal_model.proofs.Pointwise.{lane_fits}
use Rattle.aes_gcm.proofs.Halves.{moved_on}
use Rattle.aes_gcm.proofs.lanes.times_x.Goals as goal

pub returns : goal.returns
returns c j h =
    rw (
      c.xor.ensures.lanes j h,
      c.or.ensures.lanes j h,
      c.halved.ensures.lanes j h,
      c.halved-2.ensures.lanes j h,
      c.lowest_on_top.ensures.lanes j h,
      c.where_set.ensures.lanes j h,
      get_or-replicate {A = ℕ} 8 j 0xe100000000000000 0 h,
    ) (moved_on _ _ (lane_fits w64 c.args.high j c.fits-high.1) (lane_fits w64 c.args.low j c.fits-low.1))
