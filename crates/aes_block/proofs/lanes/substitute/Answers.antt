use Rattle.std.proofs.Common.{w8, slice_index}
use Rattle.seal_model.proofs.Pointwise.{lane_fits}
use Rattle.aes_block.proofs.Chain.{steps_invert, s_box_by}
use Rattle.aes_block.proofs.lanes.substitute.Goals as goal

pub returns : goal.returns
returns c = record {
  long = c.plus.ensures.long;
  lanes = λ j h.
      let p = lane_fits w8 c.args.x j c.fits-x.1 in
      let inverted = steps_invert (slice_index c.args.x j) _ _ _ _ _ _ _ p (c.linear-power_2.ensures.lanes j h)
      (c.multiply-power_3.ensures.lanes j h) (c.linear-power_12.ensures.lanes j h)
      (c.multiply-power_15.ensures.lanes j h)
      (c.linear-power_240.ensures.lanes j h) (c.multiply-power_252.ensures.lanes j h)
      (c.multiply-inverse.ensures.lanes j h) in
      s_box_by (slice_index c.args.x j) _ _ _ inverted (c.linear.ensures.lanes j h) (c.plus.ensures.lanes j h);
}
