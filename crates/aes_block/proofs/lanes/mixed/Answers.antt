use Rattle.std.proofs.Common.{w8}
use Rattle.seal_model.proofs.Pointwise.{lane_fits}
use Rattle.aes_block.proofs.Tables.{tripled}
use Rattle.aes_block.proofs.lanes.mixed.Goals as goal

pub returns : goal.returns
returns c = record {
  long = c.xor-4.ensures.long;
  lanes = λ j h. rw (
    c.xor-4.ensures.lanes j h,
    c.double.ensures.lanes j h,
    c.xor-3.ensures.lanes j h,
    c.xor.ensures.lanes j h,
    c.double-2.ensures.lanes j h,
    c.xor-2.ensures.lanes j h,
    tripled _ (lane_fits w8 c.args.b j c.fits-b.1),
  );
}
