use Rattle.std.proofs.Common.{w8, ℕ}
use Rattle.std.proofs.lemmas.Simd.{get_or-replicate}
use Rattle.seal_model.proofs.Pointwise.{lane_fits}
use Rattle.aes_block.proofs.BitByBit.{doubling}
use Rattle.aes_block.proofs.lanes.double.Goals as goal

pub returns : goal.returns
returns c = record {
  long = c.xor.ensures.long;
  lanes = λ i h. rw (
    c.xor.ensures.lanes i h,
    c.added.ensures.lanes i h,
    c.where_set.ensures.lanes i h,
    get_or-replicate {A = ℕ} 16 i 0x1b 0 h,
  ) (doubling _ (lane_fits w8 c.args.a i c.fits-a.1));
}
