use Rattle.std.proofs.Common.{ℕ}
use Rattle.std.proofs.lemmas.Simd.{get_or-replicate}
use Rattle.aes_block.proofs.lanes.image.Goals as goal

pub returns : goal.returns
returns c = record {
  long = c.where_set.ensures.long;
  lanes = λ j h. rw (c.where_set.ensures.lanes j h, get_or-replicate {A = ℕ} 16 j c.args.image 0 h);
}
