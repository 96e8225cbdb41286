use Rattle.aes_block.proofs.lanes.next.Goals as goal

pub returns : goal.returns
returns c = record {
  long = c.xor.ensures.long;
  lanes = λ j h. rw (c.xor.ensures.lanes j h, c.double.ensures.lanes j h, c.where_set.ensures.lanes j h);
}
