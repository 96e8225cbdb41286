use Rattle.aes_block.proofs.lanes.linear.Goals as goal

pub returns : goal.returns
returns c = record {
  long = c.xor.ensures.long;
  lanes = λ j h. rw (
    c.xor.ensures.lanes j h,
    c.xor-from_1.ensures.lanes j h,
    c.xor-from_2.ensures.lanes j h,
    c.xor-from_3.ensures.lanes j h,
    c.xor-from_4.ensures.lanes j h,
    c.xor-from_5.ensures.lanes j h,
    c.xor-from_6.ensures.lanes j h,
    c.image.ensures.lanes j h,
    c.image-2.ensures.lanes j h,
    c.image-3.ensures.lanes j h,
    c.image-4.ensures.lanes j h,
    c.image-5.ensures.lanes j h,
    c.image-6.ensures.lanes j h,
    c.image-7.ensures.lanes j h,
    c.image-8.ensures.lanes j h,
  );
}
