use Rattle.std.proofs.Common.{◌≡◌, sym, ◌∙◌, ap, length, rules, [], ◌∷◌}
use Rattle.seal_model.specs.Bytes.{xor_bytes}
use Rattle.seal_model.proofs.Lists.{bytes_from, bytes_from-is}
use Rattle.aes_block.specs.Lanes.{lane}
use Rattle.aes_block.proofs.blocks.add_key.Goals as goal

pub returns : goal.returns
unfolding bytes_from
returns c j h =
    let long : length c.args.key ≡ 16 = search rules in
    (λ t.
    c.plus.ensures.lanes j h t ∷ c.plus-2.ensures.lanes j h t ∷ c.plus-3.ensures.lanes j h t
    ∷ c.plus-4.ensures.lanes j h t ∷ c.plus-5.ensures.lanes j h t ∷ c.plus-6.ensures.lanes j h t
    ∷ c.plus-7.ensures.lanes j h t ∷ c.plus-8.ensures.lanes j h t ∷ c.plus-9.ensures.lanes j h t
    ∷ c.plus-10.ensures.lanes j h t ∷ c.plus-11.ensures.lanes j h t ∷ c.plus-12.ensures.lanes j h t
    ∷ c.plus-13.ensures.lanes j h t ∷ c.plus-14.ensures.lanes j h t ∷ c.plus-15.ensures.lanes j h t
    ∷ c.plus-16.ensures.lanes j h t ∷ [])
    ∙ ap (xor_bytes (lane j c.args.state)) (bytes_from-is 16 0 c.args.key (sym long))
