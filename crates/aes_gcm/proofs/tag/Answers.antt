use Rattle.std.proofs.Common.{rules, ◌∙◌, ap}
use Rattle.seal_model.specs.Polynomial.{bits}
use Rattle.seal_model.specs.Aes.{encrypt}
use Rattle.aes_gcm.proofs.Sealed.{AllFit, tag_is}
use Rattle.aes_gcm.proofs.tag.Goals as goal

pub returns : goal.returns
returns c =
    let zero = c.encrypt_block.result in let mask = c.encrypt_block-2.result in
    let mask_fits : AllFit mask = search rules in
    c.to_be_bytes.ensures
    ∙ tag_is c.args.cipher.now c.args.nonce.now c.args.aad.now c.args.ciphertext.now c.lengths_block.result zero mask
    c.new-h.result c.absorb-sum.result c.absorb-sum-2.result c.absorb_block-sum.result c.from_be_bytes-mask.result
    c.encrypt_block.ensures (ap (bits 128) c.new-h.ensures ∙ c.element_of.ensures)
    c.absorb-sum.ensures c.absorb-sum-2.ensures c.absorb_block-sum.ensures c.lengths_block.ensures
    (c.encrypt_block-2.ensures ∙ ap (encrypt c.args.cipher.now) c.counter_block.ensures)
    mask_fits c.from_be_bytes-mask.ensures
