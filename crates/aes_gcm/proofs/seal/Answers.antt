use Rattle.std.proofs.Common.{length, ap, ◌∙◌, arith}
use Rattle.seal_model.proofs.Sealing.{length-encrypted}
use Rattle.seal_model.specs.Gcm.{tag}
use Rattle.aes_gcm.proofs.Sealed.{sealed_is}
use Rattle.aes_gcm.proofs.seal.Goals as goal

pub tag-tag-requires-clause-ciphertext_length : goal.tag-tag-requires-clause-ciphertext_length
tag-tag-requires-clause-ciphertext_length c =
    omega (
      arith,
      ap length (c.as_slice.ensures.value ∙ c.in_ok-sealed.ensures),
      length-encrypted c.new-cipher.result c.args.nonce.now c.args.text.now,
    )

pub returns : goal.returns
returns c =
    let cipher = c.new-cipher.result in let nonce = c.args.nonce.now in let aad = c.args.aad.now in
    c.from_vec.ensures ∙ c.in_ok-extend_from_slice.ensures.items
    ∙ sealed_is c.args.key.now cipher nonce aad c.args.text.now c.in_ok-sealed.sealed.items
    c.tag-tag.result c.new-cipher.ensures
    c.in_ok-sealed.ensures (c.tag-tag.ensures ∙ ap (tag cipher nonce aad) c.as_slice.ensures.value)
