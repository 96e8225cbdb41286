use Rattle.std.proofs.Common.{◌∙◌, ap}
use Rattle.seal_model.specs.Aes.{cipher, encrypt, key_schedule}
use Rattle.aes_block.proofs.key.Aes256.encrypt_block.Goals as goal

pub returns : goal.returns
unfolding encrypt
returns c =
    c.cipher.ensures ∙ ap (λ w. cipher w c.args.block) (c.self.invariant ∙ ap (λ k. key_schedule k 60) c.self.view_is)
