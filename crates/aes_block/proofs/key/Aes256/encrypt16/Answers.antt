use Rattle.std.proofs.Common.{◌∙◌, ap, [], get_or}
use Rattle.seal_model.specs.Aes.{cipher, encrypt, key_schedule}
use Rattle.aes_block.proofs.Transposed.{columns_are}
use Rattle.aes_block.proofs.key.Aes256.encrypt16.Goals as goal

pub returns : goal.returns
unfolding encrypt
returns c =
    let words_are = c.self.invariant ∙ ap (λ k. key_schedule k 60) c.self.view_is in
    c.stored.ensures
    ∙ columns_are (encrypt c.args.self.now) c.args.blocks.now c.cipher16.result c.told-blocks
    (λ j h. c.cipher16.ensures j h ∙ ap (cipher c.self.inside.words) (c.loaded.ensures j h)
    ∙ ap (λ w. cipher w (get_or c.args.blocks.now j [])) words_are)
