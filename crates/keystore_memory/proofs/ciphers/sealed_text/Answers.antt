use Rattle.std.proofs.Common.{◌++◌, ap, ◌∙◌}
use Rattle.seal_model.specs.Sealed.{sealed_text}
use Rattle.keystore_memory.proofs.ciphers.sealed_text.Goals as goal

pub returns : goal.returns
unfolding sealed_text
returns c = c.from_vec.ensures ∙ c.in_ok-extend_from_slice.ensures.items
    ∙ ap (λ bytes. bytes ++ c.as_slice.result.now) c.in_ok-bytes.ensures.items
    ∙ ap (λ sealed. c.args.nonce.now ++ sealed) (c.as_slice.ensures ∙ c.in_ok-sealed.ensures)
