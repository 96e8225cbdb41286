use Rattle.std.proofs.Common.{◌≡◌, ◌+◌, length, ◌∙◌, ap, sym, rules, arith}
use Rattle.aes_gcm.specs.Stream.{partly_encrypted}
use Rattle.aes_gcm.proofs.Streams.{block_more, length-partly}
use Rattle.aes_gcm.proofs.counter.add_group.Goals as goal

pub loop-k-preserved : goal.loop-k-preserved
loop-k-preserved c =
    let cipher = c.args.cipher.now in let nonce = c.args.nonce.now in
    let first = c.args.first in let k = c.loop-k.k in let inv = c.loop-k.invariant in
    let kept : length c.add_stream.new.text ≡ length c.loop-k.text = search rules in (
      kept ∙ inv.0,
      λ original e.
          let whole : length original ≡ length c.args.text.now = sym (ap length e
          ∙ length-partly cipher nonce original first) in
          let longer : first + k + 1 ≡ first + (k + 1) = omega arith in
          block_more cipher nonce original c.loop-k.text c.add_stream.new.text _ (first + k) (omega arith)
          (inv.1 original e)
          (c.key_streams-streams.ensures k (omega arith)) c.add_stream.ensures
          ∙ ap (partly_encrypted cipher nonce original) longer,
    )
