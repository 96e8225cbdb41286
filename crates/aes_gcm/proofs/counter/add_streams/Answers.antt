use Rattle.std.proofs.Common.{◌≡◌, ◌*◌, ◌<◌, ◌∙◌, ap, length, arith}
use Rattle.seal_model.specs.Aes.{encrypt}
use Rattle.seal_model.specs.Gcm.{block_count}
use Rattle.aes_gcm.proofs.Streams.{block_more, blocks_all}
use Rattle.aes_gcm.proofs.Sums.{div_ceil-16}
use Rattle.aes_gcm.proofs.counter.add_streams.Goals as goal

pub loop-index-preserved : goal.loop-index-preserved
loop-index-preserved c =
    let text = c.args.text.now in let i = c.loop-index.index in
    let inside : 16 * i < length text = omega (arith, div_ceil-16 (length text)) in
    block_more c.args.cipher.now c.args.nonce.now text c.loop-index.text c.add_stream.new.text _ i inside
    c.loop-index.invariant
    (c.encrypt_block-stream.ensures ∙ ap (encrypt c.args.cipher.now) c.counter_block.ensures) c.add_stream.ensures

pub returns : goal.returns
returns c =
    let text = c.args.text.now in
    let count : c.loop-index.index ≡ block_count (length text) = omega (arith, div_ceil-16 (length text)) in
    c.loop-index.invariant ∙ blocks_all c.args.cipher.now c.args.nonce.now text c.loop-index.index count
