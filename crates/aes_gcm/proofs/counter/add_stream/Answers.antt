use Rattle.std.proofs.Common.{◌+◌, ◌*◌, ◌∙◌, ap, bit_xor, get_or, set, arith}
use Rattle.aes_gcm.proofs.Streams.{byte_added, block_added}
use Rattle.aes_gcm.proofs.counter.add_stream.Goals as goal

pub loop-k-preserved : goal.loop-k-preserved
loop-k-preserved c =
    let start = 16 * c.args.index in let k = c.loop-k.k in let stream = c.args.stream in
    let inv = c.loop-k.invariant in (
      inv.0,
      ap (λ s. set s (start + k) (bit_xor (get_or s (start + k) 0) (get_or stream k 0))) inv.1
          ∙ byte_added c.args.text.now stream start k (omega arith) (omega arith),
    )

pub returns : goal.returns
returns c =
    let inv = c.loop-k.invariant in
    inv.1 ∙ block_added c.args.text.now c.args.stream c.args.index c.loop-k.k inv.0 (omega arith)
