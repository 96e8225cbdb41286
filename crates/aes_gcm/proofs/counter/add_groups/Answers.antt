use Rattle.std.proofs.Common.{◌≡◌, ◌+◌, ◌*◌, ◌∙◌, ap, arith}
use Rattle.aes_gcm.specs.Stream.{partly_encrypted}
use Rattle.aes_gcm.proofs.counter.add_groups.Goals as goal

pub loop-group-preserved : goal.loop-group-preserved
loop-group-preserved c =
    let g = c.loop-group.group in let more : 16 * g + 16 ≡ 16 * (g + 1) = omega arith in
    c.add_group.ensures c.args.text.now c.loop-group.invariant
    ∙ ap (partly_encrypted c.args.cipher.now c.args.nonce.now c.args.text.now) more
