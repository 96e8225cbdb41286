use Rattle.std.proofs.Common.{◌≡◌, ◌%◌, ◌^◌, ◌++◌, sym, ◌∙◌, ap, get_or, ◌∷◌, [], arith}
use Rattle.std.specs.Int.{w32, to_be_bytes}
use Rattle.seal_model.proofs.Lists.{bytes_from, bytes_from-is}
use Rattle.aes_gcm.proofs.counter.counter_block.Goals as goal

pub returns : goal.returns
unfolding bytes_from
returns c =
    let nonce = c.args.nonce.now in let count = c.args.count in let low = c.to_be_bytes.result in
    let same : count ≡ count % 2 ^ 32 = omega arith in
    ap (λ t. bytes_from 12 0 nonce ++ (get_or t 0 0 ∷ get_or t 1 0 ∷ get_or t 2 0 ∷ get_or t 3 0 ∷ []))
    (c.to_be_bytes.ensures ∙ ap (to_be_bytes w32) same)
    ∙ ap (λ s. s ++ to_be_bytes w32 (count % 2 ^ 32)) (bytes_from-is 12 0 nonce (sym c.told-nonce))
