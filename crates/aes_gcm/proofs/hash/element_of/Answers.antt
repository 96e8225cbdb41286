use Rattle.std.proofs.Common.{◌≡◌, ℕ, ◌<◌, length, get_or, rules, ◌∙◌, ap}
use Rattle.seal_model.specs.Polynomial.{bits}
use Rattle.aes_gcm.proofs.Numbers.{bits-from_be_bytes}
use Rattle.aes_gcm.proofs.hash.element_of.Goals as goal

pub returns : goal.returns
returns c =
    let long : length c.args.block ≡ 16 = search rules in
    let fits : (i : ℕ) → get_or c.args.block i 0 < 256 = search rules in
    ap (bits 128) c.from_be_bytes.ensures ∙ bits-from_be_bytes c.args.block long fits
