use Rattle.std.proofs.Common.{◌≡◌, ◌-◌, List, ℕ, [], ◌∷◌, slice_index, sym, ◌∙◌, ap}
use Rattle.seal_model.specs.Polynomial.{bits}
use Rattle.seal_model.specs.Gcm.{power}
use Rattle.seal_model.proofs.Bits.{length-bits}
use Rattle.seal_model.proofs.BlockField.{block_ring}
use Rattle.seal_model.proofs.Lists.{each_below}
use Rattle.aes_gcm.proofs.Products.{next_power}
use Rattle.aes_gcm.proofs.field.Factor.powers.Goals as goal

pub returns : goal.returns
unfolding power
returns c =
    let h = bits 128 c.args.self.now in
    let numbers : List ℕ =
    c.times-power_8.result ∷ c.times-power_7.result ∷ c.times-power_6.result ∷ c.times-power_5.result
    ∷ c.times-power_4.result
    ∷ c.times-power_3.result ∷ c.times-power_2.result ∷ c.self.inside.element ∷ [] in
    let e1 : bits 128 c.self.inside.element ≡ power h 1 =
    ap (bits 128) c.self.view_is ∙ sym (block_ring.has_one h (length-bits 128 c.args.self.now)) in
    let e2 : bits 128 c.times-power_2.result ≡ power h 2 = next_power h _ _ 1 c.times-power_2.ensures e1 in
    let e3 : bits 128 c.times-power_3.result ≡ power h 3 = next_power h _ _ 2 c.times-power_3.ensures e2 in
    let e4 : bits 128 c.times-power_4.result ≡ power h 4 = next_power h _ _ 3 c.times-power_4.ensures e3 in
    let e5 : bits 128 c.times-power_5.result ≡ power h 5 = next_power h _ _ 4 c.times-power_5.ensures e4 in
    let e6 : bits 128 c.times-power_6.result ≡ power h 6 = next_power h _ _ 5 c.times-power_6.ensures e5 in
    let e7 : bits 128 c.times-power_7.result ≡ power h 7 = next_power h _ _ 6 c.times-power_7.ensures e6 in
    let e8 : bits 128 c.times-power_8.result ≡ power h 8 = next_power h _ _ 7 c.times-power_8.ensures e7 in
    each_below (λ j. bits 128 (slice_index numbers j) ≡ power h (8 - j)) 8
    (e8, (e7, (e6, (e5, (e4, (e3, (e2, (e1, tt))))))))
