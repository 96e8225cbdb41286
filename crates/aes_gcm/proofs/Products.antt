-- Powers of an element.
use Rattle.std.proofs.Common.{◌≡◌, ℕ, suc, Bool, List, ◌∙◌, ap}
use Rattle.seal_model.specs.Gcm.{field_product, power}

pub next_power : (h p q : List Bool) (n : ℕ) → q ≡ field_product p h → p ≡ power h n → q ≡ power h (suc n)
unfolding power
next_power h p q n product so_far = product ∙ ap (λ r. field_product r h) so_far
