use Rattle.std.proofs.Common.{◌≡◌, ℕ, ◌+◌, ◌<◌, ◌-◌, Bool, List, [], ◌∷◌, length}
use Rattle.std.proofs.Common.{slice_index, bit_xor, sym, ◌∙◌, ap, arith}
use Rattle.seal_model.specs.Polynomial.{add, bits}
use Rattle.seal_model.specs.Gcm.{field_product, polynomial_of, power}
use Rattle.seal_model.proofs.Bits.{bits-xor, length-bits}
use Rattle.aes_gcm.specs.Hash.{block}
use Rattle.aes_gcm.proofs.Sums.{adds_eight}
use Rattle.aes_gcm.proofs.hash.absorb_eight.Goals as goal

pub returns : goal.returns
returns c =
    let h = bits 128 c.args.h.now in let sum = c.args.sum in let i = c.args.index in
    let element = λ (k : ℕ). polynomial_of (block c.args.bytes.now k) in
    let numbers : List ℕ =
    bit_xor sum c.element_at.result ∷ c.element_at-2.result ∷ c.element_at-3.result ∷ c.element_at-4.result
    ∷ c.element_at-5.result ∷ c.element_at-6.result ∷ c.element_at-7.result ∷ c.element_at-8.result ∷ [] in
    let term = λ (j : ℕ) (below : j < 8) (p : List Bool) (e : bits 128 (slice_index numbers j) ≡ p).
    c.times.ensures j below
    ∙ (λ t. field_product (bits 128 (c.new-blocks.ensures j below t)) (c.requires.are_powers j below t))
    ∙ ap (λ q. field_product q (power h (8 - j))) e in
    let e0 = bits-xor 128 sum c.element_at.result ∙ ap (add (bits 128 sum)) c.element_at.ensures in
    let e2 : bits 128 c.element_at-3.result ≡ element (i + 1 + 1) = c.element_at-3.ensures
    ∙ ap element (omega arith) in
    let e3 : bits 128 c.element_at-4.result ≡ element (i + 1 + 1 + 1) = c.element_at-4.ensures
    ∙ ap element (omega arith) in
    let e4 : bits 128 c.element_at-5.result ≡ element (i + 1 + 1 + 1 + 1) = c.element_at-5.ensures
    ∙ ap element (omega arith) in
    let e5 : bits 128 c.element_at-6.result ≡ element (i + 1 + 1 + 1 + 1 + 1) = c.element_at-6.ensures
    ∙ ap element (omega arith) in
    let e6 : bits 128 c.element_at-7.result ≡ element (i + 1 + 1 + 1 + 1 + 1 + 1) = c.element_at-7.ensures
    ∙ ap element (omega arith) in
    let e7 : bits 128 c.element_at-8.result ≡ element (i + 1 + 1 + 1 + 1 + 1 + 1 + 1) =
    c.element_at-8.ensures ∙ ap element (omega arith) in
    adds_eight h (bits 128 sum) (bits 128 c.sum.result) _ _ _ _ _ _ _ _ (sym (ap length e7)
    ∙ length-bits 128 c.element_at-8.result)
    (c.sum.ensures
    ∙ (λ t. add (term 0 (omega arith) _ e0 t) (add (term 1 (omega arith) _ c.element_at-2.ensures t)
    (add (term 2 (omega arith) _ e2 t) (add (term 3 (omega arith) _ e3 t) (add (term 4 (omega arith) _ e4 t)
    (add (term 5 (omega arith) _ e5 t) (add (term 6 (omega arith) _ e6 t) (term 7 (omega arith) _ e7 t)))))))))
