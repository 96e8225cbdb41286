-- The remainder leaves a multiple of the modulus.
use Rattle.std.proofs.Common.{◌≡◌, ℕ, zero, suc, Bool, true, false, List, [], ◌∷◌, ◌++◌, refl, sym, ◌∙◌, ap, arith}
use Rattle.seal_model.specs.Polynomial.{plus, add, scaled, product, zeros, but_last}
use Rattle.seal_model.specs.Polynomial.{last_of, times_x, remainder, coefficient}
use Rattle.seal_model.specs.Laws.{RemainderIsRemainder}
use Rattle.seal_model.proofs.Algebra.{Same, none, more, Same-remainder, Same-but_last, plus_assoc, plus_comm}
use Rattle.seal_model.proofs.Bits.{length-Same}

plus_false : (a : Bool) → plus a false ≡ a
plus_false a = plus_comm a false

coefficient-zeros : (p : List Bool) (k : ℕ) → coefficient (zeros p) k ≡ false
coefficient-zeros [] k = refl
coefficient-zeros (a ∷ p) zero = refl
coefficient-zeros (a ∷ p) (suc k) = coefficient-zeros p k

coefficient-add : (p q : List Bool) (k : ℕ) → coefficient (add p q) k ≡ plus (coefficient p k) (coefficient q k)
coefficient-add [] q k = refl
coefficient-add (a ∷ p) [] k = sym (plus_false (coefficient (a ∷ p) k))
coefficient-add (a ∷ p) (b ∷ q) zero = refl
coefficient-add (a ∷ p) (b ∷ q) (suc k) = coefficient-add p q k

but_last-last_of : (a : Bool) (p : List Bool) → a ∷ p ≡ but_last a p ++ last_of a p ∷ []
but_last-last_of a [] = refl
but_last-last_of a (b ∷ p) = ap (λ x. a ∷ x) (but_last-last_of b p)

-- t times x ^ n is t times low and t times the modulus
modulus_apart : (t : Bool) (p low : List Bool) (k : ℕ) → Same p low
    → coefficient (p ++ t ∷ []) k
    ≡ plus (coefficient p k) (plus (coefficient (scaled t low) k) (coefficient (scaled t (low ++ true ∷ [])) k))
modulus_apart false _ _ zero none = refl
modulus_apart true _ _ zero none = refl
modulus_apart false _ _ (suc k) none = refl
modulus_apart true _ _ (suc k) none = refl
modulus_apart false (a ∷ p) (l ∷ low) zero (more s) = sym (plus_false a)
modulus_apart true (a ∷ p) (true ∷ low) zero (more s) = sym (plus_false a)
modulus_apart true (a ∷ p) (false ∷ low) zero (more s) = sym (plus_false a)
modulus_apart false (a ∷ p) (l ∷ low) (suc k) (more s) = modulus_apart false p low k s
modulus_apart true (a ∷ p) (l ∷ low) (suc k) (more s) = modulus_apart true p low k s

-- p is a multiple of the modulus, and r
IsRest : List Bool → List Bool → List Bool → Type 0
IsRest low p r =
    (q : List Bool)
    × ((k : ℕ) → coefficient p k ≡ plus (coefficient r k) (coefficient (product q (low ++ true ∷ [])) k))

rest-step : (a : Bool) (low p r q : List Bool) → Same r low
    → ((k : ℕ) → coefficient p k ≡ plus (coefficient r k) (coefficient (product q (low ++ true ∷ [])) k))
    → (k : ℕ) → coefficient (a ∷ p) k
    ≡ plus (coefficient (add (a ∷ []) (times_x low r)) k)
    (coefficient (product (last_of false r ∷ q) (low ++ true ∷ [])) k)
rest-step a low p r q s rest k =
    let m = low ++ true ∷ [] in let t = last_of false r in let u = but_last false r in
    let moved = false ∷ product q m in
    start k
    ∙ ap (λ y. plus (coefficient (a ∷ []) k) (plus y (coefficient moved k)))
    (ap (λ x. coefficient x k) (but_last-last_of false r) ∙ modulus_apart t u low k (Same-but_last false r low s))
    ∙ sym (
    (λ i. plus (coefficient-add (a ∷ []) (times_x low r) k i) (coefficient-add (scaled t m) moved k i))
    ∙ ap (λ y. plus (plus (coefficient (a ∷ []) k) y) (plus (coefficient (scaled t m) k) (coefficient moved k)))
    (coefficient-add u (scaled t low) k)
    ∙ regroup (coefficient (a ∷ []) k) (coefficient u k) (coefficient (scaled t low) k)
    (coefficient (scaled t m) k) (coefficient moved k))
  where
    start : (k : ℕ)
        → coefficient (a ∷ p) k
        ≡ plus (coefficient (a ∷ []) k)
        (plus (coefficient (false ∷ r) k) (coefficient (false ∷ product q (low ++ true ∷ [])) k))
    start zero = sym (plus_false a)
    start (suc j) = rest j

    regroup : (a u v w g : Bool) → plus (plus a (plus u v)) (plus w g) ≡ plus a (plus (plus u (plus v w)) g)
    regroup a u v w g =
        plus_assoc a (plus u v) (plus w g)
        ∙ ap (plus a) (sym (plus_assoc (plus u v) w g) ∙ ap (λ y. plus y g) (plus_assoc u v w))

remainder-rest : (l : Bool) (ls p : List Bool) → IsRest (l ∷ ls) p (remainder (l ∷ ls) p)
unfolding IsRest
remainder-rest l ls [] = ([], λ k. sym (ap (λ b. plus b false) (coefficient-zeros (l ∷ ls) k)))
remainder-rest l ls (a ∷ p) =
    let below = remainder-rest l ls p in let r = remainder (l ∷ ls) p in
    (last_of false r ∷ below.0, rest-step a (l ∷ ls) p r below.0 (Same-remainder l ls p) below.1)

pub remainder_is_remainder : RemainderIsRemainder
unfolding IsRest
remainder_is_remainder [] p h = absurd (omega arith)
remainder_is_remainder (l ∷ ls) p h = record {
  short = length-Same (remainder (l ∷ ls) p) (l ∷ ls) (Same-remainder l ls p);
  rest = remainder-rest l ls p;
}
