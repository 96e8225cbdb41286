-- Operators lane by lane.
use Rattle.std.proofs.Common.{◌≡◌, ℕ, zero, suc, ◌-◌, ◌*◌, ◌^◌, ◌<◌, ◌==◌, cond, eqb, false, List, [], ◌∷◌, length}
use Rattle.std.proofs.Common.{get_or, map, replicate, bit_and, sym, ◌∙◌, ap, subst, arith, Fits}
use Rattle.std.specs.Int.{Width}
use mir.Val.{bits, hbits}
use lib.Lanes.{zip2, sel_l, top, Each1}
use Rattle.std.proofs.lemmas.Nat.{pow_pos}
use Rattle.std.proofs.lemmas.Simd.{length-replicate, length-zip2, get_or-zip2}
use Rattle.std.proofs.lemmas.Simd.{get_or-replicate, length-sel_l, get_or-sel_l, tops_compared}
use Rattle.std.proofs.lemmas.Bool.{eq-eqb, ne_eqb}
use Rattle.std.proofs.lemmas.Nat.Bits.{and_pow, bit_at-lt}
use Rattle.std.specs.Int.{bit_at}
use Rattle.seal_model.specs.Polynomial.{bit}
use Rattle.seal_model.specs.Lanes.{HasLanes, where_set}

pub lane_fits : (w : Width) (v : List ℕ) (i : ℕ) → Each1 (Fits w) v → get_or v i 0 < 2 ^ bits w
lane_fits w [] i h = pow_pos (bits w)
lane_fits w (x ∷ xs) zero h = h.0.fits
lane_fits w (x ∷ xs) (suc i) h = lane_fits w xs i h.1

-- comparing with the mask of a bit tells the bit
digit_test : (d p : ℕ) → d < 2 → 0 < p → (d * p == p) ≡ (d == 1)
digit_test zero p h g = ne_eqb (0 * p) p (omega arith)
digit_test (suc zero) p h g = eq-eqb (1 * p) p (omega arith)
digit_test (suc (suc d)) p h g = absurd (omega arith)

pub bit_test : (x i : ℕ) → (bit_and x (2 ^ i) == 2 ^ i) ≡ bit x i
bit_test x i = ap (λ n. n == 2 ^ i) (and_pow x i) ∙ digit_test (bit_at x i) (2 ^ i) (bit_at-lt x i) (pow_pos i)

module _ (n : ℕ) where
  pub lanes_of : (f : ℕ → ℕ → ℕ) (xs ys : List ℕ) → length xs ≡ n → length ys ≡ n
      → HasLanes n (zip2 f xs ys) (λ i. f (get_or xs i 0) (get_or ys i 0))
  lanes_of f xs ys p q = record {
    long = length-zip2 f xs ys (p ∙ sym q) ∙ p;
    lanes = λ i h. get_or-zip2 f xs ys i 0 0 0 (omega arith) (omega arith);
  }

  pub lanes_with : (f : ℕ → ℕ → ℕ) (xs : List ℕ) (y : ℕ) → length xs ≡ n
      → HasLanes n (zip2 f xs (replicate n y)) (λ i. f (get_or xs i 0) y)
  lanes_with f xs y p =
      let both = lanes_of f xs (replicate n y) p (length-replicate n y) in record {
        long = both.long;
        lanes = λ i h. both.lanes i h ∙ ap (f (get_or xs i 0)) (get_or-replicate n i y 0 h);
      }

  -- a choice between b and zeros, by the comparison of two vectors
  compared : (xs : List ℕ) (y : ℕ) (b : List ℕ) → length xs ≡ n → length b ≡ n
      → HasLanes n (sel_l (zip2 eqb xs (replicate n y)) b (replicate n 0))
      (λ i. cond (eqb (get_or xs i 0) y) (get_or b i 0) 0)
  compared xs y b p q =
      let tests = zip2 eqb xs (replicate n y) in
      let ly : length (replicate n y) ≡ n = length-replicate n y in
      let lz : length (replicate {A = ℕ} n 0) ≡ n = length-replicate n 0 in
      let long : length tests ≡ n = length-zip2 eqb xs (replicate n y) (p ∙ sym ly) ∙ p in record {
        long = length-sel_l tests b (replicate n 0) (long ∙ sym q) (long ∙ sym lz) ∙ long;
        lanes = λ i h.
            get_or-sel_l tests b (replicate n 0) i 0 (omega arith) (omega arith) (omega arith)
            ∙ (λ t. cond (get_or-zip2 eqb xs (replicate n y) i 0 0 false (omega arith) (omega arith) t) (get_or b i 0)
            (get_or-replicate n i 0 0 h t))
            ∙ ap (λ k. cond (eqb (get_or xs i 0) k) (get_or b i 0) 0) (get_or-replicate n i y 0 h);
      }

  -- b where the vector a has a bit, as comparing and selecting computes it
  pub where_bit_set : (w : Width) (a : List ℕ) (bit : ℕ) (b : List ℕ) → length a ≡ n → length b ≡ n
      → HasLanes n (sel_l (map (top (hbits w)) (zip2 (λ x y. cond (eqb x y) (2 ^ bits w - 1) 0)
      (zip2 bit_and a (replicate n bit))
      (replicate n bit))) b (replicate n 0)) (λ i. where_set (get_or a i 0) bit (get_or b i 0))
  where_bit_set w a bit b p q =
      let masked = lanes_with bit_and a bit p in let chosen =
      compared (zip2 bit_and a (replicate n bit)) bit b masked.long q in
      subst (λ tests. HasLanes n (sel_l tests b (replicate n 0)) (λ i. where_set (get_or a i 0) bit (get_or b i 0)))
      (sym (tops_compared w eqb (zip2 bit_and a (replicate n bit)) (replicate n bit)))
      (record {
        long = chosen.long;
        lanes = λ i h. chosen.lanes i h ∙ ap (λ k. cond (eqb k bit) (get_or b i 0) 0) (masked.lanes i h);
      })
