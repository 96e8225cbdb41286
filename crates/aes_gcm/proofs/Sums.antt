-- The sum of GHASH block by block.
use Rattle.std.proofs.Common.{◌≡◌, ℕ, zero, suc, ◌+◌, ◌*◌, ◌<◌, Bool, List, [], ◌∷◌, ◌++◌}
use Rattle.std.proofs.Common.{length, get_or, take, drop, map, bit_xor, refl, sym, ◌∙◌, ap}
use Rattle.std.proofs.Common.{arith, add-one, append_assoc, ◌-◌, slice_index_or, replicate}
use Rattle.std.proofs.lemmas.List.{map-append, drop-drop, append-nil}
use Rattle.std.specs.Int.{w128, div_ceil, to_be_bytes, from_be_bytes}
use Rattle.seal_model.specs.Polynomial.{add, bits}
use Rattle.seal_model.specs.Gcm.{field_product, power, polynomial_of, bytes_of}
use Rattle.seal_model.specs.Gcm.{power_sum, ghash, padded, first_blocks, block_count}
use Rattle.seal_model.proofs.Lists.{are_bytes}
use Rattle.seal_model.proofs.Bits.{bits-xor, length-bits}
use Rattle.seal_model.proofs.Algebra.{add_assoc}
use Rattle.seal_model.proofs.BlockField.{power_sum-append, bytes_of-polynomial_of}
use Rattle.seal_model.proofs.BlockField.{field_product_add, length-field_product, add_none}
use Rattle.seal_model.proofs.BlockPowers.{power_sum-both}
use Rattle.aes_gcm.specs.Hash.{Adds, block, blocks_from}
use Rattle.aes_gcm.specs.Lanes.{sum_of_eight}
use Rattle.aes_gcm.proofs.Numbers.{bits-from_be_bytes, bytes_of-bits}

pub adds_one : (h sum number after : ℕ) (block : List Bool) → bits 128 number ≡ block
    → bits 128 after ≡ field_product (bits 128 (bit_xor sum number)) (bits 128 h)
    → Adds (bits 128 h) (bits 128 sum) (bits 128 after) (block ∷ [])
adds_one h sum number after block element product blocks before =
    product
    ∙ ap (λ p. field_product p (bits 128 h)) (bits-xor 128 sum number ∙ (λ i. add (before i) (element i)))
    ∙ sym (power_sum-append (bits 128 h) block blocks (length-bits 128 h) (sym (ap length element)
    ∙ length-bits 128 number))

-- eight blocks, each times its power, the sum so far added to the first
pub adds_eight : (h before after a b c d e f g i : List Bool) → length i ≡ 128
    → after ≡ sum_of_eight (λ j. field_product (slice_index_or (add before a ∷ b ∷ c ∷ d ∷ e ∷ f ∷ g ∷ i ∷ []) j [])
    (power h (8 - j)))
    → Adds h before after (a ∷ b ∷ c ∷ d ∷ e ∷ f ∷ g ∷ i ∷ [])
unfolding power_sum
adds_eight h before after a b c d e f g i long is blocks start =
    let term = λ (p : List Bool) (n : ℕ). field_product p (power h n) in
    let rest = λ (z : List Bool). add (term b 7) (add (term c 6)
    (add (term d 5) (add (term e 4) (add (term f 3) (add (term g 2) z))))) in
    is
    ∙ (λ t. add (field_product_add before a (power h 8) t) (rest (term i 1)))
    ∙ add_assoc (term before 8) (term a 8) (rest (term i 1))
    ∙ (λ t. add (term (start t) 8) (add (term a 8)
    (rest (sym (add_none (term i 1) (length-field_product i (power h 1))) t))))
    ∙ sym (power_sum-both h blocks (a ∷ b ∷ c ∷ d ∷ e ∷ f ∷ g ∷ i ∷ []))

pub adds_none : (h sum : List Bool) → Adds h sum sum []
adds_none h sum blocks e = e ∙ ap (power_sum h) (sym (append-nil blocks))

pub adds_both : (h before between after : List Bool) (first second : List (List Bool))
    → Adds h before between first → Adds h between after second → Adds h before after (first ++ second)
adds_both h before between after first second f g blocks e =
    g (blocks ++ first) (f blocks e) ∙ ap (power_sum h) (append_assoc blocks first second)

-- a whole block needs no filling
pub padded-whole : (s : List ℕ) → length s ≡ 16 → s ≡ padded s
padded-whole s e = sym (ap (λ n. s ++ replicate (16 - n) 0) e ∙ append-nil s)

first_blocks-suc : (n : ℕ) (s : List ℕ) → first_blocks (suc n) s ≡ first_blocks n s ++ block s n ∷ []
unfolding first_blocks
first_blocks-suc zero s = refl
first_blocks-suc (suc n) s =
    ap (λ t. padded (take 16 s) ∷ t)
    (first_blocks-suc n (drop 16 s)
    ∙ ap (λ r. first_blocks n (drop 16 s) ++ padded (take 16 r) ∷ [])
    (drop-drop (16 * n) 16 s ∙ ap (λ k. drop k s) (omega arith)))

first_blocks-more : (n k : ℕ) (s : List ℕ) → first_blocks (k + n) s ≡ first_blocks k s ++ blocks_from n k s
first_blocks-more zero k s =
    let same : k + 0 ≡ k = omega arith in ap (λ m. first_blocks m s) same ∙ sym (append-nil (first_blocks k s))
first_blocks-more (suc n) k s =
    let moved : k + suc n ≡ (k + 1) + n = omega arith in
    ap (λ m. first_blocks m s) moved ∙ first_blocks-more n (k + 1) s
    ∙ ap (λ t. t ++ blocks_from n (k + 1) s) (ap (λ m. first_blocks m s) (add-one k) ∙ first_blocks-suc k s)
    ∙ append_assoc (first_blocks k s) (block s k ∷ []) (blocks_from n (k + 1) s)

-- n blocks more of the blocks of s
pub adds_more : (h before between after : List Bool) (s : List ℕ) (n k : ℕ)
    → Adds h before between (map polynomial_of (first_blocks k s))
    → Adds h between after (map polynomial_of (blocks_from n k s))
    → Adds h before after (map polynomial_of (first_blocks (k + n) s))
adds_more h before between after s n k f g blocks e =
    adds_both h before between after (map polynomial_of (first_blocks k s)) (map polynomial_of (blocks_from n k s))
    f g blocks e
    ∙ ap (λ t. power_sum h (blocks ++ t))
    (sym (map-append polynomial_of (first_blocks k s) (blocks_from n k s))
    ∙ ap (map polynomial_of) (sym (first_blocks-more n k s)))

pub div_ceil-16 : (n : ℕ) → div_ceil n 16 ≡ block_count n
div_ceil-16 n = omega arith

-- ---- results
-- the bytes of a sum that starts with no block
pub hash_bytes : (h total : ℕ) (key : List ℕ) (blocks : List (List ℕ)) → bits 128 h ≡ polynomial_of key
    → Adds (bits 128 h) (bits 128 0) (bits 128 total) (map polynomial_of blocks)
    → to_be_bytes w128 total ≡ ghash key blocks
unfolding ghash power_sum bits
hash_bytes h total key blocks is adds =
    sym (bytes_of-bits 16 total)
    ∙ ap (bytes_of 16) (adds [] refl ∙ ap (λ p. power_sum p (map polynomial_of blocks)) is)

pub bytes_back : (number : ℕ) (s : List ℕ) → length s ≡ 16 → ((i : ℕ) → get_or s i 0 < 256)
    → number ≡ from_be_bytes w128 s → to_be_bytes w128 number ≡ s
bytes_back number s long fits is =
    sym (bytes_of-bits 16 number) ∙ ap (bytes_of 16) (ap (bits 128) is ∙ bits-from_be_bytes s long fits)
    ∙ ap (λ k. bytes_of k (polynomial_of s)) (sym long) ∙ bytes_of-polynomial_of s (are_bytes s fits)
