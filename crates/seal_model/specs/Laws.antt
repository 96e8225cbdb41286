-- The laws of the two fields, of the S-box and of sealing.
use Rattle.std.specs.Prelude.{◌≡◌, ◌≢◌, ℕ, ◌<◌, ◌≤◌, Bool, true, false, List, [], ◌∷◌, ◌++◌, length, replicate}
use Rattle.std.specs.Prelude.{bit_xor, Some, None}
use Rattle.seal_model.specs.Sealed.{sealed_text, unsealed}
use Rattle.seal_model.specs.Polynomial.{plus, add, product, remainder, coefficient}
use Rattle.seal_model.specs.Aes.{multiply, byte_power, inverse, s_box}
use Rattle.seal_model.specs.Gcm.{block_modulus, bytes_of, field_product, field_one, power_sum, encrypted, tag, tag_of}
use Rattle.seal_model.specs.Gcm.{ciphertext_of, seal, unseal}

-- a product is the same with its factors in the other order
abbrev pub Commutative : {A : Type 0} → (A → A → A) → Type 0
Commutative {A} product = (a b : A) → product a b ≡ product b a

-- a product of three is the same however it is bracketed
abbrev pub Associative : {A : Type 0} → (A → A → A) → Type 0
Associative {A} product = (a b c : A) → product (product a b) c ≡ product a (product b c)

-- a product with a sum is the sum of the products
abbrev pub Distributive : {A : Type 0} → (A → A → A) → (A → A → A) → Type 0
Distributive {A} product sum = (a b c : A) → product a (sum b c) ≡ sum (product a b) (product a c)

-- products of elements are elements
abbrev pub IsClosed : {A : Type 0} → (A → Type 0) → (A → A → A) → Type 0
IsClosed {A} IsElement product = (a b : A) → IsElement (product a b)

-- a factor that leaves each element as it is
abbrev pub IsOne : {A : Type 0} → (A → Type 0) → (A → A → A) → A → Type 0
IsOne {A} IsElement product one = (a : A) → IsElement a → product one a ≡ a

-- a byte as a number
abbrev pub IsByte : ℕ → Type 0
IsByte a = a < 256

-- a block of 16 bytes as a polynomial
abbrev pub IsBlock : List Bool → Type 0
IsBlock p = length p ≡ 128

-- the bytes are a field
pub record IsByteField : Type 0 where
  pub closed : IsClosed IsByte multiply
  pub inverse_closed : (a : ℕ) → IsByte (inverse a)
  pub commutative : Commutative multiply
  pub associative : Associative multiply
  pub distributive : Distributive multiply bit_xor
  pub has_one : IsOne IsByte multiply 1
  pub has_inverses : (a : ℕ) → IsByte a → a ≢ 0 → multiply a (inverse a) ≡ 1
  pub inverse_of_zero : inverse 0 ≡ 0

-- the inverse is a power: the field has 256 elements
abbrev pub InverseIsPower : Type 0
InverseIsPower = (x : ℕ) → x < 256 → inverse x ≡ byte_power x 254

-- products of bytes in the standard (FIPS 197, 4.2 and 4.2.1)
pub record ByteProducts : Type 0 where
  pub of_57_and_83 : multiply 0x57 0x83 ≡ 0xc1
  pub of_57_and_13 : multiply 0x57 0x13 ≡ 0xfe

-- the polynomials below x ^ 128 are a commutative ring with one
pub record IsBlockRing : Type 0 where
  pub commutative : Commutative field_product
  pub associative : Associative field_product
  pub distributive : Distributive field_product add
  pub has_one : IsOne IsBlock field_product field_one

-- the modulus of blocks is the block that the standard calls R (SP 800-38D, 6.3)
abbrev pub BlockModulusIsR : Type 0
BlockModulusIsR = bytes_of 16 block_modulus ≡ 0xe1 ∷ replicate 15 0

-- GHASH goes block by block: a further one is added to the sum so far, and all is multiplied by h (SP 800-38D, 6.4)
pub record HashGoesByBlocks : Type 0 where
  pub start : (h : List Bool) → power_sum h [] ≡ replicate 128 false
  pub next : (h b : List Bool) (blocks : List (List Bool)) → length h ≡ 128 → length b ≡ 128
      → power_sum h (blocks ++ b ∷ []) ≡ field_product (add (power_sum h blocks) b) h

-- r is the remainder of p modulo x ^ n + low, where low has n coefficients: it has n too, and p less r is a multiple
pub record IsRemainder (low p r : List Bool) : Type 0 where
  pub short : length r ≡ length low
  pub rest : (q : List Bool)
      × ((k : ℕ) → coefficient p k ≡ plus (coefficient r k) (coefficient (product q (low ++ true ∷ [])) k))

-- `remainder` is the remainder
abbrev pub RemainderIsRemainder : Type 0
RemainderIsRemainder = (low p : List Bool) → 0 < length low → IsRemainder low p (remainder low p)

-- values of the S-box in the standard's table (FIPS 197, figure 7)
pub record SBoxValues : Type 0 where
  pub at_00 : s_box 0x00 ≡ 0x63
  pub at_01 : s_box 0x01 ≡ 0x7c
  pub at_53 : s_box 0x53 ≡ 0xed
  pub at_ff : s_box 0xff ≡ 0x16

-- what a sealed text opens to: its text where it has a tag, the right one, and nothing otherwise
pub record UnsealAnswers (key nonce aad sealed : List ℕ) : Type 0 where
  pub short : length sealed < 16 → unseal key nonce aad sealed ≡ None
  pub other_tag : tag_of sealed ≢ tag key nonce aad (ciphertext_of sealed) → unseal key nonce aad sealed ≡ None
  pub same_tag : 16 ≤ length sealed → tag_of sealed ≡ tag key nonce aad (ciphertext_of sealed)
      → unseal key nonce aad sealed ≡ Some (encrypted key nonce (ciphertext_of sealed))

-- so it is for all keys, nonces, additional data and sealed texts
abbrev pub UnsealAnswersAll : Type 0
UnsealAnswersAll = (key nonce aad sealed : List ℕ) → UnsealAnswers key nonce aad sealed

-- opening a sealed text gives the text
abbrev pub UnsealGivesText : Type 0
UnsealGivesText = (key nonce aad text : List ℕ) → unseal key nonce aad (seal key nonce aad text) ≡ Some text

-- so does a sealed text that begins with its nonce of 12 bytes
abbrev pub SealedTextsOpen : Type 0
SealedTextsOpen = (key nonce text : List ℕ) → length nonce ≡ 12 → unsealed key (sealed_text key nonce text) ≡ Some text

-- and what opens was sealed: from that text, under that key and nonce, with that additional data
abbrev pub OnlySealedOpens : Type 0
OnlySealedOpens =
    (key nonce aad sealed text : List ℕ) → unseal key nonce aad sealed ≡ Some text → sealed ≡ seal key nonce aad text
