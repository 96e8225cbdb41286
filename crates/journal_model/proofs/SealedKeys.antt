-- A sealed key's length, and that it opens.
use Rattle.std.proofs.Common.{◌≡◌, ℕ, List, [], length, cond, ap, ◌∙◌, arith, length-append, eq-eqb}
use Rattle.std.specs.Prelude.{Some, None, option_and_then}
use Rattle.seal_model.specs.Gcm.{seal}
use Rattle.seal_model.specs.Sealed.{sealed_text}
use Rattle.seal_model.proofs.Sealing.{length-seal, unsealed-sealed_text}
use Rattle.journal_model.specs.Sealed.{key_of, SealedKeysOpen}

length-sealed : (wrap nonce key : List ℕ) → length nonce ≡ 12 → length key ≡ 64
    → length (sealed_text wrap nonce key) ≡ 92
unfolding sealed_text
length-sealed wrap nonce key twelve sixty_four =
    omega (arith, length-append nonce (seal wrap nonce [] key), length-seal wrap nonce [] key)

key_of-key : (key : List ℕ) → length key ≡ 64 → key_of key ≡ Some key
key_of-key key sixty_four = ap (λ same. cond same (Some key) None) (eq-eqb (length key) 64 sixty_four)

pub sealed_keys_open : SealedKeysOpen
sealed_keys_open = record {
  long = length-sealed;
  opens = λ wrap nonce key twelve sixty_four.
      ap (option_and_then key_of) (unsealed-sealed_text wrap nonce key twelve) ∙ key_of-key key sixty_four;
}
