-- Sealed keys: texts of 64 bytes, sealed under a wrapping key.
use Rattle.std.specs.Prelude.{◌≡◌, ℕ, ◌==◌, if◌then◌else◌, List, length, Option, Some, None, option_and_then}
use Rattle.seal_model.specs.Sealed.{sealed_text, unsealed}

abbrev pub key_of : List ℕ → Option (List ℕ)
key_of text = if length text == 64 then Some text else None

-- the key that a wrapping key opens a sealed key to: a text of 64 bytes
abbrev pub unsealed_key : List ℕ → List ℕ → Option (List ℕ)
unsealed_key wrap sealed = option_and_then key_of (unsealed wrap sealed)

-- a sealed key of 64 bytes has 92, and its wrapping key opens it
pub record SealedKeysOpen : Type 0 where
  pub long : (wrap nonce key : List ℕ) → length nonce ≡ 12 → length key ≡ 64
      → length (sealed_text wrap nonce key) ≡ 92
  pub opens : (wrap nonce key : List ℕ) → length nonce ≡ 12 → length key ≡ 64
      → unsealed_key wrap (sealed_text wrap nonce key) ≡ Some key
