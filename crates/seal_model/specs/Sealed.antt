-- Sealed texts: a nonce of 12 bytes, then the ciphertext and its tag by GCM (SP 800-38D) with no additional data.
use Rattle.std.specs.Prelude.{ℕ, List, [], ◌++◌, take, drop, Option}
use Rattle.seal_model.specs.Gcm.{seal, unseal}

-- a text sealed under a key
unfoldable pub sealed_text : List ℕ → List ℕ → List ℕ → List ℕ
sealed_text key nonce text = nonce ++ seal key nonce [] text

-- the text of a sealed text, if any
unfoldable pub unsealed : List ℕ → List ℕ → Option (List ℕ)
unsealed key sealed = unseal key (take 12 sealed) [] (drop 12 sealed)
