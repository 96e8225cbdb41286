-- Hashes behind a prefix, and what they derive: the app id of a directory, and the key of an app id that seals.
use Rattle.std.specs.Prelude.{ℕ, ◌-◌, List, ◌++◌, length, take, replicate, codes}
use Rattle.sha2.specs.Sha512.{sha512}

-- a prefix of at most 128 bytes, filled up with zeros to 128
unfoldable pub padded_prefix : List ℕ → List ℕ
padded_prefix prefix = prefix ++ replicate (128 - length prefix) 0

-- SHA-512 (FIPS 180-4, 6.4) of the padded prefix and the bytes
unfoldable pub prefixed_hash : List ℕ → List ℕ → List ℕ
prefixed_hash prefix bytes = sha512 (padded_prefix prefix ++ bytes)

-- the first half of a hash, as a key of 32 bytes
unfoldable pub half_of : List ℕ → List ℕ
half_of hash = take 32 hash

-- what a directory's key is bound to: the hash of its discardable file, and the secret
unfoldable pub app_id_of : List ℕ → List ℕ → List ℕ
app_id_of discard secret = prefixed_hash (codes "Android secdiscardable SHA512") discard ++ secret

-- the key that seals a directory with a secret
unfoldable pub wrap_key_of : List ℕ → List ℕ
wrap_key_of app_id = half_of (prefixed_hash (codes "Android key wrapping key generation SHA512") app_id)
