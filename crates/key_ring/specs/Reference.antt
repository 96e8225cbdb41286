-- The name by which a file system finds a key.
use Rattle.std.specs.Prelude.{ℕ, List, take}
use Rattle.sha2.specs.Sha512.{sha512}

-- the first 8 bytes of the hash of the key's hash
abbrev pub key_ref : List ℕ → List ℕ
key_ref key = take 8 (sha512 (sha512 key))
