-- Bytes made from a script's seed: each command of a user has a stream of ChaCha20 of its own, and this says what its
-- words serve.
use Rattle.std.specs.Prelude.{ℕ, zero, suc, ◌+◌, ◌*◌, ◌^◌, List, [], ◌++◌, codes}
use Rattle.std.specs.Int.{w32, w64, to_be_bytes, to_le_bytes}
use Rattle.rand_chacha.specs.ChaCha.{ChaCha, word_at, key_of as cipher_key}
use Rattle.tree_model.specs.declared.places.Class.{Class}
use Rattle.tree_model.specs.declared.places.Class.TheVariants.{De, Ce}
use Rattle.journal_model.specs.declared.entries.Birth.{Birth}
use Rattle.journal_model.specs.Hashes.{prefixed_hash, half_of}

-- the seed of a boot, from that of the script
unfoldable pub boot_seed_of : List ℕ → ℕ → List ℕ
boot_seed_of seed boot = half_of (prefixed_hash (codes "vold boot seed") (seed ++ to_be_bytes w64 boot))

-- the stream of a user's command, by how many commands the user's actor began before it in the same boot
unfoldable pub stream_number : ℕ → ℕ → ℕ
stream_number user index = user * 2 ^ 32 + index

-- a generator of ChaCha20 that is at a place of a stream
abbrev pub generator_at : List ℕ → ℕ → ℕ → ChaCha
generator_at key stream place = record { key = cipher_key key; stream = stream; word_pos = place }

-- so many words of a stream of ChaCha20 (ten double rounds) from a place on, each the low byte first
unfoldable pub stream_bytes : List ℕ → ℕ → ℕ → ℕ → List ℕ
stream_bytes key stream place zero = []
stream_bytes key stream place (suc words) =
    stream_bytes key stream place words ++ to_le_bytes w32 (word_at 10 (cipher_key key) stream (place + words))

-- so many words from a place on of the command's stream
unfoldable pub made : List ℕ → ℕ → ℕ → ℕ → ℕ → ℕ → List ℕ
made seed boot user index place words = stream_bytes (boot_seed_of seed boot) (stream_number user index) place words

-- where the words of a key of this class are in the stream of the create
abbrev pub key_place : Class → ℕ
key_place Ce = 0
key_place De = 16

-- where the words of the nonce of this class's directory are
abbrev pub nonce_place : Class → ℕ
nonce_place Ce = 32
nonce_place De = 35

-- where the words of the discardable file of this class's directory are
abbrev pub discardable_place : Class → ℕ
discardable_place Ce = 64
discardable_place De = 4160

-- the key of 64 bytes of a user of this birth
unfoldable pub key_of : List ℕ → Class → ℕ → Birth → List ℕ
key_of seed class user birth = made seed birth.boot user birth.index (key_place class) 16

-- the nonce of 12 bytes that seals the key's directory
unfoldable pub nonce_of : List ℕ → Class → ℕ → Birth → List ℕ
nonce_of seed class user birth = made seed birth.boot user birth.index (nonce_place class) 3

-- the discardable file of 16384 bytes in the key's directory
unfoldable pub discardable_of : List ℕ → Class → ℕ → Birth → List ℕ
discardable_of seed class user birth = made seed birth.boot user birth.index (discardable_place class) 4096
