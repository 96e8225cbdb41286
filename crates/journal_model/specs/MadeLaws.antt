-- What made bytes keep: each command has a stream of its own, and no word of a stream serves twice.
use Rattle.std.specs.Prelude.{◌≡◌, ℕ, ◌^◌, ◌<◌, List, ◌++◌, length}
use Rattle.tree_model.specs.declared.places.Class.{Class}
use Rattle.tree_model.specs.declared.places.Class.TheVariants.{De, Ce}
use Rattle.journal_model.specs.declared.entries.Birth.{Birth}
use Rattle.journal_model.specs.Made.{stream_number, made, key_of, nonce_of, discardable_of}

-- commands of one stream are one user's and have one index
abbrev pub StreamsAreApart : Type 0
StreamsAreApart =
    (user other index next : ℕ) → index < 2 ^ 32 → next < 2 ^ 32 → stream_number user index ≡ stream_number other next
    → (user ≡ other) × (index ≡ next)

-- the words of a stream that are used are the two keys, the two nonces, 26 words without use, and the two discardable
-- files
abbrev pub WordsServeOnce : Type 0
WordsServeOnce =
    (seed : List ℕ) (user : ℕ) (birth : Birth) → made seed birth.boot user birth.index 0 8256
    ≡ key_of seed Ce user birth ++ key_of seed De user birth ++ nonce_of seed Ce user birth
    ++ nonce_of seed De user birth
    ++ made seed birth.boot user birth.index 38 26 ++ discardable_of seed Ce user birth
    ++ discardable_of seed De user birth

-- the lengths of a key, a nonce and a discardable file, in bytes
pub record HasLengths (seed : List ℕ) (class : Class) (user : ℕ) (birth : Birth) : Type 0 where
  pub key : length (key_of seed class user birth) ≡ 64
  pub nonce : length (nonce_of seed class user birth) ≡ 12
  pub discardable : length (discardable_of seed class user birth) ≡ 16384

abbrev pub MadeLengths : Type 0
MadeLengths = (seed : List ℕ) (class : Class) (user : ℕ) (birth : Birth) → HasLengths seed class user birth
