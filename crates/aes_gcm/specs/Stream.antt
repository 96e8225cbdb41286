-- A text to which the key stream is being added, block by block.
use Rattle.std.specs.Prelude.{ℕ, ◌*◌, List, ◌++◌, take, drop}
use Rattle.seal_model.specs.Bytes.{xor_bytes}
use Rattle.seal_model.specs.Gcm.{key_stream}

-- a text with the first n blocks of the key stream added
abbrev pub partly_encrypted : List ℕ → List ℕ → List ℕ → ℕ → List ℕ
partly_encrypted key nonce text n = xor_bytes (take (16 * n) text) (key_stream key nonce n) ++ drop (16 * n) text

-- a text with a block of bytes added to its block i, from 0, or to as much of that as there is
abbrev pub with_block_added : List ℕ → ℕ → List ℕ → List ℕ
with_block_added text i stream =
    take (16 * i) text ++ (xor_bytes (drop (16 * i) text) stream ++ drop 16 (drop (16 * i) text))
