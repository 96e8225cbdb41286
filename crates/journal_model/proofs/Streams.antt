-- What a generator at a place of a stream of ChaCha20 fills in, and how long made bytes are.
use Rattle.std.proofs.Common.{◌≡◌, ℕ, zero, suc, ◌+◌, ◌*◌, ◌/◌, ◌%◌, ◌^◌, ◌<◌, ◌≤◌, List, [], ◌++◌, length, take}
use Rattle.std.proofs.Common.{refl, ap, sym, ◌∙◌, arith, length-append, lit≤, add-zero, append-nil, append_assoc}
use Rattle.std.proofs.lemmas.List.{take_all}
use Rattle.std.specs.Int.{w32, to_le_bytes}
use Rattle.rand_core.specs.Stream.{Stream, fill_bytes}
use Rattle.rand_core.specs.Steps.{word_bytes, fill_via_u32, steps_u32, stream_of}
use Rattle.rand_chacha.specs.ChaCha.{ChaCha, word_at, next_word, key_of as cipher_key}
use Rattle.tree_model.specs.declared.places.Class.{Class}
use Rattle.tree_model.specs.declared.places.Class.TheVariants.{De, Ce}
use Rattle.journal_model.specs.Made.{generator_at, stream_bytes, key_place, nonce_place, discardable_place}

-- four bytes a word
pub length-stream_bytes : (key : List ℕ) (stream place words : ℕ)
    → length (stream_bytes key stream place words) ≡ 4 * words
unfolding stream_bytes
length-stream_bytes key stream place zero = refl
length-stream_bytes key stream place (suc words) =
    let before : length (stream_bytes key stream place words) ≡ 4 * words =
    length-stream_bytes key stream place words in
    let word : length (to_le_bytes w32 (word_at 10 (cipher_key key) stream (place + words))) ≡ 4 = refl in
    rw length-append (omega (arith, before, word))

-- a stretch of words, and the one after it
pub stream_bytes-append : (key : List ℕ) (stream place words more : ℕ)
    → stream_bytes key stream place (words + more)
    ≡ stream_bytes key stream place words ++ stream_bytes key stream (place + words) more
unfolding stream_bytes
stream_bytes-append key stream place words zero = rw add-zero (sym (append-nil _))
stream_bytes-append key stream place words (suc more) =
    let bytes_at : ℕ → List ℕ = λ at. to_le_bytes w32 (word_at 10 (cipher_key key) stream at) in
    let longer : words + suc more ≡ suc (words + more) = omega arith in
    let at : place + (words + more) ≡ place + words + more = omega arith in
    ap (stream_bytes key stream place) longer
    ∙ (λ j. stream_bytes-append key stream place words more j ++ bytes_at (at j))
    ∙ append_assoc (stream_bytes key stream place words) (stream_bytes key stream (place + words) more)
    (bytes_at (place + words + more))

-- so many words of a generator are those of the stream from its place on, and then it is so many further
words-of_generator : (key : List ℕ) (stream place words : ℕ) → place + words < 2 ^ 68
    → word_bytes (to_le_bytes w32) (next_word 10) words (generator_at key stream place)
    ≡ (stream_bytes key stream place words, generator_at key stream (place + words))
unfolding stream_bytes word_bytes
words-of_generator key stream place zero bound =
    let same : place ≡ place + 0 = omega arith in ap (λ (at : ℕ). ([], generator_at key stream at)) same
words-of_generator key stream place (suc words) bound =
    let moved : (place + words + 1) % 2 ^ 68 ≡ place + suc words = omega arith in
    ap (λ (so_far : List ℕ × ChaCha). (
      so_far.0 ++ to_le_bytes w32 (next_word 10 so_far.1).0,
      (next_word 10 so_far.1).1,
    )) (words-of_generator key stream place words (omega arith))
    ∙ ap (λ (at : ℕ). (
      stream_bytes key stream place words ++ to_le_bytes w32 (word_at 10 (cipher_key key) stream (place + words)),
      generator_at key stream at,
    )) moved

-- whole words, as a generator fills them in, are those of the stream from its place on
words-filled : (key : List ℕ) (stream place words count : ℕ) → count ≡ 4 * words → place + words < 2 ^ 68
    → (fill_via_u32 (next_word 10) count (generator_at key stream place)).0 ≡ stream_bytes key stream place words
words-filled key stream place words count e bound =
    let whole : (count + 3) / 4 ≡ words = omega arith in
    ap (λ (n : ℕ). take count (word_bytes (to_le_bytes w32) (next_word 10) n (generator_at key stream place)).0) whole
    ∙ ap (λ (so_far : List ℕ × ChaCha). take count so_far.0) (words-of_generator key stream place words bound)
    ∙ take_all count (stream_bytes key stream place words) (omega (arith, length-stream_bytes key stream place words))

-- so are the bytes that a generator there gave
pub bytes-filled : (key : List ℕ) (stream place words count : ℕ) (generator : ChaCha) (bytes : List ℕ) (left : Stream)
    → generator ≡ generator_at key stream place
    → count ≡ 4 * words → place + words < 2 ^ 68
    → (bytes, left) ≡ fill_bytes count (stream_of (steps_u32 (next_word 10)) generator)
    → bytes ≡ stream_bytes key stream place words
unfolding fill_bytes stream_of
bytes-filled key stream place words count generator bytes left there whole bound gave =
    ap (λ (answer : List ℕ × Stream). answer.0) gave
    ∙ ap (λ (state : ChaCha). (fill_via_u32 (next_word 10) count state).0) there
    ∙ words-filled key stream place words count whole bound

-- each key, nonce and discardable file lies within the words that a stream is used to
pub key-within : (class : Class) → key_place class + 16 ≤ 8256
key-within De = lit≤ tt
key-within Ce = lit≤ tt

pub nonce-within : (class : Class) → nonce_place class + 3 ≤ 8256
nonce-within De = lit≤ tt
nonce-within Ce = lit≤ tt

pub discardable-within : (class : Class) → discardable_place class + 4096 ≤ 8256
discardable-within De = lit≤ tt
discardable-within Ce = lit≤ tt
