use Rattle.std.proofs.Common.{◌≡◌, ◌∙◌, ◌+◌, ◌*◌, ◌%◌, ◌^◌, length, arith}
use Rattle.rand_chacha.specs.ChaCha.{key_of as cipher_key}
use Rattle.journal_model.specs.Made.{stream_number, generator_at}
use Rattle.journal_model.proofs.Streams.{bytes-filled}
use Rattle.journal_model.proofs.made.fill.Goals as goal

pub returns : goal.returns
unfolding stream_number
returns c words whole bound =
    let seed = c.args.boot_seed.now in
    let number = stream_number c.args.user c.args.index in
    let streamed : c.set_stream.new.self ≡ record { key = cipher_key seed; stream = number; word_pos = 0 } =
    c.set_stream.ensures
    ∙ (λ j. record
    (c.from_seed-generator.ensures j) { stream = c.from.ensures j * 2 ^ 32 + c.from-2.ensures j }) in
    let place : c.from-3.result % 2 ^ 68 ≡ c.args.place = omega arith in
    let there : c.set_word_pos.new.self ≡ generator_at seed number c.args.place = c.set_word_pos.ensures
    ∙ (λ j. record (streamed j) { word_pos = place j }) in
    bytes-filled seed number c.args.place words (length c.args.bytes.now) c.set_word_pos.new.self c.fill_bytes.new.dst
    _ there whole (omega arith) c.fill_bytes.ensures
