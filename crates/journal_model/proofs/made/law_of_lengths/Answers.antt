use Rattle.journal_model.specs.Made.{made, key_of, nonce_of, discardable_of, boot_seed_of}
use Rattle.journal_model.specs.Made.{stream_number, key_place, nonce_place, discardable_place}
use Rattle.journal_model.proofs.Streams.{length-stream_bytes}
use Rattle.journal_model.proofs.made.law_of_lengths.Goals as goal

pub returns : goal.returns
unfolding made key_of nonce_of discardable_of
returns c seed class user birth =
    let boot_seed = boot_seed_of seed birth.boot in let stream = stream_number user birth.index in
    record {
      key = length-stream_bytes boot_seed stream (key_place class) 16;
      nonce = length-stream_bytes boot_seed stream (nonce_place class) 3;
      discardable = length-stream_bytes boot_seed stream (discardable_place class) 4096;
    }
