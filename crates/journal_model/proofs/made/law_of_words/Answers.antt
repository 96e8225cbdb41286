use Rattle.std.proofs.Common.{◌++◌, ◌∙◌, ap, List, ℕ}
use Rattle.journal_model.specs.Made.{made, key_of, nonce_of, discardable_of, boot_seed_of, stream_number, stream_bytes}
use Rattle.journal_model.proofs.Streams.{stream_bytes-append}
use Rattle.journal_model.proofs.made.law_of_words.Goals as goal

pub returns : goal.returns
unfolding made key_of nonce_of discardable_of
returns c seed user birth =
    let boot_seed = boot_seed_of seed birth.boot in let stream = stream_number user birth.index in
    let cut = stream_bytes-append boot_seed stream 0 in
    let words = stream_bytes boot_seed stream in
    cut 4160 4096
    ∙ ap (λ (front : List ℕ). front ++ words 4160 4096) (cut 64 4096
    ∙ ap (λ (front : List ℕ). front ++ words 64 4096) (cut 38 26
    ∙ ap (λ (front : List ℕ). front ++ words 38 26) (cut 35 3
    ∙ ap (λ (front : List ℕ). front ++ words 35 3) (cut 32 3
    ∙ ap (λ (front : List ℕ). front ++ words 32 3) (cut 16 16)))))
