use Rattle.std.proofs.Common.{ap, ◌∙◌, ◌++◌, append_assoc, codes}
use Rattle.sha2.specs.Sha512.{sha512}
use Rattle.journal_model.specs.Hashes.{padded_prefix, prefixed_hash, half_of}
use Rattle.journal_model.specs.Made.{boot_seed_of}
use Rattle.journal_model.proofs.made.boot_seed.Goals as goal

pub returns : goal.returns
unfolding boot_seed_of prefixed_hash
returns c =
    let prefix = padded_prefix (codes "vold boot seed") in let seed = c.args.seed.now in
    let held = c.update-2.ensures (prefix ++ seed) (c.update.ensures prefix c.after_prefix-hasher.ensures) in
    c.half.ensures
    ∙ ap half_of (c.finalize.ensures ((prefix ++ seed) ++ c.to_be_bytes-number.result) held
    ∙ ap sha512 (append_assoc prefix seed c.to_be_bytes-number.result
    ∙ ap (λ number. prefix ++ (seed ++ number)) c.to_be_bytes-number.ensures))
