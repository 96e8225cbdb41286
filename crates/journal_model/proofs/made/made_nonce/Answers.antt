use Rattle.std.proofs.Common.{◌∙◌, refl, ap, arith}
use Rattle.journal_model.specs.Made.{stream_bytes, stream_number}
use Rattle.journal_model.proofs.Streams.{nonce-within}
use Rattle.journal_model.proofs.made.made_nonce.Goals as goal

pub returns : goal.returns
returns c =
    c.fill.ensures 3 refl (omega (arith, c.nonce_place.ensures, nonce-within c.args.class))
    ∙ ap (λ place. stream_bytes c.args.boot_seed.now (stream_number c.args.user c.args.index) place 3)
    c.nonce_place.ensures
