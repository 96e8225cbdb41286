use Rattle.std.proofs.Common.{◌∙◌, refl, ap, arith}
use Rattle.journal_model.specs.Made.{stream_bytes, stream_number}
use Rattle.journal_model.proofs.Streams.{key-within}
use Rattle.journal_model.proofs.made.made_key.Goals as goal

pub returns : goal.returns
returns c =
    c.fill.ensures 16 refl (omega (arith, c.key_place.ensures, key-within c.args.class))
    ∙ ap (λ place. stream_bytes c.args.boot_seed.now (stream_number c.args.user c.args.index) place 16)
    c.key_place.ensures
