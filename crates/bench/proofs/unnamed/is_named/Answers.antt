use Rattle.std.proofs.Common.{◌∙◌}
use Rattle.bench.proofs.Named.{searched-among}
use Rattle.bench.proofs.unnamed.is_named.Goals as goal

pub returns : goal.returns
returns c = c.is_ok.ensures.value
    ∙ searched-among c.args.named.now c.args.blob c.binary_search.result c.requires c.binary_search.ensures.bound
    c.binary_search.ensures.position
