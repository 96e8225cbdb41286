use Rattle.aes_gcm.proofs.Nibbles.{all_entries}
use Rattle.aes_gcm.proofs.field.multiples.Goals as goal

pub returns : goal.returns
returns c = all_entries c.args.h c.times_x-h1.result c.times_x-h2.result c.times_x-h3.result c.times_x-h1.ensures
    c.times_x-h2.ensures c.times_x-h3.ensures
