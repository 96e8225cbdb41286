use Rattle.std.proofs.Common.{sym, ◌∙◌}
use Rattle.vold_run.proofs.Rows.{level-there, row-more, all-rows}
use Rattle.vold_run.proofs.output.rows_of.Goals as goal

pub unreachable-requires : goal.unreachable-requires
unreachable-requires g c =
    level-there (g.B.Keystore.store c.args.store.now) c.requires.whole c.args.entries.now c.requires.listed
    c.loop-blob.blob-index c.loop-blob-item.result c.loop-blob-item.is c.loop-blob-test.true
    (sym c.level_of.ensures.level ∙ c.in_default.is)

pub loop-blob-preserved : goal.loop-blob-preserved
loop-blob-preserved g c =
    row-more (g.B.Keystore.store c.args.store.now) c.requires.whole c.args.entries.now c.requires.listed
    c.loop-blob.blob-index c.loop-blob-item.result c.loop-blob-item.is c.loop-blob-test.true c.in-Some.level
    (sym c.level_of.ensures.level ∙ c.in-Some.is) c.loop-blob.rows.items c.push.new.self.items
    c.loop-blob.invariant c.in_ok-push.ensures.items

pub returns : goal.returns
returns g c =
    all-rows (g.B.Keystore.store c.args.store.now) c.args.entries.now c.loop-blob.blob-index c.loop-blob.rows.items
    c.requires.listed c.loop-blob-test.false c.loop-blob.invariant
