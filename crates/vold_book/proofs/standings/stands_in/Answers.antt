use Rattle.std.proofs.Common.{ap, ◌∙◌, arith}
use Rattle.vold_book.specs.Stands.{stands_after}
use Rattle.vold_book.proofs.Entered.{stands_in-more}
use Rattle.vold_book.proofs.standings.stands_in.Goals as goal

pub loop-entry-preserved : goal.loop-entry-preserved
loop-entry-preserved c =
    stands_in-more c.args.entries.now c.loop-entry.entry-index c.entry-item.result c.args.number
    c.loop-entry.standing _
    (omega arith)
    (c.stands_after-standing.ensures
    ∙ ap (stands_after c.loop-entry.standing c.args.number) c.entry-item.is)
    c.loop-entry.invariant
