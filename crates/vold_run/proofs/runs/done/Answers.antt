use Rattle.std.proofs.lemmas.Result.{IfOk-weaker}
use Rattle.vold_book.specs.State.{senses}
use Rattle.vold_run.proofs.Done.{shown_is_done, fresh-between}
use Rattle.vold_run.proofs.runs.done.Goals as goal

pub do_lines-requires-clause-between : goal.do_lines-requires-clause-between
do_lines-requires-clause-between g c =
    let seeing =
    senses g.T.TreeDisk.disk g.T.TreeDisk.counts g.B.Keystore.store g.B.Keystore.counts g.G.KeyRing.ring
    g.G.KeyRing.counts in
    fresh-between seeing c.args.book.now c.args.lines.now
    c.requires.whole c.requires.fresh

pub returns-clause-done : goal.returns-clause-done
returns-clause-done g c =
    let seeing =
    senses g.T.TreeDisk.disk g.T.TreeDisk.counts g.B.Keystore.store g.B.Keystore.counts g.G.KeyRing.ring
    g.G.KeyRing.counts in
    IfOk-weaker c.show.result _ _
    (shown_is_done seeing c.args.book.now c.args.lines.now c.do_lines.new.book
    c.show.new.book c.requires.fresh c.in_ok-do_lines.ensures.done c.show.ensures.whole c.show.ensures.looked)
    c.show.ensures.shown
