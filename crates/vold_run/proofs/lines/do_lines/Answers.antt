use Rattle.std.proofs.Common.{get_or, take, sym, subst, arith}
use Rattle.std.specs.Prelude.{None}
use Rattle.vold_book.specs.State.{senses}
use Rattle.vold_run.specs.Lines.{IsLineDone, IsReadyFor, last_of}
use Rattle.vold_run.proofs.Placed.{ready-for, follows, no-lines, next-line, few-more}
use Rattle.vold_run.proofs.lines.do_lines.Goals as goal

pub do_line-requires-clause-ready : goal.do_line-requires-clause-ready
do_line-requires-clause-ready g c =
    let lines = c.args.lines.now in
    let i = c.loop-line.line-index in
    subst (λ line. IsReadyFor line c.loop-line.book.tracker.phase) (sym c.line-item.is)
    (ready-for (last_of None (take i lines)) (get_or lines i c.line-item.result) c.loop-line.book.tracker.phase
    (follows None lines i c.line-item.result c.loop-line-test.true c.requires.order) c.loop-line.invariant.done.still)

pub loop-line-init : goal.loop-line-init
loop-line-init g c =
    let seeing =
    senses g.T.TreeDisk.disk g.T.TreeDisk.counts g.B.Keystore.store g.B.Keystore.counts g.G.KeyRing.ring
    g.G.KeyRing.counts in
    record {
      done = no-lines seeing None c.args.book.now c.requires.still c.requires.between;
      few = omega arith;
    }

pub loop-line-preserved : goal.loop-line-preserved
loop-line-preserved g c =
    let seeing =
    senses g.T.TreeDisk.disk g.T.TreeDisk.counts g.B.Keystore.store g.B.Keystore.counts g.G.KeyRing.ring
    g.G.KeyRing.counts in
    let lines = c.args.lines.now in
    let before = c.loop-line.book in
    let after = c.do_line.new.book in
    let done = subst (λ line. IsLineDone seeing line before after) c.line-item.is
    c.in_ok-do_line.ensures.done in
    record {
      done =
          next-line seeing None lines c.loop-line.line-index c.line-item.result
          c.args.book.now before after c.loop-line-test.true c.loop-line.invariant.done done;
      few =
          let one = few-more seeing c.line-item.result before after
          c.in_ok-do_line.ensures.done in let few = c.loop-line.invariant.few in omega (arith, one, few);
    }
