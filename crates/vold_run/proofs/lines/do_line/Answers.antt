use Rattle.std.proofs.Common.{refl, sym, ap, ◌∙◌, subst}
use Rattle.std.specs.Prelude.{OnOk}
use Rattle.script_text.specs.declared.script.Line.TheVariants.{Do, Stop}
use Rattle.script_text.specs.Script.{IsLine}
use Rattle.vold_book.specs.State.{senses}
use Rattle.vold_run.specs.Lines.{IsLineDone, IsReadyFor}
use Rattle.vold_run.proofs.LineDone.{seed-done, given-done, stopped-done, begun-done}
use Rattle.vold_run.proofs.lines.do_line.Goals as goal

pub returns-in-Seed-clause-done : goal.returns-in-Seed-clause-done
returns-in-Seed-clause-done g c =
    let seeing =
    senses g.T.TreeDisk.disk g.T.TreeDisk.counts g.B.Keystore.store g.B.Keystore.counts g.G.KeyRing.ring
    g.G.KeyRing.counts in
    let before = c.args.book.now in
    subst (λ line. IsLineDone seeing line before before) (sym c.in-Seed.is)
    (seed-done seeing before before c.requires.between c.in-Seed.field-0
    (subst (λ line. IsReadyFor line before.tracker.phase) c.in-Seed.is c.requires.ready) refl)

pub returns-in_ok-duplicate-in-Stop-clause-done : goal.returns-in_ok-duplicate-in-Stop-clause-done
returns-in_ok-duplicate-in-Stop-clause-done g c =
    let seeing =
    senses g.T.TreeDisk.disk g.T.TreeDisk.counts g.B.Keystore.store g.B.Keystore.counts g.G.KeyRing.ring
    g.G.KeyRing.counts in
    let before = c.args.book.now in
    let after = c.stop.new.self in
    let is = c.in-Stop.is ∙ ap (λ cut. Stop cut) (sym c.in_ok-duplicate-in-Stop.ensures) in
    subst (λ line. OnOk c.stop.result (IsLineDone seeing line before after)) (sym is)
    (stopped-done seeing before after c.requires.between c.in_ok-duplicate-in-Stop.field-0 c.stop.ensures.whole
    c.stop.result c.stop.ensures.stopped)

pub returns-in_ok-duplicate-in-Do-clause-done : goal.returns-in_ok-duplicate-in-Do-clause-done
returns-in_ok-duplicate-in-Do-clause-done g c =
    let seeing =
    senses g.T.TreeDisk.disk g.T.TreeDisk.counts g.B.Keystore.store g.B.Keystore.counts g.G.KeyRing.ring
    g.G.KeyRing.counts in
    let before = c.args.book.now in
    let after = c.enqueue.new.self in
    let is = c.in-Do.is ∙ ap (λ command. Do command) (sym c.in_ok-duplicate-in-Do.ensures) in
    subst (λ line. OnOk c.numbered.result (IsLineDone seeing line before after))
    (sym is)
    (given-done seeing before after c.requires.between c.in_ok-duplicate-in-Do.field-0
    (subst IsLine is c.requires.line) (subst (λ line. IsReadyFor line before.tracker.phase) is c.requires.ready)
    c.enqueue.ensures.whole c.enqueue.result c.enqueue.ensures.answer c.numbered.result c.numbered.ensures.given)

pub returns-in-Restart-clause-done : goal.returns-in-Restart-clause-done
returns-in-Restart-clause-done g c =
    let seeing =
    senses g.T.TreeDisk.disk g.T.TreeDisk.counts g.B.Keystore.store g.B.Keystore.counts g.G.KeyRing.ring
    g.G.KeyRing.counts in
    let before = c.args.book.now in
    let after = c.restart.new.self in
    subst (λ line. OnOk c.numbered-in-Restart.result
    (IsLineDone seeing line before after)) (sym c.in-Restart.is)
    (begun-done seeing before after c.requires.between c.in-Restart.level
    (subst IsLine c.in-Restart.is c.requires.line) c.restart.ensures.whole c.restart.result c.restart.ensures.restarted
    c.numbered-in-Restart.result c.numbered-in-Restart.ensures.given)
