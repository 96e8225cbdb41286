use Rattle.std.proofs.Common.{suc, refl, sym, subst}
use Rattle.std.specs.Prelude.{None}
use Rattle.docket.specs.Docket.{IsNextBusy}
use Rattle.vold_book.specs.State.{senses}
use Rattle.vold_run.specs.Fits.{AllFits, history_of}
use Rattle.vold_run.specs.Rounds.{RoundEnds}
use Rattle.vold_run.proofs.Kept.{kept-same, kept-joined}
use Rattle.vold_run.proofs.Turned.{rounds_more, all-ends}
use Rattle.vold_run.proofs.rounds.finish.Goals as goal

pub returns-then-not-branch-clause-fits : goal.returns-then-not-branch-clause-fits
returns-then-not-branch-clause-fits g c =
    let seeing =
    senses g.T.TreeDisk.disk g.T.TreeDisk.counts g.B.Keystore.store g.B.Keystore.counts g.G.KeyRing.ring
    g.G.KeyRing.counts in
    let rounds = c.loop-first.invariant.rounds in
    let ended = subst (RoundEnds seeing c.loop-first.book c.round.new.book) c.if-not-branch.true
    c.in_ok-round.ensures.ended in
    subst (λ book. AllFits (history_of c.args.book.now) (history_of book)) (sym ended.1)
    (all-ends seeing
    (history_of c.args.book.now) c.loop-first.book rounds.0 rounds.1 c.loop-first.invariant.kept.between ended.0)

pub loop-first-init : goal.loop-first-init
loop-first-init g c =
    let seeing =
    senses g.T.TreeDisk.disk g.T.TreeDisk.counts g.B.Keystore.store g.B.Keystore.counts g.G.KeyRing.ring
    g.G.KeyRing.counts in
    record { rounds = (0, refl); kept = kept-same seeing c.args.book.now c.requires }

pub loop-first-preserved : goal.loop-first-preserved
loop-first-preserved g c =
    let seeing =
    senses g.T.TreeDisk.disk g.T.TreeDisk.counts g.B.Keystore.store g.B.Keystore.counts g.G.KeyRing.ring
    g.G.KeyRing.counts in
    let rounds = c.loop-first.invariant.rounds in
    let ended = subst (RoundEnds seeing c.loop-first.book c.round.new.book) c.if-not-branch.false
    c.in_ok-round.ensures.ended in
    record {
      rounds = (
        suc rounds.0,
        rounds_more rounds.0 (history_of c.args.book.now) (history_of c.loop-first.book)
            (history_of c.round.new.book) rounds.1 ended.0,
      );
      kept =
          kept-joined seeing c.args.book.now c.loop-first.book c.round.new.book
          c.loop-first.invariant.kept c.in_ok-round.ensures.kept;
    }

pub returns-clause-fits : goal.returns-clause-fits
returns-clause-fits g c =
    let seeing =
    senses g.T.TreeDisk.disk g.T.TreeDisk.counts g.B.Keystore.store g.B.Keystore.counts g.G.KeyRing.ring
    g.G.KeyRing.counts in
    let rounds = c.loop-first.invariant.rounds in
    let none = subst (IsNextBusy c.loop-first.book.docket None) c.in_default.is c.first_busy.ensures.busy in
    all-ends seeing (history_of c.args.book.now) c.loop-first.book rounds.0 rounds.1
    c.loop-first.invariant.kept.between (λ actor busy. absurd (none actor busy tt))
