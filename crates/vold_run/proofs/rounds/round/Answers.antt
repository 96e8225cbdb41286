use Rattle.std.proofs.Common.{rules, arith, sym, subst, ◌<◌}
use Rattle.std.specs.Prelude.{Some}
use Rattle.vold_book.specs.Whole.{turns_left}
use Rattle.vold_book.specs.State.{seen, senses}
use Rattle.vold_run.specs.Fits.{history_of}
use Rattle.vold_run.proofs.Kept.{turn-kept, kept-joined}
use Rattle.vold_run.proofs.Turned.{RoundGoes, went, went-falls, waited, all-wait}
use Rattle.vold_run.proofs.Turned.{round-begins, round-goes, round-ends, round-waits}
use Rattle.vold_run.proofs.rounds.round.Goals as goal

pub returns-in_default : goal.returns-in_default
returns-in_default g c =
    let seeing =
    senses g.T.TreeDisk.disk g.T.TreeDisk.counts g.B.Keystore.store g.B.Keystore.counts g.G.KeyRing.ring
    g.G.KeyRing.counts in
    let before = c.args.book.now in
    let after = c.advance.new.self in
    let turn = c.in_ok-advance.field-0 in
    let answers = c.in_ok-advance.ensures.turn in
    record {
      ended =
          all-wait seeing before after c.args.first turn c.in_default.not-Went
          c.requires.first answers;
      kept =
          turn-kept seeing before after c.args.first turn c.requires.between answers
          c.in_ok-advance.ensures.whole;
      whole = search rules;
    }

pub loop-next-init : goal.loop-next-init
loop-next-init g c =
    let seeing =
    senses g.T.TreeDisk.disk g.T.TreeDisk.counts g.B.Keystore.store g.B.Keystore.counts g.G.KeyRing.ring
    g.G.KeyRing.counts in
    let before = c.args.book.now in
    let after = c.advance.new.self in
    let turn = c.in_ok-advance.field-0 in
    let answers = c.in_ok-advance.ensures.turn in
    let goes = went seeing before after c.args.first turn c.in-Went.is answers in
    record {
      falls = went-falls seeing before after turn c.in-Went.is c.in_ok-advance.ensures.falls;
      kept =
          turn-kept seeing before after c.args.first turn c.requires.between answers
          c.in_ok-advance.ensures.whole;
      goes =
          round-begins seeing before after c.args.first c.next_busy-next.result c.requires.between
          c.requires.first goes c.next_busy-next.ensures.busy;
    }

pub returns-in_default-2 : goal.returns-in_default-2
returns-in_default-2 g c =
    let seeing =
    senses g.T.TreeDisk.disk g.T.TreeDisk.counts g.B.Keystore.store g.B.Keystore.counts g.G.KeyRing.ring
    g.G.KeyRing.counts in
    let start = c.args.book.now in
    let before = c.loop-next.book in
    let after = c.advance-in-Some.new.self in
    let turn = c.in_ok-advance-2.field-0 in
    let answers = c.in_ok-advance-2.ensures.turn in
    let kept = c.loop-next.invariant.kept in
    let going : RoundGoes (history_of start) before (Some c.in-Some.actor) =
    subst (RoundGoes (history_of start) before) c.in-Some.is c.loop-next.invariant.goes in
    record {
      ended = (
        round-waits seeing
            (history_of start) before after c.in-Some.actor turn c.in_default-2.not-Went going kept.between answers,
        subst (λ book. turns_left (seen seeing book) < turns_left (seen seeing start))
            (sym (waited seeing before after c.in-Some.actor turn c.in_default-2.not-Went going.coming.0
            answers).1) c.loop-next.invariant.falls,
      );
      kept =
          kept-joined seeing start before after kept
          (turn-kept seeing before after c.in-Some.actor turn kept.between answers
          c.in_ok-advance-2.ensures.whole);
      whole = search rules;
    }

pub loop-next-preserved : goal.loop-next-preserved
loop-next-preserved g c =
    let seeing =
    senses g.T.TreeDisk.disk g.T.TreeDisk.counts g.B.Keystore.store g.B.Keystore.counts g.G.KeyRing.ring
    g.G.KeyRing.counts in
    let start = c.args.book.now in
    let before = c.loop-next.book in
    let after = c.advance-in-Some.new.self in
    let turn = c.in_ok-advance-2.field-0 in
    let answers = c.in_ok-advance-2.ensures.turn in
    let kept = c.loop-next.invariant.kept in
    let going : RoundGoes (history_of start) before (Some c.in-Some.actor) =
    subst (RoundGoes (history_of start) before) c.in-Some.is c.loop-next.invariant.goes in
    let goes = went seeing before after c.in-Some.actor turn c.in-Went-2.is answers in
    record {
      falls =
          let less = went-falls seeing before after turn c.in-Went-2.is c.in_ok-advance-2.ensures.falls in
          let already = c.loop-next.invariant.falls in omega (arith, less, already);
      kept =
          kept-joined seeing start before after kept
          (turn-kept seeing before after c.in-Some.actor turn kept.between answers
          c.in_ok-advance-2.ensures.whole);
      goes =
          round-goes seeing (history_of start) before after c.in-Some.actor c.next_busy-next-in-Some.result going
          kept.between goes c.next_busy-next-in-Some.ensures.busy;
    }

pub returns-clause-ended : goal.returns-clause-ended
returns-clause-ended g c =
    let seeing =
    senses g.T.TreeDisk.disk g.T.TreeDisk.counts g.B.Keystore.store g.B.Keystore.counts g.G.KeyRing.ring
    g.G.KeyRing.counts in
    let going = subst
    (RoundGoes (history_of c.args.book.now) c.loop-next.book) c.in_default-next.is c.loop-next.invariant.goes in (
      round-ends seeing (history_of c.args.book.now) c.loop-next.book going
          c.loop-next.invariant.kept.between,
      c.loop-next.invariant.falls,
    )
