use Rattle.std.proofs.Common.{arith, refl}
use Rattle.vold_book.specs.State.{senses}
use Rattle.vold_run.specs.Fits.{history_of}
use Rattle.vold_run.proofs.Kept.{turn-kept, kept-same, kept-joined}
use Rattle.vold_run.proofs.Turned.{turns-more, may-turn}
use Rattle.vold_run.proofs.rounds.turns.Goals as goal

pub loop-init : goal.loop-init
loop-init g c =
    let seeing =
    senses g.T.TreeDisk.disk g.T.TreeDisk.counts g.B.Keystore.store g.B.Keystore.counts g.G.KeyRing.ring
    g.G.KeyRing.counts in
    record { within = omega arith; turns = refl; kept = kept-same seeing c.args.book.now c.requires }

pub loop-preserved : goal.loop-preserved
loop-preserved g c =
    let seeing =
    senses g.T.TreeDisk.disk g.T.TreeDisk.counts g.B.Keystore.store g.B.Keystore.counts g.G.KeyRing.ring
    g.G.KeyRing.counts in
    let before = c.loop.book in
    let after = c.advance.new.self in
    let answers = c.in_ok-advance.ensures.turn in
    let kept = c.loop.invariant.kept in
    record {
      within = grind (arith);
      turns =
          turns-more c.args.actor c.loop.counter (history_of c.args.book.now) (history_of before)
          (history_of after) c.loop.invariant.turns
          (may-turn seeing before after c.args.actor c.in_ok-advance.field-0 kept.between answers);
      kept =
          kept-joined seeing c.args.book.now before after kept
          (turn-kept seeing before after c.args.actor c.in_ok-advance.field-0 kept.between answers
          c.in_ok-advance.ensures.whole);
    }
