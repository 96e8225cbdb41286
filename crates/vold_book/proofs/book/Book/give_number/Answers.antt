use Rattle.std.proofs.Common.{◌<◌, length, subst, sym}
use Rattle.vold_book.specs.Recovery.{max_commands}
use Rattle.vold_book.specs.State.{senses}
use Rattle.vold_book.proofs.Machines.{enqueued-whole}
use Rattle.vold_book.proofs.book.Book.give_number.Goals as goal

pub invariant_of-self : goal.invariant_of-self
invariant_of-self g c =
    enqueued-whole
    (senses g.T.TreeDisk.disk g.T.TreeDisk.counts g.K.Keystore.store g.K.Keystore.counts g.G.KeyRing.ring
    g.G.KeyRing.counts) _ c.self.invariant
    c.args.command c.actor.result _ c.enqueue.result
    (subst (λ b. length b.docket.commands < max_commands) (sym c.self.view_is) c.requires)
    c.actor.ensures c.enqueue.ensures.queued c.enqueue.ensures.refused

pub returns-clause-whole : goal.returns-clause-whole
returns-clause-whole g c = invariant_of-self g c
