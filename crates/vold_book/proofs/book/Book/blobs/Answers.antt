use Rattle.vold_book.proofs.Looked.{looked-whole}
use Rattle.vold_book.proofs.book.Book.blobs.Goals as goal

pub invariant_of-self : goal.invariant_of-self
invariant_of-self g c = looked-whole _ c.self.invariant (g.K.Keystore.store c.list.new.self)
    (g.K.Keystore.counts c.list.new.self) c.list.ensures.same c.list.ensures.counted.never_falls

pub returns-clause-whole : goal.returns-clause-whole
returns-clause-whole g c = invariant_of-self g c
