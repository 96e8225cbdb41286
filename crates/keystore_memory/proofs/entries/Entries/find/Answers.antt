use Rattle.std.proofs.Common.{ap, ◌∙◌}
use Rattle.keystore_model.specs.Store.{entry_of}
use Rattle.keystore_memory.proofs.Rows.{found-row, found-none}
use Rattle.keystore_memory.proofs.entries.Entries.find.Goals as goal

pub returns-in-Some : goal.returns-in-Some
returns-in-Some c = c.get.ensures ∙ found-row c.self.invariant c.args.blob c.in-Some.number c.in-Some.ensures.found
    ∙ ap (λ shelf. entry_of shelf.store.entries c.args.blob) c.self.view_is

pub returns-in-None : goal.returns-in-None
returns-in-None c = found-none c.self.invariant c.args.blob c.in-None.ensures.none
    ∙ ap (λ shelf. entry_of shelf.store.entries c.args.blob) c.self.view_is
