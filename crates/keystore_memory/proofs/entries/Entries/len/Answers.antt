use Rattle.std.proofs.Common.{length, sym, ap, ◌∙◌}
use Rattle.std.specs.FinMap as map
use Rattle.std.proofs.lemmas.List.{length-map}
use Rattle.keystore_memory.proofs.entries.Entries.len.Goals as goal

pub returns : goal.returns
returns c =
    c.len.ensures ∙ map.len-entries _ ∙ sym (length-map _ (λ row. row.1))
    ∙ ap (λ shelf. length shelf.store.entries) c.self.view_is
