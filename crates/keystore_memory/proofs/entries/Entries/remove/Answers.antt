use Rattle.std.proofs.Common.{sym, ap, ◌∙◌, subst}
use Rattle.std.specs.Ordering.{nat_cmp}
use Rattle.sorted_map.specs.Maps.{held}
use Rattle.keystore_model.specs.Store.{entry_of, deleted}
use Rattle.keystore_memory.specs.Kept.{store_of, IsKept}
use Rattle.keystore_memory.proofs.Rows.{found-row, found-none, store-removed, kept-removed, store-unnumbered}
use Rattle.keystore_memory.proofs.entries.Entries.remove.Goals as goal

kept : (c : goal.After-remove) → IsKept (held nat_cmp c.remove.new.self) c.self.inside.next c.self.inside.level
kept c = subst (λ rows. IsKept rows c.self.inside.next c.self.inside.level) (sym c.remove.ensures.held)
    (kept-removed c.self.invariant c.args.blob c.in-Some.number c.in-Some.ensures.found)

pub invariant_of-self : goal.invariant_of-self
invariant_of-self c = kept c

pub returns-in-Some-clause-taken : goal.returns-in-Some-clause-taken
returns-in-Some-clause-taken c = c.remove.ensures.value
    ∙ found-row c.self.invariant c.args.blob c.in-Some.number c.in-Some.ensures.found
    ∙ ap (λ shelf. entry_of shelf.store.entries c.args.blob) c.self.view_is

pub returns-in-Some-clause-removed : goal.returns-in-Some-clause-removed
returns-in-Some-clause-removed c =
    ap (λ rows. store_of rows c.self.inside.next c.self.inside.level) c.remove.ensures.held
    ∙ store-removed c.self.invariant c.args.blob c.in-Some.number c.in-Some.ensures.found
    ∙ ap (λ shelf. deleted shelf.store c.args.blob) c.self.view_is

pub returns-in-Some-clause-whole : goal.returns-in-Some-clause-whole
returns-in-Some-clause-whole c = (kept c).whole

pub returns-in-None-clause-taken : goal.returns-in-None-clause-taken
returns-in-None-clause-taken c = found-none c.self.invariant c.args.blob c.in-None.ensures.none
    ∙ ap (λ shelf. entry_of shelf.store.entries c.args.blob) c.self.view_is

pub returns-in-None-clause-removed : goal.returns-in-None-clause-removed
returns-in-None-clause-removed c = sym (ap (λ shelf. shelf.store) c.self.view_is)
    ∙ store-unnumbered c.self.invariant c.args.blob c.in-None.ensures.none
    ∙ ap (λ shelf. deleted shelf.store c.args.blob) c.self.view_is
