use Rattle.std.proofs.Common.{◌≡◌, ◌<◌, ◌≤◌, ◌++◌, ◌∙◌, take, drop, length, get_or, sym, ap, subst, rules}
use Rattle.std.proofs.lemmas.List.Edits.{map_over_more}
use Rattle.std.proofs.lemmas.List.{with_items_is}
use Rattle.deferred_delete.specs.Deferral.{IsKept, noted, now_synced}
use Rattle.deferred_delete.proofs.Noted.{noted-all, kept-noted}
use Rattle.deferred_delete.proofs.deferred.Deferred.note_sync.Goals as goal

pub loop-item-preserved : goal.loop-item-preserved
loop-item-preserved c =
    let i = c.loop-item.item-index in
    let items = c.loop-item.item-items in
    let within : i < length c.args.self.now.items = search rules in
    map_over_more now_synced c.args.self.now.items items i _ within c.loop-item.invariant
    (ap (get_or items i) c.item-item.is)

pub invariant_of-self : goal.invariant_of-self
invariant_of-self c =
    let i = c.loop-item.item-index in
    let items = c.self.inside.items.items in
    let all : length items ≤ i = search rules in
    let noted_all : c.loop-item.item-items ≡ noted items = c.loop-item.invariant
    ∙ ap (λ list. noted (take i list.items) ++ drop i list.items) (sym c.self.view_is)
    ∙ noted-all items _ all in
    let same : length c.loop-item.item-items ≡ c.self.inside.items.len = search rules in
    subst (λ list. IsKept list c.self.inside.next c.self.inside.promised c.self.inside.items.cap)
    (sym (with_items_is c.self.inside.items _ same ∙ noted_all)) (kept-noted c.self.invariant)
