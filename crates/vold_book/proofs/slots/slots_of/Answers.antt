use Rattle.std.proofs.Common.{◌≡◌, ◌∙◌, List, [], ◌∷◌, sym, ap}
use Rattle.std.specs.Prelude.{option_to_list}
use Rattle.std.proofs.lemmas.List.{take_all}
use Rattle.tree_model.specs.declared.places.Slot.{Slot}
use Rattle.vold_book.specs.Slots.{slots_in}
use Rattle.vold_book.proofs.SlotsToTry.{slots-next}
use Rattle.vold_book.proofs.slots.slots_of.Goals.{in-Some+in_ok-insert, in_default}
use Rattle.vold_book.proofs.slots.slots_of.Goals as goal

pub loop-place-init : goal.loop-place-init
loop-place-init c = record { keys = c.places-place-items.ensures; found = c.new-slots.ensures.items }

pub loop-place-preserved : goal.loop-place-preserved
loop-place-preserved c =
    let next = λ (now : List Slot) (one : now ≡ option_to_list c.slot_at.result).
    slots-next c.args.table.now.places c.args.user c.args.secret.now c.places-place-items.result.now
    c.loop-place.place-index _ c.loop-place.slots.items now c.loop-place-test.true c.loop-place.invariant.found
    (one ∙ c.slot_at.ensures) in record {
      keys = c.loop-place.invariant.keys;
      found = elim c.match-slot_at.branch [
        | in-Some+in_ok-insert w ↦
            ap (λ slots. slots.items) w.slots-is ∙ w.in_ok-insert.ensures.items
            ∙ next (w.in-Some.slot ∷ []) (sym (ap option_to_list w.in-Some.is))
        | in_default w ↦
            ap (λ slots. slots.items) w.slots-is ∙ next [] (sym (ap option_to_list w.in_default.is))
      ];
    }

pub returns : goal.returns
returns c =
    c.loop-place.invariant.found
    ∙ ap (slots_in c.args.table.now.places c.args.user c.args.secret.now)
    (take_all c.loop-place.place-index c.places-place-items.result.now c.loop-place-test.false
    ∙ c.loop-place.invariant.keys)
