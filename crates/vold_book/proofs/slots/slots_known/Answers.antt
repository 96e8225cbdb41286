use Rattle.std.proofs.Common.{◌≡◌, ◌∙◌, List, [], ◌∷◌, ◌++◌, sym, ap}
use Rattle.std.specs.Prelude.{option_to_list}
use Rattle.std.specs.List.{flat_map}
use Rattle.std.proofs.lemmas.List.{take_all, append-nil}
use Rattle.tree_model.specs.declared.places.Slot.{Slot}
use Rattle.bench.specs.Slots.{slot_of}
use Rattle.vold_book.specs.Slots.{slots_of}
use Rattle.vold_book.proofs.PlacedSlots.{slots-more}
use Rattle.vold_book.proofs.slots.slots_known.Goals.{in-Some-slot_of+in_ok-push, in_default-slot_of}
use Rattle.vold_book.proofs.slots.slots_known.Goals as goal

pub loop-place-preserved : goal.loop-place-preserved
loop-place-preserved c =
    let was = c.loop-place.invariant.found in
    let more = λ (now : List Slot) (one : option_to_list c.slot_of.result ≡ now).
    slots-more c.in-Some.user c.places-place-items.result.now c.loop-place.place-index _ now c.loop-place-test.true
    (sym one ∙ c.slot_of.ensures) in record {
      keys = c.loop-place.invariant.keys;
      found = elim c.match-slot_of.branch [
        | in-Some-slot_of+in_ok-push w ↦
            let slot = w.in-Some-slot_of.slot in
            ap (λ slots. slots.items) w.slots-is ∙ w.in_ok-push.ensures.items ∙ ap (λ found. found ++ slot ∷ []) was
            ∙ more (slot ∷ []) (ap option_to_list w.in-Some-slot_of.is)
        | in_default-slot_of w ↦
            ap (λ slots. slots.items) w.slots-is ∙ was ∙ sym (append-nil _)
            ∙ more [] (ap option_to_list w.in_default-slot_of.is)
      ];
    }

pub returns : goal.returns
returns c =
    c.loop-place.invariant.found
    ∙ ap (flat_map (slot_of c.in-Some.user))
    (take_all c.loop-place.place-index c.places-place-items.result.now c.loop-place-test.false
    ∙ c.loop-place.invariant.keys)
    ∙ sym (ap (slots_of c.args.table.now.places) c.in-Some.is)
