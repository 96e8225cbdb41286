use Rattle.std.proofs.Common.{◌≡◌, ◌∙◌, List, [], ◌∷◌, length, length-append, take, sym, ap, arith}
use Rattle.std.proofs.lemmas.List.{take_all, append-nil}
use Rattle.std.specs.Prelude.{option_to_list, max}
use Rattle.std.specs.List.{flat_map}
use Rattle.tree_model.specs.declared.places.Slot.{Slot}
use Rattle.journal_model.specs.Users.{after_slot, next_number}
use Rattle.journal_model.proofs.Slots.{next_number-append}
use Rattle.bench.specs.Slots.{slot_of}
use Rattle.vold_book.proofs.PlacedSlots.{slots-more}
use Rattle.vold_book.proofs.slots.numbering.Goals.{in-Some, in_default}
use Rattle.vold_book.proofs.slots.numbering.Goals as goal

pub loop-place-preserved : goal.loop-place-preserved
loop-place-preserved c =
    let items = c.places-place-items.result.now in
    let i = c.loop-place.place-index in
    let done = flat_map (slot_of c.args.user) (take i items) in
    let was = c.loop-place.invariant in
    let more = λ (now : List Slot) (one : option_to_list c.slot_of.result ≡ now).
    sym (slots-more c.args.user items i _ now (omega arith) (sym one ∙ c.slot_of.ensures)) in
    elim c.match-slot_of.branch [
      | in-Some w ↦
          let now = more (w.in-Some.slot ∷ []) (ap option_to_list w.in-Some.is) in record {
            keys = was.keys;
            count = omega (arith, w.count-is, was.count, ap length now, length-append done (w.in-Some.slot ∷ []));
            next = w.next-is ∙ w.next_after-next.ensures ∙ ap (max (after_slot w.in-Some.slot)) was.next
                ∙ sym (ap next_number now ∙ next_number-append done w.in-Some.slot);
            bound = omega (arith, w.count-is, was.bound);
          }
      | in_default w ↦
          let now = more [] (ap option_to_list w.in_default.is) in record {
            keys = was.keys;
            count = w.count-is ∙ was.count ∙ sym (ap length (now ∙ append-nil done));
            next = w.next-is ∙ was.next ∙ sym (ap next_number (now ∙ append-nil done));
            bound = omega (arith, w.count-is, was.bound);
          }
    ]

pub returns : goal.returns
returns c =
    let all = ap (flat_map (slot_of c.args.user))
    (take_all c.loop-place.place-index c.places-place-items.result.now c.loop-place-test.false
    ∙ c.loop-place.invariant.keys) in record {
      count = c.loop-place.invariant.count ∙ ap length all;
      next = c.loop-place.invariant.next ∙ ap next_number all;
    }
