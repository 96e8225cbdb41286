use Rattle.std.proofs.Common.{ap, ◌∙◌, arith}
use Rattle.std.specs.FinMap.{get}
use Rattle.std.proofs.lemmas.List.{length-map}
use Rattle.tree_model.specs.Order.{slot_cmp}
use Rattle.sorted_map.specs.Rows.{keys}
use Rattle.sorted_map.proofs.Places.{stands-in, belongs-in, stands-within}
use Rattle.journal_model.specs.Users.{Secrets, Record, without_slot}
use Rattle.journal_model.proofs.Records.{absent-secret, taken-secret, left-sorted, left-rows, without-nowhere}
use Rattle.journal_model.proofs.user_map.UserRecord.take.Goals as goal

pub remove-requires : goal.remove-requires
remove-requires c =
    let within = stands-within slot_cmp c.args.slot _ c.in-Ok.at c.in-Ok.ensures.there in
    omega (arith, within, length-map c.as_slice.result.now (λ row. row.0), c.as_slice.ensures.len)

pub invariant_of-self : goal.invariant_of-self
invariant_of-self c =
    let there = stands-in slot_cmp (ap keys c.as_slice.ensures.value) c.args.slot c.in-Ok.at c.in-Ok.ensures.there in
    left-sorted c.args.slot c.self.inside.slots.items c.self.invariant c.in-Ok.at there _ c.remove.ensures.items

pub returns-in-Ok-clause-value : goal.returns-in-Ok-clause-value
returns-in-Ok-clause-value c =
    let there = stands-in slot_cmp (ap keys c.as_slice.ensures.value) c.args.slot c.in-Ok.at c.in-Ok.ensures.there in
    taken-secret c.args.slot c.self.inside.slots.items c.self.invariant c.in-Ok.at there _ c.remove.ensures.value
    ∙ ap (λ (known : Record). get known.secrets c.args.slot) c.self.view_is

pub returns-in-Ok-clause-rest : goal.returns-in-Ok-clause-rest
returns-in-Ok-clause-rest c =
    let there = stands-in slot_cmp (ap keys c.as_slice.ensures.value) c.args.slot c.in-Ok.at c.in-Ok.ensures.there in
    ap (λ (secrets : Secrets). record { birth = c.self.inside.birth; secrets = secrets })
    (left-rows c.args.slot c.self.inside.slots.items c.self.invariant c.in-Ok.at there _ c.remove.ensures.items)
    ∙ ap (λ (known : Record). without_slot known c.args.slot) c.self.view_is

pub returns-in-Err-clause-value : goal.returns-in-Err-clause-value
returns-in-Err-clause-value c =
    let absent = belongs-in slot_cmp (ap keys c.as_slice.ensures.value) c.args.slot c.in-Err.field-0
    c.in-Err.ensures.absent in
    absent-secret c.args.slot c.self.inside.slots.items c.self.invariant c.in-Err.field-0 absent
    ∙ ap (λ (known : Record). get known.secrets c.args.slot) c.self.view_is

pub returns-in-Err-clause-rest : goal.returns-in-Err-clause-rest
returns-in-Err-clause-rest c =
    let absent = belongs-in slot_cmp (ap keys c.as_slice.ensures.value) c.args.slot c.in-Err.field-0
    c.in-Err.ensures.absent in
    without-nowhere c.args.self.now c.args.slot
    (absent-secret c.args.slot c.self.inside.slots.items c.self.invariant c.in-Err.field-0 absent
    ∙ ap (λ (known : Record). get known.secrets c.args.slot) c.self.view_is)
