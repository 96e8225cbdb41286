use Rattle.std.proofs.Common.{ap, ◌∙◌, arith}
use Rattle.std.proofs.lemmas.List.{length-map}
use Rattle.tree_model.specs.Order.{slot_cmp}
use Rattle.sorted_map.specs.Rows.{keys}
use Rattle.sorted_map.proofs.Places.{stands-in, belongs-in, stands-within, belongs-within}
use Rattle.journal_model.specs.Users.{Secrets, Record, with_slot}
use Rattle.journal_model.proofs.Records.{put-stands, put-belongs, edited-sorted, edited-rows}
use Rattle.journal_model.proofs.user_map.UserRecord.put.Goals as goal

pub index_mut-requires : goal.index_mut-requires
index_mut-requires c =
    let within = stands-within slot_cmp c.args.slot _ c.in-Ok.at c.in-Ok.ensures.there in
    omega (arith, within, length-map c.as_slice.result.now (λ row. row.0), c.as_slice.ensures.len)

pub invariant_of-self : goal.invariant_of-self
invariant_of-self c =
    let there = stands-in slot_cmp (ap keys c.as_slice.ensures.value) c.args.slot c.in-Ok.at c.in-Ok.ensures.there in
    edited-sorted c.args.slot c.args.secret c.self.inside.slots.items _ c.self.invariant
    (put-stands c.args.slot c.args.secret c.self.inside.slots.items c.in-Ok.at there)

pub insert-requires : goal.insert-requires
insert-requires c =
    let within = belongs-within slot_cmp c.args.slot _ c.in-Err.at c.in-Err.ensures.absent in
    omega (arith, within, length-map c.as_slice.result.now (λ row. row.0), c.as_slice.ensures.len)

pub invariant_of-self-in-Err : goal.invariant_of-self-in-Err
invariant_of-self-in-Err c =
    let absent = belongs-in slot_cmp (ap keys c.as_slice.ensures.value) c.args.slot c.in-Err.at
    c.in-Err.ensures.absent in
    edited-sorted c.args.slot c.args.secret c.self.inside.slots.items _ c.self.invariant
    (c.in_ok-insert-in-Err.ensures.items
    ∙ put-belongs c.args.slot c.args.secret c.self.inside.slots.items c.in-Err.at absent)

pub returns-in-Ok : goal.returns-in-Ok
returns-in-Ok c =
    let there = stands-in slot_cmp (ap keys c.as_slice.ensures.value) c.args.slot c.in-Ok.at c.in-Ok.ensures.there in
    ap (λ (secrets : Secrets). record { birth = c.self.inside.birth; secrets = secrets })
    (edited-rows c.args.slot c.args.secret c.self.inside.slots.items _ c.self.invariant
    (put-stands c.args.slot c.args.secret c.self.inside.slots.items c.in-Ok.at there))
    ∙ ap (λ (known : Record). with_slot known c.args.slot c.args.secret) c.self.view_is

pub returns-in_ok-insert-in-Err : goal.returns-in_ok-insert-in-Err
returns-in_ok-insert-in-Err c =
    let absent = belongs-in slot_cmp (ap keys c.as_slice.ensures.value) c.args.slot c.in-Err.at
    c.in-Err.ensures.absent in
    ap (λ (secrets : Secrets). record { birth = c.self.inside.birth; secrets = secrets })
    (edited-rows c.args.slot c.args.secret c.self.inside.slots.items _ c.self.invariant
    (c.in_ok-insert-in-Err.ensures.items
    ∙ put-belongs c.args.slot c.args.secret c.self.inside.slots.items c.in-Err.at absent))
    ∙ ap (λ (known : Record). with_slot known c.args.slot c.args.secret) c.self.view_is
