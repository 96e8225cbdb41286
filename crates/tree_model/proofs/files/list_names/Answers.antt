use Rattle.std.proofs.Common.{◌<◌, length, rules, sym, ap, ◌∙◌, arith}
use Rattle.std.specs.Prelude.{is_some, filter}
use Rattle.std.proofs.lemmas.List.{take_all}
use Rattle.tree_model.specs.Dir.{every, in_slot}
use Rattle.tree_model.proofs.Slots.{keys-files_of, in_slot-read, list-more, list-same}
use Rattle.tree_model.proofs.files.list_names.Goals as goal
use Rattle.tree_model.proofs.files.list_names.Goals.{then-is_some, else-is_some}

pub loop-file-preserved : goal.loop-file-preserved
loop-file-preserved c =
    let few : c.loop-file.count < length c.loop-file.order = omega (arith, c.loop-file.invariant.order_count) in
    let held = sym
    (ap is_some (in_slot-read c.args.slots.now c.requires.slot_count _ c.index.result c.index-slots-index.result
    c.index.ensures)) ∙ sym c.is_some.ensures in
    elim c.if-is_some.branch [
      | then-is_some w ↦ record {
        few = omega arith;
        order_count = c.if-is_some.array_long;
        listed =
            rw (w.order-is, w.count-is)
            (list-more (λ file. is_some (in_slot c.args.slots.now file)) every c.loop-file.order _
            c.loop-file.file-index c.loop-file.count (omega arith) (search rules) few
            (held ∙ w.if-is_some.true) c.loop-file.invariant.listed);
      }
      | else-is_some w ↦ record {
        few = omega arith;
        order_count = c.if-is_some.array_long;
        listed =
            rw (w.order-is, w.count-is)
            (list-same (λ file. is_some (in_slot c.args.slots.now file)) every c.loop-file.order _
            c.loop-file.file-index c.loop-file.count (omega arith) (search rules)
            (held ∙ w.if-is_some.false) c.loop-file.invariant.listed);
      }
    ]

pub returns-clause-listed : goal.returns-clause-listed
returns-clause-listed c =
    c.loop-file.invariant.listed
    ∙ ap (filter (λ file. is_some (in_slot c.args.slots.now file)))
    (take_all c.loop-file.file-index every (omega arith)) ∙ sym (keys-files_of c.args.slots.now)
