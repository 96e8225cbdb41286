use Rattle.std.proofs.Common.{rules}
use Rattle.std.proofs.lemmas.List.Sorted.{answers_always}
use Rattle.journal_model.proofs.Records.{placed-rows}
use Rattle.journal_model.proofs.user_map.place_of.Goals as goal

pub returns : goal.returns
returns c =
    let facts = c.binary_search_by_key.ensures in
    let found = facts.position (λ row. row.0) (answers_always _ _ _ (λ f row slot after called. search rules)) in
    let ends = placed-rows c.args.slot c.args.rows.now c.binary_search_by_key.result c.requires facts.bound found in
    record { there = ends.0; absent = ends.1 }
