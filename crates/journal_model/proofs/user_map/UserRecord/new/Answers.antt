use Rattle.std.proofs.Common.{ℕ, List, [], ◌∷◌, ◌++◌, ap, ◌∙◌}
use Rattle.tree_model.specs.declared.places.Slot.{Slot}
use Rattle.tree_model.specs.declared.places.Slot.TheVariants.{Current}
use Rattle.journal_model.specs.Users.{Secrets, Record}
use Rattle.journal_model.proofs.Records.{new_secrets-rows}
use Rattle.journal_model.proofs.user_map.UserRecord.new.Goals as goal

pub returns : goal.returns
returns c =
    let record_of : Secrets → Record = λ secrets. record { birth = c.args.birth; secrets = secrets } in
    ap record_of
    (new_secrets-rows _
    (◌∙◌ {A = List (Slot × List ℕ)} c.in_ok-push.ensures.items
    (λ i. c.new-slots.ensures.items i ++ (Current, c.empty.ensures i) ∷ [])))
