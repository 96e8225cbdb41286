use Rattle.std.proofs.Common.{Some, sym, ap, ◌∙◌}
use Rattle.std.specs.Prelude.{Option, option_map}
use Rattle.std.specs.FinMap.{entries, get}
use Rattle.tree_model.specs.Order.{slot_cmp}
use Rattle.sorted_map.proofs.Rows.{entries-rows}
use Rattle.journal_model.specs.Users.{Record, Users}
use Rattle.journal_model.proofs.user_map.UserMap.slots.Goals as goal

pub returns : goal.returns
returns c = ap Some (c.as_slice.ensures.value ∙ sym (entries-rows slot_cmp _ c.known.invariant))
    ∙ ap (λ (user : Record). Some (entries user.secrets)) c.known.view_is
    ∙ ap (λ (found : Option Record). option_map (λ user. entries user.secrets) found)
    (c.in_ok-known.ensures ∙ ap (λ (users : Users). get users c.args.user) c.self.view_is)
