use Rattle.std.proofs.Common.{ap, ◌∙◌}
use Rattle.journal_model.specs.Users.{Record, Users, settled_slot, with_edit}
use Rattle.journal_model.proofs.Records.{edited-back, edited-nowhere}
use Rattle.journal_model.proofs.user_map.UserMap.settle.Goals as goal

pub returns : goal.returns
returns c =
    let edit = λ (known : Record). settled_slot known c.args.slot in
    c.in_ok-insert.ensures.held
    ∙ edited-back _ _ c.args.user edit c.in-Some.ensures.held _ _ c.in-Some.ensures.value c.in_ok-settle.ensures
    ∙ ap (λ (users : Users). with_edit users c.args.user edit) c.self.view_is

pub returns-in_default : goal.returns-in_default
returns-in_default c =
    let edit = λ (known : Record). settled_slot known c.args.slot in
    edited-nowhere _ _ c.args.user edit c.in_default.ensures.held c.in_default.ensures.value
    ∙ ap (λ (users : Users). with_edit users c.args.user edit) c.self.view_is
