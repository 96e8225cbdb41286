use Rattle.std.proofs.Common.{sym, ◌∙◌}
use Rattle.journal_model.proofs.Records.{without-nowhere, settled-nowhere}
use Rattle.journal_model.proofs.user_map.UserRecord.settle.Goals as goal

pub returns-in-None : goal.returns-in-None
returns-in-None c = c.in-None.ensures.rest
    ∙ sym (without-nowhere c.args.self.now c.args.slot c.in-None.ensures.value)
    ∙ settled-nowhere c.args.self.now c.args.slot c.in-None.ensures.value
