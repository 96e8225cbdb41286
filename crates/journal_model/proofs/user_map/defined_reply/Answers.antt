use Rattle.std.proofs.Common.{ap, ◌∙◌, length}
use Rattle.std.specs.Prelude.{ℕ, List, true, false, nat_le}
use Rattle.journal_model.specs.Machine.{max_users}
use Rattle.journal_model.specs.Refusals.{refusal_of}
use Rattle.journal_model.proofs.DefinedReply.{length-keys}
use Rattle.journal_model.proofs.user_map.defined_reply.Goals as goal

pub returns : goal.returns
returns c =
    let many = ap (λ (users : List ℕ). length users) c.users.ensures ∙ length-keys c.args.map.now in
    c.refusal.ensures
    ∙ (λ i. refusal_of c.args.command.now (record {
      present = c.is_present.ensures i;
      crowded = nat_le max_users (many i);
      installed = true;
      full = c.is_full.ensures i;
      ready = false;
    }))
