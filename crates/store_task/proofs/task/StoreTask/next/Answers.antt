use Rattle.std.proofs.Common.{ap, ◌∙◌, subst}
use Rattle.std.specs.Prelude.{Some}
use Rattle.store_task.specs.declared.turns.Doing.TheVariants.{Generate, Encrypt}
use Rattle.store_task.specs.Turns.{StoreTurns}
use Rattle.store_task.proofs.ShownTurns.{generate-turn, encrypt-turn}
use Rattle.store_task.proofs.task.StoreTask.next.Goals as goal

pub returns-in_ok-copy-in-Tied : goal.returns-in_ok-copy-in-Tied
returns-in_ok-copy-in-Tied c =
    let inside = c.self.inside in
    let app_id = c.in_ok-copy-in-Tied.field-0 in record {
      turn = subst (λ task. StoreTurns task (Some (Generate inside.spec.tag app_id))) c.self.view_is
          (generate-turn _ (Some (Generate inside.spec.tag app_id)) c.in-Tied.app_id c.in-Tied.is
          (ap (λ bytes. Some (Generate inside.spec.tag bytes)) (c.in_ok-copy-in-Tied.ensures ∙ c.as_slice.ensures)));
      asks = tt;
    }

pub returns-in_ok-copy-in-Generated : goal.returns-in_ok-copy-in-Generated
returns-in_ok-copy-in-Generated c =
    let spec = c.self.inside.spec in
    let blob = c.in-Generated.blob in
    let app_id = c.in_ok-copy-in-Generated.field-0 in record {
      turn = subst (λ task. StoreTurns task (Some (Encrypt blob app_id spec.nonce spec.key))) c.self.view_is
          (encrypt-turn _ (Some (Encrypt blob app_id spec.nonce spec.key)) c.in-Generated.app_id blob
          c.in-Generated.is
          (ap (λ bytes. Some (Encrypt blob bytes spec.nonce spec.key))
          (c.in_ok-copy-in-Generated.ensures ∙ c.as_slice-in-Generated.ensures)));
      asks = tt;
    }
