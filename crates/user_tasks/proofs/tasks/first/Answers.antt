use Rattle.std.proofs.Common.{◌*◌, sym, ap, ◌∙◌, subst}
use Rattle.journal_model.specs.declared.commands.Command.TheVariants.{Unlock as UnlockCommand}
use Rattle.journal_model.specs.declared.commands.Command.TheVariants.{Protect as ProtectCommand}
use Rattle.journal_model.specs.declared.commands.Command.TheVariants.{Fixate as FixateCommand}
use Rattle.journal_model.specs.declared.commands.Command.TheVariants.{Destroy as DestroyCommand}
use Rattle.open_task.specs.Task.{Opening}
use Rattle.user_tasks.specs.declared.tasks.UserTask.TheVariants.{Create as OfCreate, Unlock as OfUnlock}
use Rattle.user_tasks.specs.declared.tasks.UserTask.TheVariants.{Protect as OfProtect, Fixate as OfFixate}
use Rattle.user_tasks.specs.declared.tasks.UserTask.TheVariants.{Destroy as OfDestroy}
use Rattle.user_tasks.specs.Made.{IsFirstProtect}
use Rattle.user_tasks.specs.Tasks.{Begins}
use Rattle.user_tasks.proofs.Begun.{first-begins}
use Rattle.user_tasks.proofs.BegunProtects.{first-protect}
use Rattle.user_tasks.proofs.BegunSlots.{unlock-begins, fixate-begins, destroy-begins}
use Rattle.user_tasks.proofs.tasks.first.Goals as goal

pub returns-in_ok-create-in-Create : goal.returns-in_ok-create-in-Create
returns-in_ok-create-in-Create c =
    let create = c.in_ok-create-in-Create.create in record {
      begins = subst (λ command. Begins command c.args.birth c.args.boot_seed.now c.args.known (OfCreate create))
          (sym c.in-Create.is)
          (first-begins c.in-Create.user c.args.birth c.args.number c.args.boot_seed.now c.args.known create
          c.in_ok-create-in-Create.ensures.first);
      jobs = record {
        ce = c.in_ok-create-in-Create.ensures.first.ce.numbered;
        de = c.in_ok-create-in-Create.ensures.first.de.numbered;
      };
    }

pub returns-in_ok-protect-in-Protect : goal.returns-in_ok-protect-in-Protect
returns-in_ok-protect-in-Protect c =
    let user = c.in-Protect.user in
    let given = c.in_ok-duplicate-in-Protect.field-0 in
    let fresh = c.in_ok-fresh-in-Protect.fresh in
    let protect = c.in_ok-protect-in-Protect.protect in
    let ensures = c.in_ok-protect-in-Protect.ensures in
    let opening = ensures.opening ∙ c.new-opening.ensures.first in
    let command = c.in-Protect.is
    ∙ ap (λ secret. ProtectCommand user secret c.in-Protect.fresh) (sym c.in_ok-duplicate-in-Protect.ensures)
    ∙ ap (ProtectCommand user given) (sym c.in_ok-fresh-in-Protect.ensures) in
    let first = subst
    (λ u. IsFirstProtect u c.args.birth c.args.number c.args.boot_seed.now fresh c.args.known.next protect)
    (ap (λ (task : Opening). task.user) c.new-opening.ensures.first) ensures.first in
    record {
      begins = subst (λ it. Begins it c.args.birth c.args.boot_seed.now c.args.known (OfProtect protect)) (sym command)
          (first-protect user given fresh c.args.birth c.args.boot_seed.now c.args.known c.args.number
          (65536 * c.args.number) protect first opening);
      jobs = (ap (λ (task : Opening). task.job) opening, ensures.first.numbered);
    }

pub returns-in_ok-secret-in-Unlock-clause-begins : goal.returns-in_ok-secret-in-Unlock-clause-begins
returns-in_ok-secret-in-Unlock-clause-begins c =
    let user = c.in-Unlock.user in
    let birth = c.args.birth in
    let seed = c.args.boot_seed.now in
    let secret = c.in_ok-secret-in-Unlock.secret in
    let command = c.in-Unlock.is ∙ ap (UnlockCommand user) (sym c.in_ok-secret-in-Unlock.ensures) in
    subst (λ it. Begins it birth seed c.args.known (OfUnlock c.first-unlock.result)) (sym command)
    (subst (λ unlock. Begins (UnlockCommand user secret) birth seed c.args.known (OfUnlock unlock))
    (sym c.first-unlock.ensures) (unlock-begins user birth seed c.args.known secret (65536 * c.args.number)))

pub returns-in-Fixate-clause-begins : goal.returns-in-Fixate-clause-begins
returns-in-Fixate-clause-begins c =
    let user = c.in-Fixate.user in
    let birth = c.args.birth in
    let seed = c.args.boot_seed.now in
    subst (λ it. Begins it birth seed c.args.known (OfFixate c.first-in-Fixate.result)) (sym c.in-Fixate.is)
    (subst (λ fixate. Begins (FixateCommand user) birth seed c.args.known (OfFixate fixate))
    (sym c.first-in-Fixate.ensures) (fixate-begins user birth seed c.args.known))

pub returns-in-Destroy-clause-begins : goal.returns-in-Destroy-clause-begins
returns-in-Destroy-clause-begins c =
    let user = c.in-Destroy.user in
    let birth = c.args.birth in
    let seed = c.args.boot_seed.now in
    subst (λ it. Begins it birth seed c.args.known (OfDestroy c.first-destroy.result)) (sym c.in-Destroy.is)
    (subst (λ destroy. Begins (DestroyCommand user) birth seed c.args.known (OfDestroy destroy))
    (sym c.first-destroy.ensures) (destroy-begins user birth seed c.args.known))
