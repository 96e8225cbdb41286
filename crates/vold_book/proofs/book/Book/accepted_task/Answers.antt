use Rattle.std.proofs.Common.{◌≡◌, ℕ, refl, sym, ap, subst}
use Rattle.std.specs.Prelude.{Option, Some, None, IsNone, MatchOption}
use Rattle.journal_model.specs.declared.commands.Command.{Command}
use Rattle.journal_model.specs.Command.{user_in}
use Rattle.user_tasks.specs.declared.looks.Known.{Known}
use Rattle.user_tasks.specs.declared.tasks.UserTask.{UserTask}
use Rattle.user_tasks.specs.Tasks.{Begins as TaskBegins}
use Rattle.vold_book.specs.declared.tasks.Task.TheVariants.{User as Using}
use Rattle.vold_book.specs.Knowing.{IsKnown}
use Rattle.vold_book.specs.Turns.{Start, AcceptedTask}
use Rattle.vold_book.proofs.book.Book.accepted_task.Goals as goal

-- a user's task that begins is what its command does first
begins-accepted : (command : Command) (start : Start) (known : Known) (task : UserTask) (of : Option ℕ)
    → user_in command ≡ of → IsKnown start.places start.ring command known
    → TaskBegins command start.birth start.boot_seed known task → AcceptedTask command start of (Using task)
begins-accepted command start known task (Some user) is knows begins = (task, known, refl, knows, begins)
begins-accepted command start known task None is knows begins = absurd (none (sym is) begins.owned)
  where
    none : {found : Option ℕ} {user : ℕ} → None ≡ found → found ≡ Some user → ⊥
    none is some = cc

pub returns-in-Some : goal.returns-in-Some
returns-in-Some g c =
    let command = c.args.command.now in
    let known = c.in_ok-known.known in
    let task = c.in-Some.task in
    begins-accepted command _ known task (user_in command) refl c.in_ok-known.ensures
    (subst (λ seed. TaskBegins command c.args.birth seed known task) (ap (λ book. book.boot_seed) c.self.view_is)
    (subst (λ found. MatchOption found (IsNone (user_in command))
    (TaskBegins command c.args.birth c.self.inside.bench.seed known)) c.in-Some.is c.in_ok-task.ensures.begins))
