use Rattle.user_tasks.specs.Tasks.{tasks}
use Rattle.vold_book.proofs.plans.+planned_user.Given as goal

abbrev pub decreases-planned_user : goal.decreases-planned_user
decreases-planned_user l = tasks.asks l.task.now
