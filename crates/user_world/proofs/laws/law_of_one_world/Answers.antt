use Rattle.user_world.proofs.Timelines.{one-world, view-shown, known-shown, logged-shown, durable-shown}
use Rattle.user_world.proofs.laws.law_of_one_world.Goals as goal

pub returns : goal.returns
returns c = λ user world line shows. record {
  one = one-world world line shows;
  view = view-shown user world line shows;
  known = known-shown user world line shows;
  logged = logged-shown user world line shows;
  durable = durable-shown user world line shows;
}
