-- What turns keep of a Book between the lines of a script.
use Rattle.std.proofs.Common.{◌≡◌, ◌≢◌, ℕ, List, [], ◌∷◌, inl, inr, refl, sym, ap, ◌∙◌, subst}
use Rattle.std.specs.Prelude.{Some, IfSome}
use Rattle.std.specs.FinMap as map
use Rattle.bench.specs.Bench.{BenchState, Senses}
use Rattle.tree_model.proofs.Maps.{get-insert_same, get-insert_other, get-remove_same, get-remove_other}
use Rattle.journal_model.specs.declared.commands.Actor.{Actor}
use Rattle.journal_model.specs.Actor.{actor_cmp, actor_total, actor_exact}
use Rattle.journal_model.specs.declared.phase.Phase.TheVariants.{Halted}
use Rattle.journal_model.proofs.ByCommand.{never-stops}
use Rattle.vold_book.specs.declared.turns.Turn.{Turn}
use Rattle.vold_book.specs.declared.turns.Turn.TheVariants.{Went, Idle, Waits}
use Rattle.vold_book.specs.State.{BookState}
use Rattle.vold_book.specs.Whole.{IsWhole}
use Rattle.docket.specs.Docket.{with_queue}
use Rattle.vold_book.specs.Turns.{Answers, Turns}
use Rattle.docket.proofs.Accounts.{at_actors}
use Rattle.vold_run.specs.Lines.{IsInOrder, IsBetweenLines, IsKept}
use Rattle.vold_run.proofs.Counted.{answers-count, counts-joined, counts-same}

abbrev Waiting : Type 0
Waiting = map.FinMap actor_cmp (List ℕ)

-- the queues are in order
abbrev pub AreInOrder : Waiting → Type 0
AreInOrder waiting = (actor : Actor) → IfSome (map.get waiting actor) (IsInOrder actor)

-- a queue whose first number began is still in order
pub order-begun : (waiting : Waiting) (actor : Actor) (number : ℕ) (numbers : List ℕ)
    → map.get waiting actor ≡ Some (number ∷ numbers) → AreInOrder waiting
    → AreInOrder (with_queue waiting actor numbers)
order-begun waiting actor number [] queue order =
    at_actors actor_total actor_exact actor (λ a. IfSome (map.get (map.remove waiting actor) a) (IsInOrder a))
    (subst (λ found. IfSome found (IsInOrder actor)) (sym (get-remove_same actor_total actor_exact waiting actor)) tt)
    (λ other differ. subst (λ found. IfSome found (IsInOrder other))
    (sym (get-remove_other actor_total actor_exact waiting actor other differ)) (order other))
order-begun waiting actor number (n ∷ ns) queue order =
    let was : IsInOrder actor (number ∷ n ∷ ns) =
    subst (λ found. IfSome found (IsInOrder actor)) queue (order actor) in
    at_actors actor_total actor_exact actor (λ a. IfSome (map.get (map.insert waiting actor (n ∷ ns)) a) (IsInOrder a))
    (subst (λ found. IfSome found (IsInOrder actor))
    (sym (get-insert_same actor_total actor_exact waiting actor (n ∷ ns))) was.1)
    (λ other differ. subst (λ found. IfSome found (IsInOrder other))
    (sym (get-insert_other actor_total actor_exact waiting actor (n ∷ ns) other differ)) (order other))

-- a queue that was changed is in order where its new numbers are
pub order-put : (waiting : Waiting) (actor : Actor) (numbers : List ℕ) → IsInOrder actor numbers → AreInOrder waiting
    → AreInOrder (map.insert waiting actor numbers)
order-put waiting actor numbers own order =
    at_actors actor_total actor_exact actor (λ a. IfSome (map.get (map.insert waiting actor numbers) a) (IsInOrder a))
    (subst (λ found. IfSome found (IsInOrder actor))
    (sym (get-insert_same actor_total actor_exact waiting actor numbers)) own)
    (λ other differ. subst (λ found. IfSome found (IsInOrder other))
    (sym (get-insert_other actor_total actor_exact waiting actor numbers other differ)) (order other))

-- what a turn leaves as it was, and in order
record Leaves {B : Type 0} (before after : BookState B) : Type 0 where
  commands : after.docket.commands ≡ before.docket.commands
  orders : after.ledger.orders ≡ before.ledger.orders
  seed : after.seed ≡ before.seed
  level : after.tracker.level ≡ before.tracker.level
  still : before.tracker.phase ≢ Halted → after.tracker.phase ≢ Halted
  order : AreInOrder before.docket.waiting → AreInOrder after.docket.waiting

same-leaves : {B : Type 0} (before after : BookState B) → after ≡ before → Leaves before after
same-leaves before after same = record {
  commands = ap (λ b. b.docket.commands) same;
  orders = ap (λ b. b.ledger.orders) same;
  seed = ap (λ b. b.seed) same;
  level = ap (λ b. b.tracker.level) same;
  still = λ differ. subst (λ b. b.tracker.phase ≢ Halted) (sym same) differ;
  order = λ order. subst (λ b. AreInOrder b.docket.waiting) (sym same) order;
}

module _ {D E F : Type 0} (senses : Senses D E F) (before after : BookState (BenchState D E F)) (actor : Actor) where
  turn-leaves : Turns senses before after actor → Leaves before after
  turn-leaves (inl (none, begins)) = record {
    commands = ap (λ b. b.docket.commands) begins.state;
    orders = ap (λ b. b.ledger.orders) begins.state;
    seed = ap (λ b. b.seed) begins.state;
    level = ap (λ b. b.tracker.level) begins.state;
    still = λ differ. subst (λ p. p ≢ Halted) (sym (ap (λ b. b.tracker.phase) begins.state)) differ;
    order = λ order. subst AreInOrder (sym (ap (λ b. b.docket.waiting) begins.state))
        (order-begun before.docket.waiting actor begins.number begins.numbers begins.queued order);
  }
  turn-leaves (inr (inl calls)) = record {
    commands = ap (λ b. b.docket.commands) calls.state;
    orders = ap (λ b. b.ledger.orders) calls.state;
    seed = ap (λ b. b.seed) calls.state;
    level = ap (λ b. b.tracker.level) calls.state;
    still = λ differ. subst (λ p. p ≢ Halted) (sym (ap (λ b. b.tracker.phase) calls.state)) differ;
    order = λ order. subst AreInOrder (sym (ap (λ b. b.docket.waiting) calls.state)) order;
  }
  turn-leaves (inr (inr replies)) = record {
    commands = ap (λ b. b.docket.commands) replies.state;
    orders = ap (λ b. b.ledger.orders) replies.state;
    seed = ap (λ b. b.seed) replies.state;
    level = ap (λ b. b.tracker.level) replies.state;
    still = λ differ. subst (λ p. p ≢ Halted) (sym (ap (λ b. b.tracker.phase) replies.state))
        (never-stops before.tracker.phase replies.command replies.reply differ);
    order = λ order. subst AreInOrder (sym (ap (λ b. b.docket.waiting) replies.state)) order;
  }

  answers-leave : (turn : Turn) → Answers senses before after actor turn → Leaves before after
  answers-leave Went went = turn-leaves went.turn
  answers-leave Idle idle = same-leaves before after idle.1
  answers-leave Waits waits = same-leaves before after waits.2

  -- whatever a turn answers
  pub turn-kept : (turn : Turn) → IsBetweenLines senses before → Answers senses before after actor turn
      → IsWhole senses after → IsKept senses before after
  turn-kept turn between answers whole =
      let leaves = answers-leave turn answers in
      record {
        commands = leaves.commands;
        orders = leaves.orders;
        seed = leaves.seed;
        counted = answers-count senses before after actor turn answers;
        still = leaves.still;
        between = record { whole = whole; level = leaves.level ∙ between.level; order = leaves.order between.order };
      }

module _ {D E F : Type 0} (senses : Senses D E F) where
  pub kept-same : (book : BookState (BenchState D E F)) → IsBetweenLines senses book → IsKept senses book book
  kept-same book between = record {
    commands = refl;
    orders = refl;
    seed = refl;
    counted = counts-same senses book book refl refl;
    still = λ differ. differ;
    between = between;
  }

  pub kept-joined : (before between after : BookState (BenchState D E F)) → IsKept senses before between
      → IsKept senses between after → IsKept senses before after
  kept-joined before between after first second = record {
    commands = second.commands ∙ first.commands;
    orders = second.orders ∙ first.orders;
    seed = second.seed ∙ first.seed;
    counted = counts-joined senses before between after first.counted second.counted;
    still = λ differ. second.still (first.still differ);
    between = second.between;
  }
