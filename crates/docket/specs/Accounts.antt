-- Accounts of a docket: each number that was given was taken or waits for the actor of its command, and none twice.
use Rattle.std.specs.Prelude.{◌≡◌, ◌≢◌, ℕ, ◌+◌, ◌<◌, ◌⊎◌, List, [], ◌∷◌, length, Some}
use Rattle.std.specs.Prelude.{IfSome, IsSomeAnd, Contains, slice_get}
use Rattle.std.specs.declared.cmp.Ordering.{Ordering}
use Rattle.std.specs.FinMap as map
use Rattle.sorted_map.specs.Sums.{total_by}
use Rattle.docket.specs.Docket.{DocketState}

-- each number waits for the actor of its command, was not taken, and none comes twice
abbrev pub AllWait : {A C : Type 0} → (C → A) → List C → List ℕ → A → List ℕ → Type 0
AllWait actor_of commands taken actor [] = Unit {0}
AllWait actor_of commands taken actor (number ∷ numbers) =
    IsSomeAnd (slice_get commands number) (λ command. actor_of command ≡ actor) × ¬ (Contains taken number)
    × ¬ (Contains numbers number) × AllWait actor_of commands taken actor numbers

pub record Accounted {A C R : Type 0} {cmp : A → A → Ordering} (actor_of : C → A) (taken : List ℕ)
    (docket : DocketState cmp C R) : Type 0 where
  -- what was taken was given
  pub within : (number : ℕ) → Contains taken number → number < length docket.commands
  -- what waits for an actor is the actor's, and wasn't taken
  pub queues : (actor : A) → IfSome (map.get docket.waiting actor) (AllWait actor_of docket.commands taken actor)
  -- and no queue is empty
  pub some : (actor : A) → map.get docket.waiting actor ≢ Some []
  -- no number is lost: it was taken or waits for its actor
  pub kept : (number : ℕ) (command : C) → slice_get docket.commands number ≡ Some command → Contains taken number
      ⊎ IsSomeAnd (map.get docket.waiting (actor_of command)) (λ numbers. Contains numbers number)
  -- no number was taken twice or waits twice
  pub total : length taken + total_by length (map.values docket.waiting) ≡ length docket.commands
