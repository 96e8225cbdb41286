-- Turns make rounds, and rounds and given turns make a line.
use Rattle.std.proofs.Common.{◌≡◌, ◌≢◌, ◌⊎◌, inl, inr, ℕ, zero, suc, ◌+◌, ◌<◌, List}
use Rattle.std.proofs.Common.{[], ◌∷◌, ◌++◌, refl, sym, ap, subst, add-one}
use Rattle.std.specs.Prelude.{Option, Some, None, IsSome, IsNone}
use Rattle.std.specs.FinMap as map
use Rattle.bench.specs.Bench.{BenchState, Senses}
use Rattle.journal_model.specs.declared.commands.Actor.{Actor}
use Rattle.vold_book.specs.declared.turns.Turn.{Turn}
use Rattle.vold_book.specs.declared.turns.Turn.TheVariants.{Went, Idle, Waits}
use Rattle.vold_book.specs.State.{BookState, seen}
use Rattle.docket.specs.Docket.{IsBusy, IsNextBusy}
use Rattle.journal_model.specs.Machine.{TakesTurn}
use Rattle.vold_book.specs.Turns.{Answers, Falls, Goes, IsIdle}
use Rattle.vold_book.specs.Whole.{turns_left}
use Rattle.vold_run.specs.Rounds.{NothingLeft}
use Rattle.vold_run.specs.Lines.{IsBetweenLines}
use Rattle.vold_run.specs.Fits.{History, history_of, IsNextAtWork, TurnFits, TurnsFit}
use Rattle.vold_run.specs.Fits.{RoundFits, RoundsFit, AllFits, MayTurn, TurnsOf}
use Rattle.vold_run.proofs.Work.{turn-fits, next-fits, none-fits, waits-fits, idle-fits}
use Rattle.vold_run.proofs.Work.{none-behind, at-work, work-takes, work-busy}

turns_more : (actors : List Actor) (actor : Actor) (before between after : History) (first last : Option Actor)
    → TurnsFit actors before first between last → IsNextAtWork between last actor → TurnFits between actor after
    → TurnsFit (actors ++ actor ∷ []) before first after (Some actor)
turns_more [] actor before between after first last turns next turn = (
  subst (λ l. IsNextAtWork before l actor) turns.1 (subst (λ b. IsNextAtWork b last actor) turns.0 next),
  (after, subst (λ b. TurnFits b actor after) turns.0 turn, (refl, refl)),
)
turns_more (other ∷ actors) actor before between after first last turns next turn = (
  turns.0,
  (
    turns.1.0,
    turns.1.1,
    turns_more actors actor turns.1.0 between after (Some other) last turns.1.2 next turn,
  ),
)

pub rounds_more : (count : ℕ) (before between after : History) → RoundsFit count before between
    → RoundFits between after → RoundsFit (suc count) before after
rounds_more zero before between after rounds round = (after, subst (λ b. RoundFits b after) rounds round, refl)
rounds_more (suc count) before between after rounds round =
    (rounds.0, rounds.1, rounds_more count rounds.0 between after rounds.2 round)

turns_of_more : (actor : Actor) (count : ℕ) (before between after : History) → TurnsOf actor count before between
    → MayTurn actor between after → TurnsOf actor (suc count) before after
turns_of_more actor zero before between after turns turn = (after, subst (λ b. MayTurn actor b after) turns turn, refl)
turns_of_more actor (suc count) before between after turns turn =
    (turns.0, turns.1, turns_of_more actor count turns.0 between after turns.2 turn)

-- a further turn that an actor is given
pub turns-more : (actor : Actor) (count : ℕ) (before between after : History) → TurnsOf actor count before between
    → MayTurn actor between after → TurnsOf actor (count + 1) before after
turns-more actor count before between after turns turn =
    subst (λ n. TurnsOf actor n before after) (sym (add-one count))
    (turns_of_more actor count before between after turns turn)

-- a round as far as it has come: its turns so far, and the next busy actor after the last of them
pub record RoundGoes {B : Type 0} (before : History) (book : BookState B) (next : Option Actor) : Type 0 where
  pub actors : List Actor
  pub last : Actor
  pub turns : TurnsFit actors before None (history_of book) (Some last)
  pub coming : IsNextBusy book.docket (Some last) next

-- an actor that isn't idle is busy
busy : {B : Type 0} (book : BookState B) (actor : Actor) → ¬ (IsIdle book actor) → IsBusy book.docket actor
busy book actor not = by (map.get book.docket.running actor) (map.get book.docket.waiting actor) not
  where
    by : {A B : Type 0} (runs : Option A) (waits : Option B) → ¬ (IsNone runs × IsNone waits)
        → IsSome runs ⊎ IsSome waits
    by (Some it) waits not = inl refl
    by None (Some numbers) not = inr refl
    by None None not = absurd (not (refl, refl))

idle-not : {B : Type 0} (book : BookState B) (actor : Actor) → IsIdle book actor → IsBusy book.docket actor → ⊥
idle-not book actor idle (inl runs) = cc (runs, idle.0)
idle-not book actor idle (inr waits) = cc (waits, idle.1)

module _ {D E F : Type 0} (senses : Senses D E F) (before after : BookState (BenchState D E F)) where
  -- a turn that went
  pub went : (actor : Actor) (turn : Turn) → turn ≡ Went → Answers senses before after actor turn
      → Goes senses before after actor
  went actor Went is answers = answers
  went actor Idle is answers = cc
  went actor Waits is answers = cc

  -- and leaves fewer turns
  pub went-falls : (turn : Turn) → turn ≡ Went → Falls (seen senses before) (seen senses after) turn
      → turns_left (seen senses after) < turns_left (seen senses before)
  went-falls Went is falls = falls
  went-falls Idle is falls = cc
  went-falls Waits is falls = cc

  -- a busy actor's turn that didn't go waits for the machine, and nothing changed
  pub waited : (actor : Actor) (turn : Turn) → turn ≢ Went → IsBusy before.docket actor
      → Answers senses before after actor turn → ¬ (TakesTurn before.tracker.phase actor) × (after ≡ before)
  waited actor Went not busy answers = absurd (not refl)
  waited actor Idle not busy answers = absurd (idle-not before actor answers.0 busy)
  waited actor Waits not busy answers = (answers.1, answers.2)

  -- where the first busy actor waits, all wait
  pub all-wait : (first : Actor) (turn : Turn) → turn ≢ Went → IsNextBusy before.docket None (Some first)
      → Answers senses before after first turn → NothingLeft before × (after ≡ before)
  all-wait first turn not is answers =
      let waits = waited first turn not is.0 answers in
      (λ actor busy takes. none-behind before.tracker.phase first actor waits.0 takes (is.2 actor busy tt), waits.1)

  -- a turn that an actor is given, whatever it answers
  pub may-turn : (actor : Actor) (turn : Turn) → IsBetweenLines senses before
      → Answers senses before after actor turn → MayTurn actor (history_of before) (history_of after)
  may-turn actor Went between goes =
      inl (
        at-work senses before between.whole actor (busy before actor goes.busy) goes.takes,
        turn-fits senses before after actor between goes,
      )
  may-turn actor Idle between idle =
      inr (
        λ work. idle-not before actor idle.0 (work-busy senses before between.whole actor work),
        ap history_of idle.1,
      )
  may-turn actor Waits between waits =
      inr (λ work. waits.1 (work-takes senses before between.whole actor work), ap history_of waits.2)

module _ {D E F : Type 0} (senses : Senses D E F) where
  pub round-begins : (before after : BookState (BenchState D E F)) (first : Actor) (next : Option Actor)
      → IsBetweenLines senses before → IsNextBusy before.docket None (Some first)
      → Goes senses before after first → IsNextBusy after.docket (Some first) next
      → RoundGoes (history_of before) after next
  round-begins before after first next between is goes then = record {
    actors = first ∷ [];
    last = first;
    turns = (
      next-fits senses before between.whole None first is goes.takes,
      (history_of after, turn-fits senses before after first between goes, (refl, refl)),
    );
    coming = then;
  }

  pub round-goes : (start : History) (before after : BookState (BenchState D E F)) (actor : Actor)
      (next : Option Actor) → RoundGoes start before (Some actor) → IsBetweenLines senses before
      → Goes senses before after actor → IsNextBusy after.docket (Some actor) next → RoundGoes start after next
  round-goes start before after actor next going between goes then = record {
    actors = going.actors ++ actor ∷ [];
    last = actor;
    turns =
        turns_more going.actors actor start (history_of before) (history_of after) None (Some going.last) going.turns
        (next-fits senses before between.whole (Some going.last) actor going.coming goes.takes)
        (turn-fits senses before after actor between goes);
    coming = then;
  }

  pub round-ends : (start : History) (book : BookState (BenchState D E F)) → RoundGoes start book None
      → IsBetweenLines senses book → RoundFits start (history_of book)
  round-ends start book going between = record {
    actors = going.actors;
    last = Some going.last;
    turns = going.turns;
    ended = none-fits senses book between.whole (Some going.last) going.coming;
  }

  -- the next busy actor waits for the machine, and so do all behind it
  pub round-waits : (start : History) (before after : BookState (BenchState D E F)) (actor : Actor) (turn : Turn)
      → turn ≢ Went
      → RoundGoes start before (Some actor) → IsBetweenLines senses before
      → Answers senses before after actor turn → RoundFits start (history_of after)
  round-waits start before after actor turn not going between answers =
      let waits = waited senses before after actor turn not going.coming.0 answers in
      subst (λ book. RoundFits start (history_of book)) (sym waits.1)
      (record {
        actors = going.actors;
        last = Some going.last;
        turns = going.turns;
        ended = waits-fits senses before between.whole (Some going.last) actor going.coming waits.0;
      })

  -- when no actor is at work, the rounds are all
  pub all-ends : (start : History) (book : BookState (BenchState D E F)) (count : ℕ)
      → RoundsFit count start (history_of book)
      → IsBetweenLines senses book → NothingLeft book → AllFits start (history_of book)
  all-ends start book count rounds between idle =
      record { count = count; rounds = rounds; ended = idle-fits senses book between.whole idle }
