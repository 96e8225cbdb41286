-- A docket: the commands that were given a number, the queues in which they wait, what runs, and who is busy.
use Rattle.std.specs.Prelude.{◌≡◌, ◌≢◌, ℕ, ◌+◌, ◌<◌, ◌⊎◌, List, [], ◌∷◌, ◌++◌, length, Contains, refl}
use Rattle.std.specs.Prelude.{Option, Some, None, IsSome, IfSome, unwrap_or}
use Rattle.std.specs.declared.cmp.Ordering.{Ordering}
use Rattle.std.specs.declared.cmp.Ordering.TheVariants.{Less, Equal, Greater}
use Rattle.std.specs.FinMap as map
use Rattle.std.specs.Coded.{Coded, code_by, coded×, coded_ℕ, coded_list}
use Rattle.sorted_map.specs.Maps.{Stored, stored_code, held, IsAfter}

pub record DocketState {A : Type 0} (cmp : A → A → Ordering) (C R : Type 0) : Type 0 where
  -- each command that was given a number, by number
  pub commands : List C
  -- for each actor that has one, the numbers of the commands that wait, in order
  pub waiting : map.FinMap cmp (List ℕ)
  -- for each actor that has one, what it runs
  pub running : map.FinMap cmp R
  -- how many commands each actor began since the last restart
  pub begun : map.FinMap cmp ℕ

-- a docket as it is stored
pub record StoredDocket (A C R : Type 0) : Type 0 where
  pub commands : List C
  pub waiting : Stored A (List ℕ)
  pub running : Stored A R
  pub begun : Stored A ℕ

abbrev pub docket_code : {A C R : Type 0} → Coded A → Coded C → Coded R → Coded (StoredDocket A C R)
docket_code {A} {C} {R} actor command work =
    code_by (List C × (Stored A (List ℕ) × (Stored A R × Stored A ℕ)))
    (coded× (coded_list command) (coded× (stored_code actor (coded_list coded_ℕ))
    (coded× (stored_code actor work) (stored_code actor coded_ℕ))))
    (λ docket. (docket.commands, (docket.waiting, (docket.running, docket.begun))))
    (λ parts. record { commands = parts.0; waiting = parts.1.0; running = parts.1.1.0; begun = parts.1.1.1 })
    (λ _. refl)

-- the docket that is stored, by the order of its actors
abbrev pub docket_of : {A C R : Type 0} → (cmp : A → A → Ordering) → StoredDocket A C R → DocketState cmp C R
docket_of cmp docket = record {
  commands = docket.commands;
  waiting = held cmp docket.waiting;
  running = held cmp docket.running;
  begun = held cmp docket.begun;
}

-- a queue isn't empty, and each of its numbers was given
pub record IsQueue (given : ℕ) (numbers : List ℕ) : Type 0 where
  pub some : numbers ≢ []
  pub within : (number : ℕ) → Contains numbers number → number < given

abbrev pub AllQueues : {A : Type 0} {cmp : A → A → Ordering} → ℕ → map.FinMap cmp (List ℕ) → Type 0
AllQueues given waiting = (actor : _) → IfSome (map.get waiting actor) (IsQueue given)

-- the first number of a queue
abbrev pub IsFirst : List ℕ → ℕ → Type 0
IsFirst [] number = ⊥
IsFirst (first ∷ numbers) number = first ≡ number

module _ {A : Type 0} {cmp : A → A → Ordering} where
  -- what waits for an actor
  abbrev pub queue_of : map.FinMap cmp (List ℕ) → A → List ℕ
  queue_of waiting actor = unwrap_or (map.get waiting actor) []

  -- the queue of one actor is this; there is none where nothing waits
  abbrev pub with_queue : map.FinMap cmp (List ℕ) → A → List ℕ → map.FinMap cmp (List ℕ)
  with_queue waiting actor [] = map.remove waiting actor
  with_queue waiting actor (number ∷ numbers) = map.insert waiting actor (number ∷ numbers)

  -- the number was the first of the actor's queue, which is now the rest
  abbrev pub DropsFirst : map.FinMap cmp (List ℕ) → map.FinMap cmp (List ℕ) → A → ℕ → Type 0
  DropsFirst before after actor number =
      (numbers : List ℕ) × (map.get before actor ≡ Some (number ∷ numbers)) × (after ≡ with_queue before actor numbers)

module _ {A : Type 0} {cmp : A → A → Ordering} {C R : Type 0} where
  abbrev pub empty_docket : DocketState cmp C R
  empty_docket = record { commands = []; waiting = map.empty; running = map.empty; begun = map.empty }

  -- how many commands the actor began since the last restart
  abbrev pub begun_by : DocketState cmp C R → A → ℕ
  begun_by docket actor = unwrap_or (map.get docket.begun actor) 0

  -- one more command is given a number, which waits last for the actor
  abbrev pub with_command : DocketState cmp C R → A → C → DocketState cmp C R
  with_command docket actor command = record docket {
    commands = docket.commands ++ command ∷ [];
    waiting = map.insert docket.waiting actor (queue_of docket.waiting actor ++ length docket.commands ∷ []);
  }

  -- the same, and the number waits first
  abbrev pub with_first_command : DocketState cmp C R → A → C → DocketState cmp C R
  with_first_command docket actor command = record docket {
    commands = docket.commands ++ command ∷ [];
    waiting = map.insert docket.waiting actor (length docket.commands ∷ queue_of docket.waiting actor);
  }

  -- the actor runs this, and these numbers still wait for it
  abbrev pub after_begin : DocketState cmp C R → A → List ℕ → R → DocketState cmp C R
  after_begin docket actor numbers work = record docket {
    waiting = with_queue docket.waiting actor numbers;
    running = map.insert docket.running actor work;
    begun = map.insert docket.begun actor (begun_by docket actor + 1);
  }

  -- the first number of the actor's queue begins
  abbrev pub TakesFirst : DocketState cmp C R → DocketState cmp C R → A → ℕ → R → Type 0
  TakesFirst before after actor number work =
      (numbers : List ℕ) × (map.get before.waiting actor ≡ Some (number ∷ numbers))
      × (after ≡ after_begin before actor numbers work)

  -- the actor runs a command or something waits for it
  abbrev pub IsBusy : DocketState cmp C R → A → Type 0
  IsBusy docket actor = IsSome (map.get docket.running actor) ⊎ IsSome (map.get docket.waiting actor)

  -- the first busy actor after another, or of all; none exactly where there is none
  abbrev pub IsNextBusy : DocketState cmp C R → Option A → Option A → Type 0
  IsNextBusy docket after None = (actor : A) → IsBusy docket actor → IsAfter cmp after actor → ⊥
  IsNextBusy docket after (Some next) =
      IsBusy docket next × IsAfter cmp after next
      × ((actor : A) → IsBusy docket actor → IsAfter cmp after actor
      → (cmp next actor ≡ Less) ⊎ (cmp next actor ≡ Equal))

abbrev pub by_order : {K : Type 0} → Ordering → K → K → K
by_order Less a b = a
by_order Equal a b = a
by_order Greater a b = b

-- the earlier of two actors, where there is one
abbrev pub earlier_of : {K : Type 0} → (K → K → Ordering) → Option K → Option K → Option K
earlier_of cmp None b = b
earlier_of cmp (Some a) None = Some a
earlier_of cmp (Some a) (Some b) = Some (by_order (cmp a b) a b)
