-- That the devices' calls were counted as they were made, each by its device and by its answer.
use Rattle.std.specs.Prelude.{◌≡◌, ℕ, zero, suc, ◌+◌, ◌≤◌, Bool, List, [], ◌∷◌, ◌++◌, length, Some}
use Rattle.tree_model.specs.Counted.{one_more}
use Rattle.journal_model.specs.declared.commands.Actor.{Actor}
use Rattle.journal_model.specs.declared.entries.Device.{Device}
use Rattle.journal_model.specs.declared.entries.Device.TheVariants.{Tree, Store, Ring}
use Rattle.bench.specs.Bench.{BenchState, Senses, Plain, AreCounted, counts_of}
use Rattle.vold_book.specs.State.{BookState, seen}
use Rattle.vold_book.specs.Turns.{as_told}

-- a count after so many calls
abbrev pub counted_up : ℕ → ℕ → ℕ
counted_up zero count = count
counted_up (suc calls) count = counted_up calls (one_more count)

-- no device's counts changed
abbrev pub AreUncounted : (before after : Plain) → Type 0
AreUncounted before after = (device : Device) → counts_of after device ≡ counts_of before device

-- a call of each of these callers, one after another, each counted by its device and by whether it did it, while the
-- other devices' counts stay: a device that tells its plan failed exactly the planned ones
abbrev pub EachCounted : List Actor → Plain → Plain → Type 0
EachCounted [] before after = AreUncounted before after
EachCounted (caller ∷ callers) before after =
    (between : Plain) × (device : Device) × (made : Bool) × AreCounted before between device (as_told made)
    × EachCounted callers between after

-- each call that was added to the callers was counted once, by its device and by its answer; what the devices counted
-- is together as many as the callers, and no count of faults fell
pub record CountsCalls {D E F : Type 0} (senses : Senses D E F) (before after : BookState (BenchState D E F)) :
    Type 0 where
  pub more : List Actor
  pub callers : after.ledger.callers ≡ before.ledger.callers ++ more
  -- how many of them called each device
  pub calls : Device → ℕ
  pub together : calls Tree + calls Store + calls Ring ≡ length more
  pub counted : (device : Device) → (counts_of (seen senses after).bench device).calls
      ≡ counted_up (calls device) (counts_of (seen senses before).bench device).calls
  pub faults : (device : Device) → (counts_of (seen senses before).bench device).faults
      ≤ (counts_of (seen senses after).bench device).faults
  pub each : EachCounted more (seen senses before).bench (seen senses after).bench

-- where a device tells that it plans no failure, it fails none of these calls
abbrev pub PlansHold : (before after : Plain) → Type 0
PlansHold before after = (device : Device) → (counts_of before device).plan ≡ Some []
    → (counts_of after device).faults ≡ (counts_of before device).faults

abbrev pub LawOfPlans : Type 0
LawOfPlans = (callers : List Actor) (before after : Plain) → EachCounted callers before after
    → PlansHold before after
