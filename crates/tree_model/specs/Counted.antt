-- What a device counts: its calls and its faults, and the calls that it was told to fail.
use Rattle.std.specs.Prelude.{◌≡◌, ℕ, ◌+◌, ◌-◌, ◌^◌, ◌<◌, ◌≤◌, ◌↔◌, ◌⊎◌, min, List}
use Rattle.std.specs.Prelude.{Option, IsSome, IfSome, Result, IsErrOf, Contains}
use Rattle.tree_model.specs.declared.device.DevFault.{DevFault}
use Rattle.tree_model.specs.declared.device.DevFault.TheVariants.{Failed, NoMemory}

-- the planned call numbers, where the device tells them
abbrev pub Plan : Type 0
Plan = Option (List ℕ)

-- a count of 64 bits that stays at its end
abbrev pub one_more : ℕ → ℕ
one_more count = min (count + 1) (2 ^ 64 - 1)

-- a count rose, or stands at its end
abbrev pub Rose : ℕ → ℕ → Type 0
Rose before after = (before < after) ⊎ (2 ^ 64 - 1 ≤ after)

-- the counts of one device
pub record Counts : Type 0 where
  pub calls : ℕ
  pub faults : ℕ
  pub plan : Plan

-- a counted call
pub record IsCounted {T : Type 0} (before after : Counts) (result : Result T DevFault) : Type 0 where
  pub same_plan : after.plan ≡ before.plan
  pub never_falls : before.faults ≤ after.faults
  -- want of memory isn't counted
  pub uncounted : IsErrOf result NoMemory → after ≡ before
  pub counted : ¬ (IsErrOf result NoMemory) → after.calls ≡ one_more before.calls
  -- it fails only where the count of faults rises, and where the plan is told exactly at a planned call
  pub failed : IsErrOf result Failed → Rose before.faults after.faults
  pub planned : IfSome before.plan
      (λ planned. ¬ (IsErrOf result NoMemory) → IsErrOf result Failed ↔ Contains planned after.calls)
  pub fault : IfSome before.plan (λ planned. IsErrOf result Failed → after.faults ≡ one_more before.faults)
  pub no_fault : IfSome before.plan (λ planned. ¬ (IsErrOf result Failed) → after.faults ≡ before.faults)

-- the plan with the call that is `nth` from now, unless its number is past the end
abbrev pub planned_more : List ℕ → ℕ → ℕ → List ℕ → Type 0
planned_more planned calls nth planned' =
    (call : ℕ) → Contains planned' call ↔ (Contains planned call ⊎ ((call ≡ calls + nth) × (call < 2 ^ 64)))

-- a call was planned, where the plan is told
pub record IsPlanned (before after : Counts) (nth : ℕ) : Type 0 where
  pub same_calls : after.calls ≡ before.calls
  pub same_faults : after.faults ≡ before.faults
  pub planned : IfSome before.plan
      (λ planned. IfSome after.plan (λ planned'. planned_more planned before.calls nth planned'))
  pub told : IsSome before.plan ↔ IsSome after.plan
