-- Turns count their calls, one after another.
use Rattle.std.proofs.Common.{◌≡◌, ◌≢◌, ◌⊎◌, inl, inr, ℕ, zero, suc, ◌+◌, ◌≤◌, Bool, true, false, List, [], ◌∷◌}
use Rattle.std.proofs.Common.{◌++◌, refl, sym, ap, ◌∙◌, subst, arith, append_assoc}
use Rattle.std.proofs.lemmas.List.{append-nil, length-append}
use Rattle.std.specs.Prelude.{Result, Some, IsErrOf, IfSome, Contains, ◌↔◌}
use Rattle.tree_model.specs.declared.device.DevFault.{DevFault}
use Rattle.tree_model.specs.declared.device.DevFault.TheVariants.{Failed, NoMemory as WantsMemory}
use Rattle.tree_model.specs.Counted.{Counts, IsCounted, one_more}
use Rattle.docket.proofs.Accounts.{nothing_in}
use Rattle.journal_model.specs.declared.commands.Actor.{Actor}
use Rattle.journal_model.specs.declared.entries.Device.{Device}
use Rattle.journal_model.specs.declared.entries.Device.TheVariants.{Tree, Store, Ring}
use Rattle.bench.specs.Bench.{BenchState, Senses, Plain, AreCounted, counts_of}
use Rattle.vold_book.specs.declared.turns.Turn.{Turn}
use Rattle.vold_book.specs.declared.turns.Turn.TheVariants.{Went, Idle, Waits}
use Rattle.vold_book.specs.State.{BookState, seen}
use Rattle.vold_book.specs.Turns.{Answers, Turns, as_told}
use Rattle.vold_book.specs.Whole.{same_device}
use Rattle.vold_run.specs.Calls.{counted_up, AreUncounted, EachCounted, LawOfPlans, CountsCalls}

up-more : (first second count : ℕ) → counted_up (first + second) count ≡ counted_up second (counted_up first count)
up-more zero second count =
    ap (λ n. counted_up n count) (let none : 0 + second ≡ second = omega arith in none)
up-more (suc first) second count =
    ap (λ n. counted_up n count) (let one : suc first + second ≡ suc (first + second) = omega arith in one)
    ∙ up-more first second (one_more count)

-- a call that memory was there for is counted
counted : (before after : Counts) (made : Bool) → IsCounted before after (as_told made)
    → after.calls ≡ one_more before.calls
counted before after true is = is.counted (λ e. cc)
counted before after false is = is.counted (λ e. cc)

none-counted : (before between after : Plain) → AreUncounted before between → AreUncounted between after
    → AreUncounted before after
none-counted before between after first second device = second device ∙ first device

-- what was counted behind calls that were not
each-after : (callers : List Actor) (before between after : Plain) → AreUncounted before between
    → EachCounted callers between after → EachCounted callers before after
each-after [] before between after same then = none-counted before between after same then
each-after (caller ∷ callers) before between after same (next, device, made, is, rest) = (
  next,
  device,
  made,
  record {
    counts = subst (λ c. IsCounted c (counts_of next device) (as_told made)) (same device) is.counts;
    others = λ other differ. is.others other differ ∙ same other;
  },
  rest,
)

each-more : (first second : List Actor) (before between after : Plain) → EachCounted first before between
    → EachCounted second between after → EachCounted (first ++ second) before after
each-more [] second before between after same then = each-after second before between after same then
each-more (caller ∷ first) second before between after (next, device, made, is, rest) then =
    (next, device, made, is, each-more first second next between after rest then)

abbrev did : Result (Unit {0}) DevFault
did = as_told true

abbrev failed : Result (Unit {0}) DevFault
failed = as_told false

-- a call of a device that plans nothing and says so was done
was-done : (before after : Counts) (made : Bool) → before.plan ≡ Some [] → IsCounted before after (as_told made)
    → after.faults ≡ before.faults
was-done before after true plan is =
    subst (λ p. IfSome p (λ planned. ¬ (IsErrOf did Failed) → after.faults ≡ before.faults)) plan is.no_fault
    (λ e. cc)
was-done before after false plan is =
    let planned = subst
    (λ p. IfSome p (λ planned. ¬ (IsErrOf failed WantsMemory) → IsErrOf failed Failed ↔ Contains planned after.calls))
    plan is.planned in
    absurd (nothing_in after.calls ((planned (λ e. cc)).0 refl))

-- a device is another, and told to be, or neither
abbrev AreSame : Device → Device → Type 0
AreSame device other = (device ≡ other) × (same_device device other ≡ 1)

abbrev Differ : Device → Device → Type 0
Differ device other = (device ≢ other) × (same_device device other ≡ 0)

decide-device : (device other : Device) → AreSame device other ⊎ Differ device other
decide-device Tree Tree = inl (refl, refl)
decide-device Tree Store = inr (λ e. cc, refl)
decide-device Tree Ring = inr (λ e. cc, refl)
decide-device Store Tree = inr (λ e. cc, refl)
decide-device Store Store = inl (refl, refl)
decide-device Store Ring = inr (λ e. cc, refl)
decide-device Ring Tree = inr (λ e. cc, refl)
decide-device Ring Store = inr (λ e. cc, refl)
decide-device Ring Ring = inl (refl, refl)

one-called : (called : Device) → same_device Tree called + same_device Store called + same_device Ring called ≡ 1
one-called Tree = refl
one-called Store = refl
one-called Ring = refl

-- what one call leaves of each device's counts
module _ (before after : Plain) (called : Device) (made : Bool) (is : AreCounted before after called (as_told made))
    (device : Device) where
  own : device ≡ called → IsCounted (counts_of before device) (counts_of after device) (as_told made)
  own same = subst (λ d. IsCounted (counts_of before d) (counts_of after d) (as_told made)) (sym same) is.counts

  counted-at : (counts_of after device).calls
      ≡ counted_up (same_device device called) (counts_of before device).calls
  counted-at = elim (decide-device device called) [
    | inl same ↦ counted (counts_of before device) (counts_of after device) made (own same.0)
        ∙ ap (λ n. counted_up n (counts_of before device).calls) (sym same.1)
    | inr differ ↦ ap (λ c. c.calls) (is.others device differ.0)
        ∙ ap (λ n. counted_up n (counts_of before device).calls) (sym differ.1)
  ]

  faults-at : (counts_of before device).faults ≤ (counts_of after device).faults
  faults-at = elim (decide-device device called) [
    | inl same ↦ (own same.0).never_falls
    | inr differ ↦ let equal = ap (λ c. c.faults) (is.others device differ.0) in omega (arith, equal)
  ]

  plan-at : (counts_of after device).plan ≡ (counts_of before device).plan
  plan-at = elim (decide-device device called) [
    | inl same ↦ (own same.0).same_plan
    | inr differ ↦ ap (λ c. c.plan) (is.others device differ.0)
  ]

  did-at : (counts_of before device).plan ≡ Some []
      → (counts_of after device).faults ≡ (counts_of before device).faults
  did-at plan = elim (decide-device device called) [
    | inl same ↦ was-done (counts_of before device) (counts_of after device) made plan (own same.0)
    | inr differ ↦ ap (λ c. c.faults) (is.others device differ.0)
  ]

-- a device that plans nothing and says so did each call
pub none-planned : LawOfPlans
none-planned [] before after each device plan = ap (λ c. c.faults) (each device)
none-planned (caller ∷ callers) before after (next, called, made, is, rest) device plan =
    none-planned callers next after rest device (plan-at before next called made is device ∙ plan)
    ∙ did-at before next called made is device plan

-- the counts of the devices
abbrev pub all_counts : Plain → Counts × Counts × Counts
all_counts bench = (bench.tree_counts, bench.store_counts, bench.ring_counts)

alike : (before after : Plain) → all_counts after ≡ all_counts before → AreUncounted before after
alike before after same Tree = ap (λ (counts : Counts × Counts × Counts). counts.0) same
alike before after same Store = ap (λ (counts : Counts × Counts × Counts). counts.1) same
alike before after same Ring = ap (λ (counts : Counts × Counts × Counts). counts.2) same

module _ {D E F : Type 0} (senses : Senses D E F) where
  -- what the devices of a Book counted
  abbrev pub counts_in : BookState (BenchState D E F) → Counts × Counts × Counts
  counts_in book = all_counts (seen senses book).bench

  -- where neither the devices' counts nor the callers changed
  pub counts-same : (before after : BookState (BenchState D E F)) → counts_in after ≡ counts_in before
      → after.ledger.callers ≡ before.ledger.callers → CountsCalls senses before after
  counts-same before after same callers =
      let each = alike (seen senses before).bench (seen senses after).bench same in
      record {
        more = [];
        callers = callers ∙ sym (append-nil before.ledger.callers);
        calls = λ device. 0;
        together = refl;
        counted = λ device. ap (λ c. c.calls) (each device);
        faults = λ device. let equal = ap (λ c. c.faults) (each device) in omega (arith, equal);
        each = each;
      }

  pub counts-joined : (before between after : BookState (BenchState D E F)) → CountsCalls senses before between
      → CountsCalls senses between after → CountsCalls senses before after
  counts-joined before between after first second = record {
    more = first.more ++ second.more;
    callers =
        second.callers ∙ ap (λ cs. cs ++ second.more) first.callers
        ∙ append_assoc before.ledger.callers first.more second.more;
    calls = λ device. first.calls device + second.calls device;
    together =
        let one = first.together in let other = second.together in
        let all = length-append first.more second.more in omega (arith, one, other, all);
    counted =
        λ device. second.counted device ∙ ap (counted_up (second.calls device)) (first.counted device)
        ∙ sym (up-more (first.calls device) (second.calls device)
        (counts_of (seen senses before).bench device).calls);
    faults =
        λ device. let one = first.faults device in let other = second.faults device in omega (arith, one, other);
    each =
        each-more first.more second.more (seen senses before).bench (seen senses between).bench
        (seen senses after).bench first.each second.each;
  }

  module _ (before after : BookState (BenchState D E F)) (actor : Actor) where
    once-counted : (called : Device) (made : Bool) → after.ledger.callers ≡ before.ledger.callers ++ actor ∷ []
        → AreCounted (seen senses before).bench (seen senses after).bench called (as_told made)
        → CountsCalls senses before after
    once-counted called made callers is = record {
      more = actor ∷ [];
      callers = callers;
      calls = λ device. same_device device called;
      together = one-called called;
      counted = λ device. counted-at (seen senses before).bench (seen senses after).bench called made is device;
      faults = λ device. faults-at (seen senses before).bench (seen senses after).bench called made is device;
      each = ((seen senses after).bench, called, made, is, λ device. refl);
    }

    same-counts : after ≡ before → CountsCalls senses before after
    same-counts same = counts-same before after (ap counts_in same) (ap (λ b. b.ledger.callers) same)

    turn-counts : Turns senses before after actor → CountsCalls senses before after
    turn-counts (inl (none, begins)) =
        counts-same before after (ap counts_in begins.state) (ap (λ b. b.ledger.callers) begins.state)
    turn-counts (inr (inl calls)) =
        once-counted calls.device calls.made (ap (λ b. b.ledger.callers) calls.state) calls.counted
    turn-counts (inr (inr replies)) =
        counts-same before after (ap counts_in replies.state) (ap (λ b. b.ledger.callers) replies.state)

    -- whatever a turn answers, its call was counted
    pub answers-count : (turn : Turn) → Answers senses before after actor turn → CountsCalls senses before after
    answers-count Went went = turn-counts went.turn
    answers-count Idle idle = same-counts idle.1
    answers-count Waits waits = same-counts waits.2
