-- A device of which the calls of some faults are planned to fail, and those of one more.
use Rattle.std.proofs.Common.{◌≡◌, ℕ, ◌+◌, ◌<◌, ◌^◌, ◌↔◌, ◌⊎◌, inl, inr, refl, List, [], ◌∷◌, ◌++◌, length, get_or}
use Rattle.std.proofs.Common.{take, sym, ap, subst, ◌∙◌, arith, add-one}
use Rattle.std.specs.Prelude.{Some, None, IsSome, IsSomeAnd, IfSome, Contains}
use Rattle.std.proofs.Math.Seq.{take-suc}
use Rattle.std.proofs.lemmas.List.{append-nil, flat_map_more}
use Rattle.std.proofs.lemmas.List.Elements.{Contains-append_left, Contains-push, Contains-push_cases}
use Rattle.tree_model.specs.Counted.{Counts, Plan, IsPlanned, planned_more}
use Rattle.journal_model.specs.declared.entries.Device.{Device}
use Rattle.journal_model.specs.declared.entries.Device.TheVariants.{Tree as TreeDevice, Store as StoreDevice}
use Rattle.journal_model.specs.declared.entries.Device.TheVariants.{Ring as RingDevice}
use Rattle.vold_cases.specs.declared.case.Planned.{Planned}
use Rattle.vold_cases.specs.Played.{calls_of, number_at, ArePlanned, HasNumbers, Plans}

numbers_more : (before after numbers : List ℕ) (calls nth : ℕ) → calls ≡ 0 → nth < 2 ^ 64 → HasNumbers numbers before
    → planned_more before calls nth after → HasNumbers (numbers ++ nth ∷ []) after
numbers_more before after numbers calls nth none small same more call = (forth, back)
  where
    by_case : Contains before call ⊎ ((call ≡ calls + nth) × (call < 2 ^ 64)) → Contains (numbers ++ nth ∷ []) call
    by_case (inl known) = Contains-append_left numbers (nth ∷ []) call ((same call).0 known)
    by_case (inr (is, fits)) = let it : nth ≡ call = omega arith in subst (Contains (numbers ++ nth ∷ [])) it
        (Contains-push numbers nth)

    forth : Contains after call → Contains (numbers ++ nth ∷ []) call
    forth planned = by_case ((more call).0 planned)

    by_place : Contains numbers call ⊎ (nth ≡ call) → Contains after call
    by_place (inl known) = (more call).1 (inl ((same call).1 known))
    by_place (inr is) = (more call).1 (inr (omega arith, omega arith))

    back : Contains (numbers ++ nth ∷ []) call → Contains after call
    back named = by_place (Contains-push_cases numbers nth call named)

plan_more : (before after : Plan) (numbers : List ℕ) (calls nth : ℕ) → calls ≡ 0 → nth < 2 ^ 64
    → IsSomeAnd before (HasNumbers numbers) → IsSome before ↔ IsSome after
    → IfSome before (λ planned. IfSome after (λ planned'. planned_more planned calls nth planned')) → IsSomeAnd after
    (HasNumbers (numbers ++ nth ∷ []))
plan_more None after numbers calls nth none small planned told more = absurd planned
plan_more (Some before) None numbers calls nth none small planned told more = absurd (let never = told.0 refl in cc)
plan_more (Some before) (Some after) numbers calls nth none small planned told more =
    numbers_more before after numbers calls nth none small planned more

-- one more call of the device is planned
planned_more_at : (device : Device) (faults : List Planned) (fault : Planned) (before after : Counts)
    → number_at device fault.device fault.call ≡ fault.call ∷ [] → fault.call < 2 ^ 64
    → ArePlanned device faults before
    → IsPlanned before after fault.call → ArePlanned device (faults ++ fault ∷ []) after
planned_more_at device faults fault before after own small were planned =
    let numbers : calls_of device (faults ++ fault ∷ []) ≡ calls_of device faults ++ fault.call ∷ [] =
    sym (flat_map_more (λ (f : Planned). number_at device f.device f.call) [] faults fault)
    ∙ ap (λ ns. calls_of device faults ++ ns) own in
    record {
      calls = planned.same_calls ∙ were.calls;
      none = planned.same_faults ∙ were.none;
      planned = subst (λ ns. IsSomeAnd after.plan (HasNumbers ns)) (sym numbers)
          (plan_more before.plan after.plan (calls_of device faults) before.calls fault.call
          were.calls small were.planned planned.told planned.planned);
    }

-- one of another device's is not
planned_same : (device : Device) (faults : List Planned) (fault : Planned) (before after : Counts)
    → number_at device fault.device fault.call ≡ [] → ArePlanned device faults before → after ≡ before
    → ArePlanned device (faults ++ fault ∷ []) after
planned_same device faults fault before after other were same =
    let numbers : calls_of device (faults ++ fault ∷ []) ≡ calls_of device faults =
    sym (flat_map_more (λ (f : Planned). number_at device f.device f.call) [] faults fault)
    ∙ ap (λ ns. calls_of device faults ++ ns) other ∙ append-nil (calls_of device faults) in
    subst (ArePlanned device (faults ++ fault ∷ [])) (sym same) (record {
      calls = were.calls;
      none = were.none;
      planned = subst (λ ns. IsSomeAnd before.plan (HasNumbers ns)) (sym numbers) were.planned;
    })

-- a fault is the device's own, and planned there, or it is another's, and changes nothing
own-or-other : (device other : Device) (call : ℕ) (before after : Counts) → Plans device other call before after
    → ((number_at device other call ≡ call ∷ []) × IsPlanned before after call)
    ⊎ ((number_at device other call ≡ []) × (after ≡ before))
own-or-other TreeDevice TreeDevice call before after plans = inl (refl, plans)
own-or-other TreeDevice StoreDevice call before after plans = inr (refl, plans)
own-or-other TreeDevice RingDevice call before after plans = inr (refl, plans)
own-or-other StoreDevice TreeDevice call before after plans = inr (refl, plans)
own-or-other StoreDevice StoreDevice call before after plans = inl (refl, plans)
own-or-other StoreDevice RingDevice call before after plans = inr (refl, plans)
own-or-other RingDevice TreeDevice call before after plans = inr (refl, plans)
own-or-other RingDevice StoreDevice call before after plans = inr (refl, plans)
own-or-other RingDevice RingDevice call before after plans = inl (refl, plans)

-- one more fault
fault_more : (device : Device) (faults : List Planned) (fault : Planned) (before after : Counts)
    → fault.call < 2 ^ 64 → ArePlanned device faults before → Plans device fault.device fault.call before after
    → ArePlanned device (faults ++ fault ∷ []) after
fault_more device faults fault before after small were plans =
    elim (own-or-other device fault.device fault.call before after plans) [
      | inl own ↦ planned_more_at device faults fault before after own.0 small were own.1
      | inr other ↦ planned_same device faults fault before after other.0 were other.1
    ]

-- the next fault of those
pub fault_planned : (device : Device) (faults : List Planned) (i : ℕ) (fault : Planned) (before after : Counts)
    → i < length faults → fault ≡ get_or faults i fault → fault.call < 2 ^ 64
    → ArePlanned device (take i faults) before → Plans device fault.device fault.call before after
    → ArePlanned device (take (i + 1) faults) after
fault_planned device faults i fault before after within is small were plans =
    let one_more : take (i + 1) faults ≡ take i faults ++ fault ∷ [] = ap (λ n. take n faults) (add-one i)
    ∙ take-suc faults i fault within ∙ ap (λ f. take i faults ++ f ∷ []) (sym is) in
    subst (λ fs. ArePlanned device fs after) (sym one_more)
    (fault_more device (take i faults) fault before after small were plans)
