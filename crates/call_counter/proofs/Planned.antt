-- Planned call numbers as the keys of a map.
use Rattle.std.proofs.Common.{◌≡◌, ℕ, ◌+◌, Bool, true, false, cond, refl, sym, ap, ◌∙◌, subst, inl, inr, ◌⊎◌, arith}
use Rattle.std.specs.Prelude.{Option, Some, is_some, IsSome, Contains, ◌↔◌}
use Rattle.std.specs.Ordering.{nat_cmp, eq_by_cmp}
use Rattle.std.specs.Cmp.{nat_cmp_total, eq_by_cmp_equiv, Equal-is}
use Rattle.std.specs.FinMap as map
use Rattle.std.specs.FinMap.{nat_cmp-IsAntisymmetric}
use Rattle.std.proofs.lemmas.Map.Keys.{below_from_sorted}
use Rattle.std.proofs.lemmas.Map.Views.{list_any-from_Contains, Contains-from_any}
use Rattle.std.specs.List.Sorted.{IsStrictlyIncreasing}
use Rattle.sorted_map.proofs.Places.{rising}
use Rattle.sorted_map.proofs.Maps.{aligned-columns}

same_call : (a b : ℕ) → eq_by_cmp nat_cmp a b ≡ true → a ≡ b
same_call a b tied = nat_cmp-IsAntisymmetric a b ((Equal-is (nat_cmp a b)).0 tied)

module _ {V : Type 0} (m : map.FinMap nat_cmp V) where
  -- a number is planned where the map has it
  pub found-planned : (call : ℕ) → IsSome (map.get m call) ↔ Contains (map.keys m) call
  found-planned call = (
    λ found. Contains-from_any same_call call (map.keys m) (sym (map.contains_key-keys m call) ∙ found),
    λ planned. map.contains_key-keys m call
        ∙ list_any-from_Contains (eq_by_cmp_equiv nat_cmp_total) call (map.keys m) planned,
  )

  -- planned numbers rise, so that each stands once
  pub planned-rise : IsStrictlyIncreasing (map.keys m)
  planned-rise k within = below_from_sorted (map.keys m) k (k + 1) 0 (rising (aligned-columns m)) (omega arith) within

found_either : {V : Type 0} (b : Bool) (v : V) (found : Option V) → is_some (cond b (Some v) found) ≡ true
    → (b ≡ true) ⊎ (is_some found ≡ true)
found_either true v found h = inl refl
found_either false v found h = inr h

found_left : {V : Type 0} (b : Bool) (v : V) (found : Option V) → b ≡ true → is_some (cond b (Some v) found) ≡ true
found_left b v found h = ap (λ t. is_some (cond t (Some v) found)) h

found_right : {V : Type 0} (b : Bool) (v : V) (found : Option V) → is_some found ≡ true
    → is_some (cond b (Some v) found) ≡ true
found_right true v found h = refl
found_right false v found h = h

-- one more planned number
pub planned-insert : {V : Type 0} (m : map.FinMap nat_cmp V) (call : ℕ) (v : V) (q : ℕ)
    → Contains (map.keys (map.insert m call v)) q ↔ (Contains (map.keys m) q ⊎ (q ≡ call))
planned-insert m call v q =
    let finds = ap is_some (map.get-insert nat_cmp_total m call v q) in
    let tied = eq_by_cmp nat_cmp q call in
    let now = found-planned (map.insert m call v) q in
    let before = found-planned m q in (
      λ planned. elim (found_either tied v (map.get m q) (sym finds ∙ now.1 planned)) [
        | inl same ↦ inr (same_call q call same)
        | inr found ↦ inl (before.0 found)
      ],
      λ either. now.0 (finds ∙ elim either [
        | inl planned ↦ found_right tied v (map.get m q) (before.1 planned)
        | inr same ↦ found_left tied v (map.get m q)
            (subst (λ k. eq_by_cmp nat_cmp q k ≡ true) same ((eq_by_cmp_equiv nat_cmp_total).refl q))
      ]),
    )
