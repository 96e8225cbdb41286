-- A ring by the users and classes of its keys alone.
use Rattle.std.proofs.Common.{◌≡◌, ◌≢◌, ◌⊎◌, inl, inr, ℕ, true, false, cond, List, [], ◌∷◌, refl, sym, ap}
use Rattle.std.specs.Prelude.{Some, None, is_some}
use Rattle.tree_model.specs.declared.places.Class.{Class}
use Rattle.tree_model.specs.declared.places.Class.TheVariants.{De, Ce}
use Rattle.key_ring.specs.Laws.{LawOfOwners}
use Rattle.key_ring.specs.Ring.{InstalledKey, Owner, Ring, IsRing, owner_of, same_class, is_of, key_of, owners}
use Rattle.key_ring.specs.Ring.{installed, removed, has_owner, with_owner, without_owner}
use Rattle.key_ring.proofs.Rings.{of-exact, of-none, found-added, others-added, gone-removed, others-removed}

pub found : (ring : Ring) (user : ℕ) (class : Class)
    → has_owner (owners ring) user class ≡ is_some (key_of ring user class)
found [] user class = refl
found (first ∷ ring) user class =
    elim (is_of user class first) as (λ t.
    cond t true (has_owner (owners ring) user class) ≡ is_some (cond t (Some first.key) (key_of ring user class))) [
      | true ↦ refl
      | false ↦ found ring user class
    ]

pub added : (ring : Ring) (user : ℕ) (class : Class) (key : List ℕ)
    → owners (installed ring user class key) ≡ with_owner (owners ring) user class
added [] user class key = refl
added (first ∷ ring) user class key =
    elim (is_of user class first) as (λ t.
    owners (cond t (record first { key = key } ∷ ring) (first ∷ installed ring user class key))
    ≡ cond t (owner_of first ∷ owners ring) (owner_of first ∷ with_owner (owners ring) user class)) [
      | true ↦ refl
      | false ↦ ap (λ all. owner_of first ∷ all) (added ring user class key)
    ]

pub taken : (ring : Ring) (user : ℕ) (class : Class)
    → owners (removed ring user class) ≡ without_owner (owners ring) user class
taken [] user class = refl
taken (first ∷ ring) user class =
    elim (is_of user class first) as (λ t.
    owners (cond t ring (first ∷ removed ring user class))
    ≡ cond t (owners ring) (owner_of first ∷ without_owner (owners ring) user class)) [
      | true ↦ refl
      | false ↦ ap (λ all. owner_of first ∷ all) (taken ring user class)
    ]

pub owned : LawOfOwners
owned = record { found = found; added = added; taken = taken }

-- two users and classes are the same, or not
pub decide-owner : (one other : Owner) → (one ≡ other) ⊎ (one ≢ other)
decide-owner one other =
    let key : InstalledKey = record { user = other.0; class = other.1; key = [] } in
    elim (is_of one.0 one.1 key) as (λ t. is_of one.0 one.1 key ≡ t → (one ≡ other) ⊎ (one ≢ other)) [
      | true ↦ λ is. inl (sym (of-exact one.0 one.1 key is))
      | false ↦ λ isnt. inr (λ same. of-none one.0 one.1 key isnt (sym same))
    ] refl

classes-differ : De ≡ Ce → ⊥
classes-differ e = cc

-- a user's keys after an addition to them
pub keys-added : (ring : Ring) (user : ℕ) (class : Class) (key : List ℕ) (other : Class)
    → key_of (installed ring user class key) user other
    ≡ cond (same_class other class) (Some key) (key_of ring user other)
keys-added ring user De key De = found-added user De key ring
keys-added ring user De key Ce = others-added user De key ring (user, Ce) (λ e. classes-differ (λ i. (sym e i).1))
keys-added ring user Ce key De = others-added user Ce key ring (user, De) (λ e. classes-differ (λ i. (e i).1))
keys-added ring user Ce key Ce = found-added user Ce key ring

-- and after a removal
pub keys-removed : (ring : Ring) (user : ℕ) (class : Class) (other : Class) → IsRing ring
    → key_of (removed ring user class) user other ≡ cond (same_class other class) None (key_of ring user other)
keys-removed ring user De De whole = gone-removed user De ring whole
keys-removed ring user De Ce whole = others-removed user De ring (user, Ce) (λ e. classes-differ (λ i. (sym e i).1))
keys-removed ring user Ce De whole = others-removed user Ce ring (user, De) (λ e. classes-differ (λ i. (e i).1))
keys-removed ring user Ce Ce whole = gone-removed user Ce ring whole

-- and another user's
pub others-keys : (ring : Ring) (user : ℕ) (class : Class) (key : List ℕ) (other : ℕ) → other ≢ user
    → key_of (installed ring user class key) other ≡ key_of ring other
others-keys ring user class key other differ =
    λ i kind. others-added user class key ring (other, kind) (λ same. differ (ap (λ (owner : Owner). owner.0) same)) i

pub others-stay : (ring : Ring) (user : ℕ) (class : Class) (other : ℕ) → other ≢ user
    → key_of (removed ring user class) other ≡ key_of ring other
others-stay ring user class other differ =
    λ i kind. others-removed user class ring (other, kind) (λ same. differ (ap (λ (owner : Owner). owner.0) same)) i
