-- A ring after its calls: what is found in it, in which order, and that it stays one.
use Rattle.std.proofs.Common.{◌≡◌, ◌≢◌, ℕ, true, false, cond, not, ◌&&◌, filter, List, [], ◌∷◌, ◌++◌}
use Rattle.std.proofs.Common.{refl, sym, ap, ◌∙◌, subst, true≢false}
use Rattle.std.specs.Prelude.{Some, None, IsSome, is_some, ◌==◌}
use Rattle.std.proofs.lemmas.Bool.{eq-eqb, eqb-true, and_parts}
use Rattle.std.proofs.lemmas.Option.{none-some}
use Rattle.tree_model.specs.Tree.{if_there}
use Rattle.tree_model.specs.declared.places.Class.{Class}
use Rattle.tree_model.specs.declared.places.Class.TheVariants.{De, Ce}
use Rattle.tree_model.specs.Counted.{Counts}
use Rattle.key_ring.specs.Kept.{Device, once}
use Rattle.key_ring.specs.Laws.{AfterAdd, AfterRemove, LawOfInstalled}
use Rattle.key_ring.specs.Ring.{InstalledKey, Owner, Ring, owner_of, same_class}
use Rattle.key_ring.specs.Ring.{is_of, key_of, owners, IsRing, installed, removed}

class-same : (class : Class) → same_class class class ≡ true
class-same De = refl
class-same Ce = refl

class-exact : (a b : Class) → same_class a b ≡ true → a ≡ b
class-exact De De same = refl
class-exact De Ce same = cc
class-exact Ce De same = cc
class-exact Ce Ce same = refl

-- a key is of its own user and class
of-self : (key : InstalledKey) → is_of key.user key.class key ≡ true
of-self key = ap (λ t. t && same_class key.class key.class) (eq-eqb key.user key.user refl) ∙ class-same key.class

-- and of no other
pub of-exact : (user : ℕ) (class : Class) (key : InstalledKey) → is_of user class key ≡ true
    → owner_of key ≡ (user, class)
of-exact user class key is =
    let both = and_parts (user == key.user) (same_class class key.class) is in
    λ i. (sym (eqb-true user key.user both.0) i, sym (class-exact class key.class both.1) i)

-- a ring by the user and class of a call
module _ (user : ℕ) (class : Class) where
  pub of-none : (key : InstalledKey) → is_of user class key ≡ false → owner_of key ≢ (user, class)
  of-none key isnt same =
      true≢false (sym (subst (λ owner. is_of owner.0 owner.1 key ≡ true) same (of-self key)) ∙ isnt)

  of-other : (key : InstalledKey) (other : Owner) → other ≢ (user, class)
      → is_of user class key ≡ true
      → is_of other.0 other.1 key ≡ false
  of-other key other differ is =
      elim (is_of other.0 other.1 key) as (λ t. is_of other.0 other.1 key ≡ t → t ≡ false) [
        | true ↦ λ both. absurd (differ (sym (of-exact other.0 other.1 key both) ∙ of-exact user class key is))
        | false ↦ λ isnt. refl
      ] refl

  none-further : (first : InstalledKey) (ring : Ring) → is_of user class first ≡ true
      → key_of ring first.user first.class ≡ None
      → key_of ring user class ≡ None
  none-further first ring is none =
      ap (λ owner. key_of ring owner.0 owner.1) (sym (of-exact user class first is)) ∙ none

  -- an added key
  module _ (key : List ℕ) where
    abbrev new_key : InstalledKey
    new_key = record { user = user; class = class; key = key }

    pub found-added : (ring : Ring) → key_of (installed ring user class key) user class ≡ Some key
    found-added [] = ap (λ t. cond t (Some key) None) (of-self new_key)
    found-added (first ∷ ring) =
        elim (is_of user class first) as (λ t. is_of user class first ≡ t
        → key_of (cond t (record first { key = key } ∷ ring) (first ∷ installed ring user class key)) user class
        ≡ Some key) [
          | true ↦ λ is. ap (λ t. cond t (Some key) (key_of ring user class)) is
          | false ↦ λ is. ap (λ t. cond t (Some first.key) (key_of (installed ring user class key) user class)) is
              ∙ found-added ring
        ] refl

    pub others-added : (ring : Ring) (other : Owner) → other ≢ (user, class)
        → key_of (installed ring user class key) other.0 other.1 ≡ key_of ring other.0 other.1
    others-added [] other differ =
        ap (λ t. cond t (Some key) None) (of-other new_key other differ (of-self new_key))
    others-added (first ∷ ring) other differ =
        elim (is_of user class first) as (λ t. is_of user class first ≡ t
        → key_of (cond t (record first { key = key } ∷ ring) (first ∷ installed ring user class key)) other.0 other.1
        ≡ key_of (first ∷ ring) other.0 other.1) [
          | true ↦ λ is. let isnt = of-other first other differ is in
              ap (λ t. cond t (Some key) (key_of ring other.0 other.1)) isnt
              ∙ sym (ap (λ t. cond t (Some first.key) (key_of ring other.0 other.1)) isnt)
          | false ↦ λ is. ap (λ found. cond (is_of other.0 other.1 first) (Some first.key) found)
              (others-added ring other differ)
        ] refl

    last-added : (ring : Ring) → key_of ring user class ≡ None → installed ring user class key ≡ ring ++ new_key ∷ []
    last-added [] none = refl
    last-added (first ∷ ring) none =
        elim (is_of user class first) as (λ t. cond t (Some first.key) (key_of ring user class) ≡ None
        → cond t (record first { key = key } ∷ ring) (first ∷ installed ring user class key)
        ≡ first ∷ ring ++ new_key ∷ []) [
          | true ↦ λ some. absurd (none-some first.key (sym some))
          | false ↦ λ rest. ap (λ keys. first ∷ keys) (last-added ring rest)
        ] none

    places-added : (ring : Ring) → IsSome (key_of ring user class)
        → owners (installed ring user class key) ≡ owners ring
    places-added [] some = cc
    places-added (first ∷ ring) some =
        elim (is_of user class first) as (λ t. is_some (cond t (Some first.key) (key_of ring user class)) ≡ true
        → owners (cond t (record first { key = key } ∷ ring) (first ∷ installed ring user class key))
        ≡ owners (first ∷ ring)) [
          | true ↦ λ here. refl
          | false ↦ λ rest. ap (λ all. (first.user, first.class) ∷ all) (places-added ring rest)
        ] some

    pub ring-added : (ring : Ring) → IsRing ring → IsRing (installed ring user class key)
    ring-added [] whole = (refl, tt)
    ring-added (first ∷ ring) whole =
        elim (is_of user class first) as (λ t. is_of user class first ≡ t
        → IsRing (cond t (record first { key = key } ∷ ring) (first ∷ installed ring user class key))) [
          | true ↦ λ is. whole
          | false ↦ λ is. (
            others-added ring (owner_of first) (of-none first is) ∙ whole.0,
            ring-added ring whole.1,
          )
        ] refl

    pub after-add : (ring : Ring) → IsRing ring → AfterAdd ring user class key
    after-add ring whole = record {
      whole = ring-added ring whole;
      found = found-added ring;
      others = others-added ring;
      last = last-added ring;
      places = places-added ring;
    }

  -- a removed key
  pub gone-removed : (ring : Ring) → IsRing ring → key_of (removed ring user class) user class ≡ None
  gone-removed [] whole = refl
  gone-removed (first ∷ ring) whole =
      elim (is_of user class first) as (λ t. is_of user class first ≡ t
      → key_of (cond t ring (first ∷ removed ring user class)) user class ≡ None) [
        | true ↦ λ is. none-further first ring is whole.0
        | false ↦ λ is. ap (λ t. cond t (Some first.key) (key_of (removed ring user class) user class)) is
            ∙ gone-removed ring whole.1
      ] refl

  pub others-removed : (ring : Ring) (other : Owner) → other ≢ (user, class)
      → key_of (removed ring user class) other.0 other.1 ≡ key_of ring other.0 other.1
  others-removed [] other differ = refl
  others-removed (first ∷ ring) other differ =
      elim (is_of user class first) as (λ t. is_of user class first ≡ t
      → key_of (cond t ring (first ∷ removed ring user class)) other.0 other.1
      ≡ key_of (first ∷ ring) other.0 other.1) [
        | true ↦ λ is. sym (ap (λ t. cond t (Some first.key) (key_of ring other.0 other.1))
            (of-other first other differ is))
        | false ↦ λ is. ap (λ found. cond (is_of other.0 other.1 first) (Some first.key) found)
            (others-removed ring other differ)
      ] refl

  -- without a key of the user and class nothing is left out
  all-others : (ring : Ring) → key_of ring user class ≡ None → ring ≡ filter (λ key. not (is_of user class key)) ring
  all-others [] none = refl
  all-others (first ∷ ring) none =
      elim (is_of user class first) as (λ t. cond t (Some first.key) (key_of ring user class) ≡ None
      → first ∷ ring ≡ cond (not t) (first ∷ filter (λ key. not (is_of user class key)) ring)
      (filter (λ key. not (is_of user class key)) ring)) [
        | true ↦ λ some. absurd (none-some first.key (sym some))
        | false ↦ λ rest. ap (λ keys. first ∷ keys) (all-others ring rest)
      ] none

  order-removed : (ring : Ring) → IsRing ring
      → removed ring user class ≡ filter (λ key. not (is_of user class key)) ring
  order-removed [] whole = refl
  order-removed (first ∷ ring) whole =
      elim (is_of user class first) as (λ t. is_of user class first ≡ t
      → cond t ring (first ∷ removed ring user class)
      ≡ cond (not t) (first ∷ filter (λ key. not (is_of user class key)) ring)
      (filter (λ key. not (is_of user class key)) ring)) [
        | true ↦ λ is. all-others ring (none-further first ring is whole.0)
        | false ↦ λ is. ap (λ keys. first ∷ keys) (order-removed ring whole.1)
      ] refl

  pub ring-removed : (ring : Ring) → IsRing ring → IsRing (removed ring user class)
  ring-removed [] whole = tt
  ring-removed (first ∷ ring) whole =
      elim (is_of user class first) as (λ t. is_of user class first ≡ t
      → IsRing (cond t ring (first ∷ removed ring user class))) [
        | true ↦ λ is. whole.1
        | false ↦ λ is. (
          others-removed ring (owner_of first) (of-none first is) ∙ whole.0,
          ring-removed ring whole.1,
        )
      ] refl

  pub after-remove : (ring : Ring) → IsRing ring → AfterRemove ring user class
  after-remove ring whole = record {
    whole = ring-removed ring whole;
    gone = gone-removed ring whole;
    others = others-removed ring;
    order = order-removed ring whole;
  }

pub law : LawOfInstalled
law = record {
  empty = tt;
  after_add = λ ring user class key. after-add user class key ring;
  after_remove = λ ring user class. after-remove user class ring;
}

-- a ring has no key more than once
pub once-ring : (ring : Ring) → IsRing ring → once ring ≡ ring
once-ring [] whole = refl
once-ring (first ∷ ring) whole =
    ap (λ keys. if_there (key_of keys first.user first.class) (first ∷ keys) (λ _. keys)) (once-ring ring whole.1)
    ∙ ap (λ found. if_there found (first ∷ ring) (λ _. ring)) whole.0

-- the keys of a device that are a ring are what it tells
pub once-told : {ring : Ring} {counts : Counts} {device : Device} → IsRing ring
    → record { keys = ring; counts = counts } ≡ device
    → ring ≡ once device.keys
once-told {ring} whole is = sym (once-ring ring whole) ∙ ap (λ device. once device.keys) is
