-- The key that is found for the user and class at a place of a ring is the key there, and what is printed of it.
use Rattle.std.proofs.Common.{◌≡◌, ◌≢◌, ℕ, zero, suc, ◌+◌, ◌<◌, true, false, cond, List, [], ◌∷◌, ◌++◌, length}
use Rattle.std.proofs.Common.{take, map, refl, sym, ap, ◌∙◌, add-one, arith}
use Rattle.std.specs.Prelude.{Some, None, slice_get}
use Rattle.std.specs.Option.{option_map}
use Rattle.std.proofs.lemmas.Option.{none-some, same_Some, slice_get-map, slice_get_within, get_or_from_slice_get}
use Rattle.std.proofs.Math.Seq.{take-suc}
use Rattle.key_ring.specs.Reference.{key_ref}
use Rattle.key_ring.specs.Ring.{InstalledKey, Owner, Ring, IsRing, is_of, key_of, owner_of, owners}
use Rattle.key_ring.proofs.Rings.{of-exact, of-none}
use Rattle.script_text.specs.declared.ring_lines.KeyRow.{KeyRow}
use Rattle.script_text.specs.Ring.{key_row}

-- the key at a place, which its user and class find
record IsAt (ring : Ring) (place : ℕ) : Type 0 where
  installed : InstalledKey
  at : slice_get ring place ≡ Some installed
  owner : slice_get (owners ring) place ≡ Some (owner_of installed)
  found : key_of ring installed.user installed.class ≡ Some installed.key

-- the first key is found
here : (first : InstalledKey) (ring : Ring) → key_of (first ∷ ring) first.user first.class ≡ Some first.key
here first ring =
    elim (is_of first.user first.class first) as (λ t. is_of first.user first.class first ≡ t
    → cond t (Some first.key) (key_of ring first.user first.class) ≡ Some first.key) [
      | true ↦ λ is. refl
      | false ↦ λ isnt. absurd (of-none first.user first.class first isnt refl)
    ] refl

-- and hides none of those behind it
behind : (first : InstalledKey) (ring : Ring) (other : InstalledKey) → key_of ring first.user first.class ≡ None
    → key_of ring other.user other.class ≡ Some other.key
    → key_of (first ∷ ring) other.user other.class ≡ Some other.key
behind first ring other none found =
    elim (is_of other.user other.class first) as (λ t. is_of other.user other.class first ≡ t
    → cond t (Some first.key) (key_of ring other.user other.class) ≡ Some other.key) [
      | true ↦ λ is. absurd (none-some other.key (sym none
          ∙ ap (λ (owner : Owner). key_of ring owner.0 owner.1) (of-exact other.user other.class first is) ∙ found))
      | false ↦ λ isnt. found
    ] refl

key-at : (ring : Ring) (place : ℕ) → place < length ring → IsRing ring → IsAt ring place
key-at [] place within whole = absurd (omega (arith, within))
key-at (first ∷ ring) zero within whole =
    record { installed = first; at = refl; owner = refl; found = here first ring }
key-at (first ∷ ring) (suc place) within whole =
    let it = key-at ring place (omega (arith, within)) whole.1 in
    record {
      installed = it.installed;
      at = it.at;
      owner = it.owner;
      found = behind first ring it.installed whole.0 it.found;
    }

module _ (ring : Ring) (place : ℕ) (within : place < length ring) (whole : IsRing ring) where
  at-here : IsAt ring place
  at-here = key-at ring place within whole

  module _ (owner : Owner) (at : slice_get (owners ring) place ≡ Some owner) where
    found-here : key_of ring owner.0 owner.1 ≡ Some at-here.installed.key
    found-here =
        ap (λ (one : Owner). key_of ring one.0 one.1) (same_Some owner (owner_of at-here.installed)
        (sym at ∙ at-here.owner)) ∙ at-here.found

    -- it is found
    pub key-there : key_of ring owner.0 owner.1 ≢ None
    key-there none = none-some at-here.installed.key (sym none ∙ found-here)

    -- and printed
    pub row-there : (key : List ℕ) → key_of ring owner.0 owner.1 ≡ Some key
        → slice_get (map key_row ring) place
        ≡ Some (record { user = owner.0; class = owner.1; reference = key_ref key })
    row-there key found =
        let own = same_Some owner (owner_of at-here.installed) (sym at ∙ at-here.owner) in
        let same = same_Some key at-here.installed.key (sym found ∙ found-here) in
        slice_get-map key_row ring place ∙ ap (option_map key_row) at-here.at
        ∙ sym (λ i. Some (record { user = (own i).0; class = (own i).1; reference = key_ref (same i) }))

-- one more row
pub row-more : (ring : Ring) (place : ℕ) (row : KeyRow) (rows rows' : List KeyRow)
    → slice_get (map key_row ring) place ≡ Some row → rows ≡ take place (map key_row ring)
    → rows' ≡ rows ++ row ∷ [] → rows' ≡ take (place + 1) (map key_row ring)
row-more ring place row rows rows' at before added =
    let all = map key_row ring in
    added
    ∙ ap (λ rs. rs ++ row ∷ []) before
    ∙ ap (λ r. take place all ++ r ∷ []) (sym (get_or_from_slice_get all place row row at))
    ∙ sym (take-suc all place row (slice_get_within all place row at))
    ∙ ap (λ n. take n all) (sym (add-one place))
