-- The orders of slots and places: the order in which the variants stand, then that of their numbers.
use Rattle.std.specs.Prelude.{◌≡◌, ℕ, List, [], ◌∷◌, refl}
use Rattle.std.specs.declared.cmp.Ordering.{Ordering}
use Rattle.std.specs.Ordering.{nat_cmp}
use Rattle.std.specs.Cmp.{IsTotalOrder, on_total}
use Rattle.std.specs.Cmp.Lexicographic.{slice_cmp, nat_list_cmp_total}
use Rattle.std.specs.FinMap.{IsAntisymmetric, nat_cmp-IsAntisymmetric, slice_cmp-IsAntisymmetric}
use Rattle.std.specs.Coded.{Coded, code_by, coded_ℕ, coded_list}
use Rattle.std.proofs.Common.{zero, suc, sym, ap, ◌∙◌}
use Rattle.tree_model.specs.declared.places.Slot.{Slot}
use Rattle.tree_model.specs.declared.places.Slot.TheVariants.{Current, Cx}
use Rattle.tree_model.specs.declared.places.Place.{Place}
use Rattle.tree_model.specs.declared.places.Place.TheVariants.{De, Ce, Temp}

-- a slot as numbers, which a list's order compares
abbrev pub slot_key : Slot → List ℕ
slot_key Current = 0 ∷ []
slot_key (Cx n) = 1 ∷ n ∷ []

abbrev pub key_slot : List ℕ → Slot
key_slot [] = Current
key_slot (zero ∷ ns) = Current
key_slot (suc k ∷ []) = Current
key_slot (suc k ∷ n ∷ ns) = Cx n

pub key_slot-slot_key : (slot : Slot) → key_slot (slot_key slot) ≡ slot
key_slot-slot_key Current = refl
key_slot-slot_key (Cx n) = refl

abbrev pub slot_cmp : Slot → Slot → Ordering
slot_cmp a b = slice_cmp nat_cmp (slot_key a) (slot_key b)

pub slot_total : IsTotalOrder slot_cmp
slot_total = on_total slot_key nat_list_cmp_total

-- only equal slots tie
pub slot_exact : IsAntisymmetric slot_cmp
slot_exact a b tie =
    sym (key_slot-slot_key a)
    ∙ ap key_slot (slice_cmp-IsAntisymmetric nat_cmp-IsAntisymmetric (slot_key a) (slot_key b) tie)
    ∙ key_slot-slot_key b

abbrev pub slot_code : Coded Slot
slot_code = code_by (List ℕ) (coded_list coded_ℕ) slot_key key_slot key_slot-slot_key

-- a place as numbers, which a list's order compares
abbrev pub place_key : Place → List ℕ
place_key (De user) = 0 ∷ user ∷ []
place_key (Ce user slot) = 1 ∷ user ∷ slot_key slot
place_key (Temp user) = 2 ∷ user ∷ []

abbrev pub key_place : List ℕ → Place
key_place [] = De 0
key_place (kind ∷ []) = De 0
key_place (zero ∷ user ∷ ns) = De user
key_place (suc zero ∷ user ∷ ns) = Ce user (key_slot ns)
key_place (suc (suc kind) ∷ user ∷ ns) = Temp user

pub key_place-place_key : (place : Place) → key_place (place_key place) ≡ place
key_place-place_key (De user) = refl
key_place-place_key (Ce user slot) = ap (Ce user) (key_slot-slot_key slot)
key_place-place_key (Temp user) = refl

abbrev pub place_cmp : Place → Place → Ordering
place_cmp a b = slice_cmp nat_cmp (place_key a) (place_key b)

pub place_total : IsTotalOrder place_cmp
place_total = on_total place_key nat_list_cmp_total

-- only equal places tie
pub place_exact : IsAntisymmetric place_cmp
place_exact a b tie =
    sym (key_place-place_key a)
    ∙ ap key_place (slice_cmp-IsAntisymmetric nat_cmp-IsAntisymmetric (place_key a) (place_key b) tie)
    ∙ key_place-place_key b

abbrev pub place_code : Coded Place
place_code = code_by (List ℕ) (coded_list coded_ℕ) place_key key_place key_place-place_key
