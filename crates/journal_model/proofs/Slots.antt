-- The numbers of a user's slots: the next one with a slot more, and that its slot is free.
use Rattle.std.proofs.Common.{◌≡◌, ◌≢◌, ℕ, ◌+◌, ◌<◌, ◌≤◌, List, [], ◌∷◌, ◌++◌, length, get_or, take, cond, inl, inr}
use Rattle.std.proofs.Common.{refl, sym, ap, ◌∙◌, arith}
use Rattle.std.specs.Prelude.{Some, None, Contains, max, map as map_list}
use Rattle.std.specs.FinMap as map
use Rattle.std.specs.FinMap.Entries.{find}
use Rattle.std.proofs.lemmas.List.{map_more}
use Rattle.std.proofs.lemmas.List.Elements.{Contains-push_cases, Contains-append_cases}
use Rattle.tree_model.specs.declared.places.Slot.{Slot}
use Rattle.tree_model.specs.declared.places.Slot.TheVariants.{Cx}
use Rattle.tree_model.specs.Order.{slot_cmp, slot_total, slot_exact}
use Rattle.tree_model.proofs.Maps.{apart}
use Rattle.journal_model.specs.Users.{Record, after_slot, next_number, next_slot}

-- the number behind slots with one more at their end
pub next_number-append : (slots : List Slot) (slot : Slot)
    → next_number (slots ++ slot ∷ []) ≡ max (after_slot slot) (next_number slots)
next_number-append [] slot = refl
next_number-append (first ∷ slots) slot =
    let rest = next_number-append slots slot in omega (arith, rest)

-- the number behind the slots of one more of rows
pub next_number-more : (rows : List (Slot × List ℕ)) (i : ℕ) (default : Slot × List ℕ) (next next' : ℕ)
    → i < length rows → next' ≡ max (after_slot (get_or rows i default).0) next
    → next ≡ next_number (map_list (λ row. row.0) (take i rows))
    → next' ≡ next_number (map_list (λ row. row.0) (take (i + 1) rows))
next_number-more rows i default next next' within step so_far =
    step ∙ ap (max (after_slot (get_or rows i default).0)) so_far
    ∙ sym (ap next_number (map_more (λ row. row.0) rows i default within)
    ∙ next_number-append (map_list (λ row. row.0) (take i rows)) (get_or rows i default).0)

-- no slot is the one whose number is no less than the number behind it
other-slot : (slot : Slot) (n : ℕ) → after_slot slot ≤ n → slot ≢ Cx n
other-slot slot n below same = omega (arith, ap after_slot same)

slot-below : (slots : List Slot) (slot : Slot) → Contains slots slot → after_slot slot ≤ next_number slots
slot-below [] slot there = absurd (omega (arith, there.1))
slot-below (first ∷ slots) slot there = elim (Contains-append_cases (first ∷ []) slots slot there) [
  | inl one ↦ elim (Contains-push_cases [] first slot one) [
    | inl nothing ↦ absurd (omega (arith, nothing.1))
    | inr is ↦ omega (arith, ap after_slot is)
  ]
  | inr rest ↦ omega (arith, slot-below slots slot rest)
]

-- the slot of the next number is none of the slots
pub next-fresh : (slots : List Slot) (slot : Slot) → Contains slots slot → slot ≢ Cx (next_number slots)
next-fresh slots slot there = other-slot slot (next_number slots) (slot-below slots slot there)

find-next : (rows : List (Slot × List ℕ)) (n : ℕ) → next_number (map_list (λ row. row.0) rows) ≤ n
    → find slot_cmp (Cx n) rows ≡ None
find-next [] n above = refl
find-next (row ∷ rows) n above =
    ap (λ same. cond same (Some row.1) (find slot_cmp (Cx n) rows))
    (apart slot_total slot_exact (Cx n) row.0 (λ same. other-slot row.0 n (omega arith) (sym same)))
    ∙ find-next rows n (omega arith)

-- a further secret of the user comes into a slot that is free
pub next-slot-free : (known : Record) → map.get known.secrets (next_slot known) ≡ None
next-slot-free known = map.get-entries known.secrets (next_slot known)
    ∙ find-next (map.entries known.secrets) (next_number (map.keys known.secrets)) (omega arith)
