-- Slots without one of them: which they are, how many, and what is left of a task's others once the first was dropped.
use Rattle.std.proofs.Common.{◌≡◌, ◌≢◌, ◌≤◌, inl, inr, Bool, true, false, cond, not, List, [], ◌∷◌, length, refl}
use Rattle.std.proofs.Common.{sym, ap, ◌∙◌, subst, arith}
use Rattle.std.specs.Prelude.{Some, Contains, slice_get}
use Rattle.std.specs.Ordering.{eq_by_cmp}
use Rattle.std.proofs.lemmas.Bool.{false≢true}
use Rattle.std.proofs.lemmas.List.Filters.{length-filter_both}
use Rattle.tree_model.specs.declared.places.Slot.{Slot}
use Rattle.tree_model.specs.Order.{slot_cmp, slot_total, slot_exact}
use Rattle.tree_model.proofs.Maps.{tied, apart}
use Rattle.keystore_model.proofs.Elements.{Contains-none, Contains-first, Contains-rest, Contains-cases}
use Rattle.fixate_task.specs.Task.{without, after_with}

module _ (slot : Slot) where
  -- what a test of the first slot leaves of it and the others
  abbrev tested : Slot → List Slot → Bool → List Slot
  tested first slots same = cond (not same) (first ∷ without slot slots) (without slot slots)

  pub length-without : (slots : List Slot) → length (without slot slots) ≤ length slots
  length-without slots =
      let both = length-filter_both (λ other. not (eq_by_cmp slot_cmp other slot))
      (λ other. not (not (eq_by_cmp slot_cmp other slot))) (λ other. refl) slots in omega arith

  pub without-first : (slots : List Slot) → without slot (slot ∷ slots) ≡ without slot slots
  without-first slots = ap (tested slot slots) (tied slot_total slot_exact slot slot refl)

  pub in-without : (slots : List Slot) (other : Slot) → other ≢ slot → Contains slots other
      → Contains (without slot slots) other
  in-without [] other differ has = has
  in-without (first ∷ slots) other differ has =
      let behind = in-without slots other differ in
      elim (Contains-cases first slots other has) as (λ _. Contains (without slot (first ∷ slots)) other) [
        | inl same ↦ subst (λ t. Contains (tested first slots t) other)
            (sym (apart slot_total slot_exact first slot (λ is. differ (sym same ∙ is))))
            (subst (Contains (first ∷ without slot slots)) same (Contains-first first (without slot slots)))
        | inr rest ↦ elim (eq_by_cmp slot_cmp first slot) as (λ t. Contains (tested first slots t) other) [
          | true ↦ behind rest
          | false ↦ Contains-rest first (without slot slots) other (behind rest)
        ]
      ]

  one-more : (first : Slot) (slots : List Slot) (other : Slot) → (other ≢ slot) × Contains slots other
      → (other ≢ slot) × Contains (first ∷ slots) other
  one-more first slots other of = (of.0, Contains-rest first slots other of.1)

  pub of-without : (slots : List Slot) (other : Slot) → Contains (without slot slots) other
      → (other ≢ slot) × Contains slots other
  of-without [] other has = absurd (Contains-none other has)
  of-without (first ∷ slots) other has =
      elim (eq_by_cmp slot_cmp first slot) as (λ t. eq_by_cmp slot_cmp first slot ≡ t
      → Contains (tested first slots t) other → (other ≢ slot) × Contains (first ∷ slots) other) [
        | true ↦ λ is among. one-more first slots other (of-without slots other among)
        | false ↦ λ is among. elim (Contains-cases first (without slot slots) other among) [
          | inl same ↦ (
            (λ one. false≢true (sym is ∙ tied slot_total slot_exact first slot (same ∙ one))),
            subst (Contains (first ∷ slots)) same (Contains-first first slots),
          )
          | inr rest ↦ one-more first slots other (of-without slots other rest)
        ]
      ] refl has

-- the first of the others is dropped
pub after-drop : (kept slot : Slot) (others : List Slot) → slice_get others 0 ≡ Some slot
    → record { kept = kept; others = without slot others } ≡ after_with kept others
after-drop kept slot [] is = cc
after-drop kept slot (first ∷ others) is =
    let same : first ≡ slot = cc in ap (λ s. record { kept = kept; others = without s (first ∷ others) }) (sym same)
