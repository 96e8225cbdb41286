-- What is due of what a command listed: it is listed still, was synced, and is the first of the command's items that
-- is.
use Rattle.std.proofs.Common.{◌≡◌, ◌≤◌, ◌<◌, ℕ, inl, inr, true, false, cond, List, [], ◌∷◌, refl, sym, ap}
use Rattle.std.proofs.Common.{◌∙◌, subst, arith, eq-eqb}
use Rattle.std.proofs.lemmas.Bool.{eqb-true}
use Rattle.std.proofs.lemmas.Bool.Decides.{nat_tests}
use Rattle.std.proofs.lemmas.Option.{none-some, same_Some}
use Rattle.std.specs.Prelude.{◌==◌, ◌⊎◌, nat_le, Option, Some, None, IfSome, IfNone, IsTrue, Contains}
use Rattle.keystore_model.proofs.Elements.{Contains-none, Contains-first, Contains-rest, Contains-cases}
use Rattle.deferred_delete.specs.declared.items.Item.{Item}
use Rattle.deferred_delete.specs.Deferral.{Deferral, IsNumbered, IsFirstSynced, NoneSynced, due_of as first_due}
use Rattle.deferred_delete.proofs.Found.{found-first, found-none}
use Rattle.vold_book.specs.Owed.{Owed, due_of, due_among, synced_at, if_numbered, or_else}
use Rattle.vold_book.specs.Owing.{InOrder}

-- the item is listed, was synced, and has the number of one of these items, from a number on
pub record IsDue (list : Deferral) (from : ℕ) (items : List Item) (item : Item) : Type 0 where
  pub listed : Contains list.items item
  pub synced : item.synced ≡ true
  pub own : Item
  pub among : Contains items own
  pub same : item.number ≡ own.number
  pub reached : from ≤ own.number

module _ (list : Deferral) (numbered : IsNumbered list) where
  record IsSyncedAt (number : ℕ) (item : Item) : Type 0 where
    first : IsFirstSynced list number item
    same : item.number ≡ number

  synced-at : (number : ℕ) (item : Item) → synced_at list number ≡ Some item → IsSyncedAt number item
  synced-at number item is = by (first_due list false number) refl is
    where
      by : (found : Option Item) → first_due list false number ≡ found → if_numbered number found ≡ Some item
          → IsSyncedAt number item
      by None found is = cc
      by (Some other) found is = elim (other.number == number) as (λ t. other.number == number ≡ t
          → cond t (Some other) None ≡ Some item → IsSyncedAt number item) [
            | true ↦ λ same is. subst (IsSyncedAt number) (same_Some other item is) (record {
              first = subst (λ f. IfSome f (IsFirstSynced list number)) found
                  (found-first list number numbered (first_due list false number) refl);
              same = eqb-true other.number number same;
            })
            | false ↦ λ same is. cc
          ] refl is

  due-among : (from : ℕ) (items : List Item) (item : Item) → due_among list from items ≡ Some item
      → IsDue list from items item
  due-among from [] item is = cc
  due-among from (first ∷ rest) item is =
      by (cond (nat_le from first.number) (synced_at list first.number) None) refl is (due-among from rest item)
    where
      here : (found : Item) → cond (nat_le from first.number) (synced_at list first.number) None ≡ Some found
          → IsDue list from (first ∷ rest) found
      here found is = elim (nat_le from first.number) as (λ t. nat_le from first.number ≡ t
          → cond t (synced_at list first.number) None ≡ Some found → IsDue list from (first ∷ rest) found) [
            | true ↦ λ low is. let at = synced-at first.number found is in record {
              listed = at.first.there;
              synced = at.first.synced;
              own = first;
              among = Contains-first first rest;
              same = at.same;
              reached = grind (arith, nat_tests, low);
            }
            | false ↦ λ low is. cc
          ] refl is

      by : (found : Option Item) → cond (nat_le from first.number) (synced_at list first.number) None ≡ found
          → or_else found (due_among list from rest) ≡ Some item
          → (due_among list from rest ≡ Some item → IsDue list from rest item) → IsDue list from (first ∷ rest) item
      by None none is others = let later = others is in record {
        listed = later.listed;
        synced = later.synced;
        own = later.own;
        among = Contains-rest first rest later.own later.among;
        same = later.same;
        reached = later.reached;
      }
      by (Some found) some is others = subst (IsDue list from (first ∷ rest)) (same_Some found item is)
          (here found some)

  pub due-listed : (owed : Owed) (item : Item) → due_of list owed ≡ Some item → IsDue list owed.from owed.items item
  due-listed owed item is = due-among owed.from owed.items item is

  -- where none of a number is due, none of it is synced
  pub none-synced : (number : ℕ) → synced_at list number ≡ None → (item : Item) → Contains list.items item
      → item.number ≡ number → ¬ (item.synced ≡ true)
  none-synced number none item has same synced =
      by (first_due list false number) refl none (found-first list number numbered (first_due list false number) refl)
      (found-none list number false (first_due list false number) refl)
    where
      by : (found : Option Item) → first_due list false number ≡ found → if_numbered number found ≡ None
          → IfSome found (IsFirstSynced list number) → IfNone found (IsTrue false ⊎ NoneSynced list number) → ⊥
      by None found none first (inl active) = cc
      by None found none first (inr nothing) = nothing item has synced (omega (arith, same))
      by (Some other) found none first nothing =
          let low = first.first item has synced (omega (arith, same)) in
          let high = first.reached in
          let here : other.number ≡ number = omega (arith, low, high, same) in
          none-some other (sym none ∙ ap (λ t. cond t (Some other) None) (eq-eqb other.number number here))

  -- none of the items from a number on is synced where none is due
  pub none-due : (from : ℕ) (items : List Item) → due_among list from items ≡ None → (own : Item)
      → Contains items own → from ≤ own.number → synced_at list own.number ≡ None
  none-due from [] none own has reached = absurd (Contains-none own has)
  none-due from (first ∷ rest) none own has reached =
      by (cond (nat_le from first.number) (synced_at list first.number) None) refl none (none-due from rest)
      (Contains-cases first rest own has)
    where
      by : (found : Option Item) → cond (nat_le from first.number) (synced_at list first.number) None ≡ found
          → or_else found (due_among list from rest) ≡ None
          → (due_among list from rest ≡ None → (own : Item) → Contains rest own → from ≤ own.number
          → synced_at list own.number ≡ None) → (first ≡ own) ⊎ Contains rest own
          → synced_at list own.number ≡ None
      by (Some found) is none others which = cc
      by None is none others (inr later) = others none own later reached
      by None is none others (inl same) =
          let low : nat_le from first.number ≡ true =
          grind (arith, nat_tests, reached, ap (λ (i : Item). i.number) same) in
          subst (λ (i : Item). synced_at list i.number ≡ None) same
          (sym (ap (λ t. cond t (synced_at list first.number) None) low) ∙ is)

  -- nor any of those before what is due
  pub none-before : (from : ℕ) (items : List Item) (item : Item) → InOrder list items
      → due_among list from items ≡ Some item → (own : Item) → Contains items own → from ≤ own.number
      → own.number < item.number → synced_at list own.number ≡ None
  none-before from [] item order is own has reached before = absurd (Contains-none own has)
  none-before from (first ∷ rest) item order is own has reached before =
      by (cond (nat_le from first.number) (synced_at list first.number) None) refl is
      (none-before from rest item order.1) (Contains-cases first rest own has)
    where
      low : first ≡ own → nat_le from first.number ≡ true
      low same = grind (arith, nat_tests, reached, ap (λ (i : Item). i.number) same)

      here : (found : Item) → cond (nat_le from first.number) (synced_at list first.number) None ≡ Some found
          → found.number ≡ first.number
      here found is = elim (nat_le from first.number) as (λ t. cond t (synced_at list first.number) None ≡ Some found
          → found.number ≡ first.number) [
            | true ↦ λ is. (synced-at first.number found is).same
            | false ↦ λ is. cc
          ] is

      by : (found : Option Item) → cond (nat_le from first.number) (synced_at list first.number) None ≡ found
          → or_else found (due_among list from rest) ≡ Some item
          → (due_among list from rest ≡ Some item → (own : Item) → Contains rest own → from ≤ own.number
          → own.number < item.number → synced_at list own.number ≡ None) → (first ≡ own) ⊎ Contains rest own
          → synced_at list own.number ≡ None
      by (Some found) is due others which =
          let at = here found is in
          let same = ap (λ (i : Item). i.number) (same_Some found item due) in elim which [
            | inl same_own ↦
                let own_number = ap (λ (i : Item). i.number) same_own in
                absurd (omega (arith, at, same, own_number, before))
            | inr later ↦
                let higher = (order.0 own later).higher in absurd (omega (arith, at, same, higher, before))
          ]
      by None is due others (inr later) = others due own later reached before
      by None is due others (inl same) =
          subst (λ (i : Item). synced_at list i.number ≡ None) same
          (sym (ap (λ t. cond t (synced_at list first.number) None) (low same)) ∙ is)
