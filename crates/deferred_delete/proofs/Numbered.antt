-- The numbers of a list rise, each below the next one, whatever is listed, synced or taken out.
use Rattle.std.proofs.Common.{◌≡◌, ℕ, ◌+◌, ◌^◌, ◌<◌, ◌≤◌, not, Bool, cond, true, false, List, [], ◌∷◌, ◌++◌, refl}
use Rattle.std.proofs.Common.{sym, ap, subst, arith}
use Rattle.std.specs.Prelude.{◌==◌, All, AllPairs}
use Rattle.std.specs.List.{filter}
use Rattle.std.proofs.lemmas.List.{map-append}
use Rattle.std.proofs.lemmas.List.Elements.{All-filter, All-nil, All-push, All-weaker}
use Rattle.std.proofs.lemmas.List.Kept.{AllPairs-filter}
use Rattle.std.proofs.lemmas.List.Quantifiers.{all_pairs_push}
use Rattle.tree_model.specs.declared.blobs.Blob.{Blob}
use Rattle.deferred_delete.specs.declared.items.Item.{Item}
use Rattle.deferred_delete.specs.Deferral.{Deferral, IsNumbered, numbers, noted, pushed, taken}

-- one is below another
abbrev pub IsBelow : ℕ → ℕ → Type 0
IsBelow earlier later = earlier < later

numbers-noted : (items : List Item) → numbers (noted items) ≡ numbers items
numbers-noted [] = refl
numbers-noted (item ∷ items) = ap (λ rest. item.number ∷ rest) (numbers-noted items)

pub numbered-noted : (list : Deferral) → IsNumbered list → IsNumbered (record list { items = noted list.items })
numbered-noted list numbered = record {
  rising = subst (AllPairs IsBelow) (sym (numbers-noted list.items)) numbered.rising;
  below = subst (All (λ number. number < list.next)) (sym (numbers-noted list.items)) numbered.below;
  few = numbered.few;
}

-- without the item of a number
module _ (number : ℕ) where
  abbrev pub other_than : ℕ → Bool
  other_than n = not (n == number)

  numbers-taken : (items : List Item) → numbers (taken items number) ≡ filter other_than (numbers items)
  numbers-taken [] = refl
  numbers-taken (item ∷ items) = by (other_than item.number) (numbers-taken items)
    where
      by : (stays : Bool) → numbers (taken items number) ≡ filter other_than (numbers items)
          → numbers (cond stays (item ∷ taken items number) (taken items number))
          ≡ cond stays (item.number ∷ filter other_than (numbers items)) (filter other_than (numbers items))
      by true rest = ap (λ ns. item.number ∷ ns) rest
      by false rest = rest

  pub numbered-taken : (list : Deferral) → IsNumbered list
      → IsNumbered (record list { items = taken list.items number })
  numbered-taken list numbered = record {
    rising = subst (AllPairs IsBelow) (sym (numbers-taken list.items))
        (AllPairs-filter IsBelow other_than (numbers list.items) numbered.rising);
    below = subst (All (λ n. n < list.next)) (sym (numbers-taken list.items))
        (All-filter other_than (λ n. n < list.next) (numbers list.items) numbered.below);
    few = numbered.few;
  }

-- with another number of promised places, and without any item
pub numbered-promised : (list : Deferral) (promised : ℕ) → IsNumbered list → list.next + promised < 2 ^ 63
    → IsNumbered (record list { promised = promised })
numbered-promised list promised numbered few =
    record { rising = numbered.rising; below = numbered.below; few = few }

pub numbered-none : (list : Deferral) (promised : ℕ) → IsNumbered list → promised ≤ list.promised
    → IsNumbered (record list { items = []; promised = promised })
numbered-none list promised numbered less = record {
  rising = λ i j d before within. absurd (omega arith);
  below = All-nil (λ number. number < list.next);
  few = omega (arith, numbered.few);
}

-- with one more item at a promised place
pub numbered-pushed : (list : Deferral) (blob : Blob) (synced : Bool) → IsNumbered list → 0 < list.promised
    → IsNumbered (pushed list blob synced)
numbered-pushed list blob synced numbered promised = record {
  rising = subst (AllPairs IsBelow) (sym last)
      (all_pairs_push IsBelow (numbers list.items) list.next numbered.rising numbered.below);
  below = subst (All (λ number. number < list.next + 1)) (sym last)
      (All-push (λ number. number < list.next + 1) (numbers list.items) list.next
      (All-weaker (λ number. number < list.next) (λ number. number < list.next + 1) (λ number less. omega arith)
      (numbers list.items) numbered.below) (omega arith));
  few = omega (arith, numbered.few);
}
  where
    last : numbers (pushed list blob synced).items ≡ numbers list.items ++ list.next ∷ []
    last = map-append (λ (item : Item). item.number) list.items _
