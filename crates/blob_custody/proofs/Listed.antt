-- The list of waiting deletes: what pushes, a sync and a taken item leave of it.
use Rattle.std.proofs.Common.{◌≡◌, ◌≢◌, ◌⊎◌, inl, inr, ℕ, ◌<◌, Bool, true, false, not, List, [], ◌∷◌, get_or, refl}
use Rattle.std.proofs.Common.{sym, ap, ◌∙◌, subst, arith, eq-eqb}
use Rattle.std.specs.Prelude.{◌==◌, Contains, AllPairs}
use Rattle.std.proofs.lemmas.Bool.Decides.{nat_tests}
use Rattle.std.proofs.lemmas.Bool.{cases_lt}
use Rattle.std.proofs.lemmas.List.{length-map, get_or-map, get_or_default}
use Rattle.std.proofs.lemmas.List.Elements.{Contains-append_left, Contains-push, Contains-push_cases}
use Rattle.tree_model.specs.declared.blobs.Blob.{Blob}
use Rattle.keystore_model.specs.Store.{Differ}
use Rattle.keystore_model.proofs.Elements.{Contains-none, Contains-first, Contains-rest, Contains-cases}
use Rattle.deferred_delete.specs.declared.items.Item.{Item}
use Rattle.deferred_delete.specs.Deferral.{Deferral, pushed, now_synced, noted, taken, numbers}
use Rattle.blob_custody.specs.Custody.{IsListed}
use Rattle.blob_custody.specs.Steps.{pushed_all}
use Rattle.blob_custody.proofs.Lists.{filter-there, filter-passes, filter-keeps, map-from, map-has}

-- no blob has two items
abbrev pub Once : List Item → Type 0
Once items = (item other : Item) → Contains items item → Contains items other → item.blob ≡ other.blob → item ≡ other

pub same_blob : {item other : Item} → item ≡ other → item.blob ≡ other.blob
same_blob same = ap (λ (item : Item). item.blob) same

-- the item that a push makes
abbrev pub last : Deferral → Blob → Bool → Item
last list blob synced = record { number = list.next; blob = blob; synced = synced }

module _ (list : Deferral) (blob : Blob) (synced : Bool) where
  push-listed : IsListed (pushed list blob synced) blob
  push-listed =
      record { item = last list blob synced; has = Contains-push list.items (last list blob synced); is = refl }

  push-keeps : (other : Blob) → IsListed list other → IsListed (pushed list blob synced) other
  push-keeps other listed = record {
    item = listed.item;
    has = Contains-append_left list.items (last list blob synced ∷ []) listed.item listed.has;
    is = listed.is;
  }

  push-once : Once list.items → ¬ (IsListed list blob) → Once (pushed list blob synced).items
  push-once once fresh item other has also same =
      elim (Contains-push_cases list.items (last list blob synced) item has) [
        | inl before ↦ elim (Contains-push_cases list.items (last list blob synced) other also) [
          | inl too ↦ once item other before too same
          | inr newer ↦ absurd
              (fresh (record { item = item; has = before; is = same ∙ sym (same_blob newer) }))
        ]
        | inr new ↦ elim (Contains-push_cases list.items (last list blob synced) other also) [
          | inl too ↦ absurd
              (fresh (record { item = other; has = too; is = sym same ∙ sym (same_blob new) }))
          | inr newer ↦ sym new ∙ newer
        ]
      ]

-- an item of the longer list was there, or is one of the new
pub pushed-cases : (list : Deferral) (blobs : List Blob) (synced : Bool) (item : Item)
    → Contains (pushed_all list blobs synced).items item
    → Contains list.items item ⊎ (Contains blobs item.blob × (item.synced ≡ synced))
pushed-cases list [] synced item has = inl has
pushed-cases list (blob ∷ blobs) synced item has =
    elim (pushed-cases (pushed list blob synced) blobs synced item has) [
      | inl here ↦ elim (Contains-push_cases list.items (last list blob synced) item here) [
        | inl before ↦ inl before
        | inr same ↦
            inr (
              subst (λ b. Contains (blob ∷ blobs) b) (same_blob same)
                  (Contains-first blob blobs),
              sym (ap (λ (i : Item). i.synced) same),
            )
      ]
      | inr later ↦ inr (Contains-rest blob blobs item.blob later.0, later.1)
    ]

pub pushed-keeps : (list : Deferral) (blobs : List Blob) (synced : Bool) (blob : Blob) → IsListed list blob
    → IsListed (pushed_all list blobs synced) blob
pushed-keeps list [] synced blob listed = listed
pushed-keeps list (first ∷ blobs) synced blob listed =
    pushed-keeps (pushed list first synced) blobs synced blob (push-keeps list first synced blob listed)

pub pushed-listed : (list : Deferral) (blobs : List Blob) (synced : Bool) (blob : Blob) → Contains blobs blob
    → IsListed (pushed_all list blobs synced) blob
pushed-listed list [] synced blob has = absurd (Contains-none blob has)
pushed-listed list (first ∷ blobs) synced blob has = elim (Contains-cases first blobs blob has) [
  | inl same ↦ pushed-keeps (pushed list first synced) blobs synced blob
      (subst (λ b. IsListed (pushed list first synced) b) same (push-listed list first synced))
  | inr later ↦ pushed-listed (pushed list first synced) blobs synced blob later
]

pub pushed-once : (list : Deferral) (blobs : List Blob) (synced : Bool) → Once list.items → Differ blobs
    → ((blob : Blob) → Contains blobs blob → ¬ (IsListed list blob)) → Once (pushed_all list blobs synced).items
pushed-once list [] synced once differ fresh = once
pushed-once list (first ∷ blobs) synced once differ fresh =
    pushed-once (pushed list first synced) blobs synced
    (push-once list first synced once (fresh first (Contains-first first blobs))) differ.1
    (λ blob has listed. elim (Contains-push_cases list.items (last list first synced) listed.item listed.has) [
      | inl before ↦ fresh blob (Contains-rest first blobs blob has)
          (record { item = listed.item; has = before; is = listed.is })
      | inr same ↦ differ.0
          (subst (Contains blobs) (sym listed.is ∙ sym (same_blob same)) has)
    ])

-- an item after a sync was there before it
pub noted-from : (items : List Item) (item : Item) → Contains (noted items) item
    → (before : Item) × (Contains items before × (now_synced before ≡ item))
noted-from items item has = map-from now_synced items item has

pub noted-keeps : (list : Deferral) (blob : Blob) → IsListed list blob
    → IsListed (record list { items = noted list.items }) blob
noted-keeps list blob listed = record {
  item = now_synced listed.item;
  has = map-has now_synced list.items listed.item listed.has;
  is = listed.is;
}

pub noted-once : (items : List Item) → Once items → Once (noted items)
noted-once items once item other has also same =
    let one = noted-from items item has in
    let two = noted-from items other also in
    sym one.1.1
    ∙ ap now_synced
    (once one.0 two.0 one.1.0 two.1.0
    (same_blob one.1.1 ∙ same ∙ sym (same_blob two.1.1)))
    ∙ two.1.1

-- what is left of a list without the item of a number
module _ (items : List Item) (number : ℕ) (item : Item) where
  pub taken-there : Contains (taken items number) item → Contains items item
  taken-there has = filter-there (λ other. not (other.number == number)) items item has

  pub taken-apart : Contains (taken items number) item → item.number ≢ number
  taken-apart has same =
      differs (sym (ap not (eq-eqb item.number number same))
      ∙ filter-passes (λ other. not (other.number == number)) items item has)
    where
      differs : false ≡ true → ⊥
      differs e = cc

  pub taken-keeps : Contains items item → item.number ≢ number → Contains (taken items number) item
  taken-keeps has differ =
      filter-keeps (λ other. not (other.number == number)) items item (grind (arith, nat_tests)) has

-- numbers that rise tell the items apart
module _ (items : List Item) (rising : AllPairs (λ earlier later. earlier < later) (numbers items)) where
  number-at : (item : Item) (has : Contains items item) → get_or (numbers items) has.0 0 ≡ item.number
  number-at item has = get_or-map (λ (i : Item). i.number) items has.0 item 0 has.1 ∙ ap (λ (i : Item). i.number) has.2

  earlier-below : (item other : Item) (has : Contains items item) (also : Contains items other) → has.0 < also.0
      → item.number < other.number
  earlier-below item other has also before =
      let apart = rising has.0 also.0 0 before (omega (arith, also.1, length-map items (λ (i : Item). i.number))) in
      omega (arith, apart, number-at item has, number-at other also)

  same-place : (item other : Item) (has : Contains items item) (also : Contains items other)
      → has.0 ≡ also.0 → item ≡ other
  same-place item other has also same =
      sym has.2 ∙ ap (λ at. get_or items at item) same ∙ get_or_default items also.0 item other also.1 ∙ also.2

  pub one_number : (item other : Item) → Contains items item → Contains items other
      → item.number ≡ other.number → item ≡ other
  one_number item other has also same = elim (cases_lt has.0 also.0) [
    | inl before ↦ let below = earlier-below item other has also before in absurd (omega (arith, below, same))
    | inr least ↦ elim (cases_lt also.0 has.0) [
      | inl after ↦ let below = earlier-below other item also has after in absurd (omega (arith, below, same))
      | inr most ↦ same-place item other has also (omega (arith, least, most))
    ]
  ]
