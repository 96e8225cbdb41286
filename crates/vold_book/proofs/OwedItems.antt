-- The items of blobs that are listed next, one more at a time.
use Rattle.std.proofs.Common.{◌≡◌, ℕ, ◌+◌, ◌<◌, false, List, [], ◌∷◌, ◌++◌, length, get_or, take, sym, ap}
use Rattle.std.proofs.Common.{◌∙◌, arith}
use Rattle.std.proofs.lemmas.List.{append_assoc, length-take-le, take_more}
use Rattle.tree_model.specs.declared.blobs.Blob.{Blob}
use Rattle.deferred_delete.specs.declared.items.Item.{Item}
use Rattle.vold_book.specs.Owed.{items_from}

abbrev pub item_of : ℕ → Blob → Item
item_of number blob = record { number = number; blob = blob; synced = false }

items-last : (next : ℕ) (blobs : List Blob) (blob : Blob)
    → items_from next (blobs ++ blob ∷ []) ≡ items_from next blobs ++ item_of (next + length blobs) blob ∷ []
items-last next [] blob = ap (λ n. item_of n blob ∷ []) (omega arith)
items-last next (first ∷ blobs) blob =
    ap (λ items. item_of next first ∷ items) (items-last (next + 1) blobs blob
    ∙ ap (λ n. items_from (next + 1) blobs ++ item_of n blob ∷ []) (omega arith))

-- the items so far, and that of one more blob
pub items-more : (before : List Item) (next : ℕ) (blobs : List Blob) (i : ℕ) (default : Blob) → i < length blobs
    → (before ++ items_from next (take i blobs)) ++ item_of (next + i) (get_or blobs i default) ∷ []
    ≡ before ++ items_from next (take (i + 1) blobs)
items-more before next blobs i default within =
    append_assoc before (items_from next (take i blobs)) (item_of (next + i) (get_or blobs i default) ∷ [])
    ∙ ap (λ items. before ++ items)
    (ap (λ n. items_from next (take i blobs) ++ item_of (next + n) (get_or blobs i default) ∷ [])
    (sym (length-take-le i blobs (omega arith)))
    ∙ sym (ap (items_from next) (take_more blobs i default within)
    ∙ items-last next (take i blobs) (get_or blobs i default)))
