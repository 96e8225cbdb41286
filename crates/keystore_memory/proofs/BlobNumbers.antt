-- Blobs of numbers: two that are one have one number, and the next blob isn't among the first ones.
use Rattle.std.proofs.Common.{◌≡◌, inl, inr, ℕ, ◌+◌, ◌<◌, ◌^◌, zero, suc, List, [], ◌∷◌, ◌++◌, length, take}
use Rattle.std.proofs.Common.{replicate, refl, sym, ap, ◌∙◌, arith, length-append}
use Rattle.std.specs.Prelude.{Contains}
use Rattle.std.specs.Int.{w64, to_be_bytes, from_be_bytes}
use Rattle.std.specs.Ordering.{nat_cmp, eq_by_cmp}
use Rattle.std.specs.Cmp.{nat_cmp_total}
use Rattle.std.specs.FinMap.{nat_cmp-IsAntisymmetric}
use Rattle.std.proofs.lemmas.List.{take_at}
use Rattle.std.proofs.lemmas.List.Elements.{Contains-push_cases}
use Rattle.std.proofs.lemmas.Nat.{from_be_bytes-to_be_bytes_8}
use Rattle.tree_model.specs.declared.blobs.Blob.{Blob}
use Rattle.tree_model.proofs.Maps.{tied, apart, decide_key}
use Rattle.keystore_model.specs.Store.{same_bytes}
use Rattle.keystore_model.proofs.Elements.{Contains-none}
use Rattle.keystore_model.proofs.Stores.{bytes-same, bytes-apart}
use Rattle.keystore_memory.specs.Format.{blob_of_number, first_blobs}

same-blob : (n m : ℕ) → n < 2 ^ 64 → m < 2 ^ 64 → blob_of_number n ≡ blob_of_number m → n ≡ m
unfolding blob_of_number
same-blob n m small small' same =
    sym (from_be_bytes-to_be_bytes_8 n small)
    ∙ ap (from_be_bytes w64)
    (sym (take_at (to_be_bytes w64 n) (replicate 24 0) 8 refl) ∙ ap (take 8) same
    ∙ take_at (to_be_bytes w64 m) (replicate 24 0) 8 refl)
    ∙ from_be_bytes-to_be_bytes_8 m small'

-- the blobs of two numbers are the same where the numbers are
pub same-number : (n m : ℕ) → n < 2 ^ 64 → m < 2 ^ 64
    → same_bytes (blob_of_number n) (blob_of_number m) ≡ eq_by_cmp nat_cmp n m
same-number n m small small' = elim (decide_key nat_cmp_total nat_cmp-IsAntisymmetric n m) [
  | inl same ↦ ap (λ k. same_bytes (blob_of_number n) (blob_of_number k)) (sym same) ∙ bytes-same (blob_of_number n)
      ∙ sym (tied nat_cmp_total nat_cmp-IsAntisymmetric n m same)
  | inr differ ↦ bytes-apart (blob_of_number n) (blob_of_number m) (λ e. differ (same-blob n m small small' e))
      ∙ sym (apart nat_cmp_total nat_cmp-IsAntisymmetric n m differ)
]

numbered-before : (count : ℕ) (blob : Blob) → Contains (first_blobs count) blob
    → (n : ℕ) × (n < count) × (blob ≡ blob_of_number n)
numbered-before zero blob has = absurd (Contains-none blob has)
numbered-before (suc count) blob has =
    elim (Contains-push_cases (first_blobs count) (blob_of_number count) blob has) [
      | inl before ↦ let is = numbered-before count blob before in (is.0, omega (arith, is.1), is.2)
      | inr same ↦ (count, omega arith, sym same)
    ]

pub next-fresh : (count : ℕ) → count < 2 ^ 63 → ¬ (Contains (first_blobs count) (blob_of_number count))
next-fresh count few has =
    let is = numbered-before count (blob_of_number count) has in
    let same = same-blob count is.0 (omega (arith, few)) (omega (arith, few, is.1)) is.2 in
    absurd (omega (arith, is.1, same))

pub length-first : (count : ℕ) → length (first_blobs count) ≡ count
length-first zero = refl
length-first (suc count) =
    length-append (first_blobs count) (blob_of_number count ∷ []) ∙ omega (arith, length-first count)

pub first-more : (count : ℕ) → first_blobs (count + 1) ≡ first_blobs count ++ blob_of_number count ∷ []
first-more count = let next : count + 1 ≡ suc count = omega arith in ap first_blobs next

-- the number whose bytes a blob begins with is its number, where it has one
pub number-found : (blob : Blob) (high : List ℕ) (n m : ℕ) → high ≡ take 8 blob → n ≡ from_be_bytes w64 high
    → m < 2 ^ 64
    → blob ≡ blob_of_number m → blob_of_number n ≡ blob
unfolding blob_of_number
number-found blob high n m front is small same =
    ap (λ k. to_be_bytes w64 k ++ replicate 24 0)
    (is ∙ ap (from_be_bytes w64) (front ∙ ap (take 8) same ∙ take_at (to_be_bytes w64 m) (replicate 24 0) 8 refl)
    ∙ from_be_bytes-to_be_bytes_8 m small)
    ∙ sym same
