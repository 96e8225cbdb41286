-- A keystore's entries after its calls, and that it stays a store.
use Rattle.std.proofs.Common.{◌≡◌, ◌≢◌, ◌⊎◌, inl, inr, ℕ, true, false, not, cond}
use Rattle.std.proofs.Common.{List, [], ◌∷◌, ◌++◌, refl, sym, ap, ◌∙◌, subst}
use Rattle.std.specs.Prelude.{Option, Some, None, IsSome, is_some, Contains}
use Rattle.std.proofs.lemmas.List.Elements.{Contains-append_left, Contains-push, Contains-push_cases}
use Rattle.tree_model.specs.declared.blobs.Blob.{Blob}
use Rattle.tree_model.specs.Blobs.{blob_total, blob_exact}
use Rattle.tree_model.proofs.Maps.{tied, apart, decide_key}
use Rattle.keystore_model.specs.declared.entry.Tag.{Tag}
use Rattle.keystore_model.specs.declared.entry.StoreEntry.{StoreEntry}
use Rattle.keystore_model.specs.Laws.{AfterGenerate, AfterDelete}
use Rattle.keystore_model.specs.Store.{Store, entry_of, IsLive, without, Differ, blobs_of, IsStore, same_bytes}
use Rattle.keystore_model.specs.Store.{empty_store, with_entry, new_entry, at_level}
use Rattle.keystore_model.proofs.Elements.{Contains-none, Contains-first, Contains-rest, Contains-cases}

pub bytes-same : (a : List ℕ) → same_bytes a a ≡ true
bytes-same a = tied blob_total blob_exact a a refl

pub bytes-apart : (a b : List ℕ) → a ≢ b → same_bytes a b ≡ false
bytes-apart a b differ = apart blob_total blob_exact a b differ

pub decide-bytes : (a b : List ℕ) → (a ≡ b) ⊎ (a ≢ b)
decide-bytes a b = decide_key blob_total blob_exact a b

not-both : {A : Type 0} (found : Option A) (a : A) → found ≡ None → found ≡ Some a → ⊥
not-both found a none some = cc

pub none-live : (found : Option StoreEntry) → found ≡ None → IsSome found → ⊥
none-live None e there = cc
none-live (Some entry) e there = cc

-- the new entry is found, where there was none
pub entry-push : (entries : List StoreEntry) (entry : StoreEntry) → entry_of entries entry.blob ≡ None
    → entry_of (entries ++ entry ∷ []) entry.blob ≡ Some entry
entry-push [] entry none = ap (λ t. cond t (Some entry) None) (bytes-same entry.blob)
entry-push (first ∷ entries) entry none =
    elim (same_bytes entry.blob first.blob) as (λ t. cond t (Some first) (entry_of entries entry.blob) ≡ None
    → cond t (Some first) (entry_of (entries ++ entry ∷ []) entry.blob) ≡ Some entry) [
      | true ↦ λ e. absurd (not-both _ first e refl)
      | false ↦ λ e. entry-push entries entry e
    ] none

-- each other blob is looked up as before
pub entry-push_other : (entries : List StoreEntry) (entry : StoreEntry) (blob : Blob) → blob ≢ entry.blob
    → entry_of (entries ++ entry ∷ []) blob ≡ entry_of entries blob
entry-push_other [] entry blob differ = ap (λ t. cond t (Some entry) None) (bytes-apart blob entry.blob differ)
entry-push_other (first ∷ entries) entry blob differ =
    ap (λ found. cond (same_bytes blob first.blob) (Some first) found) (entry-push_other entries entry blob differ)

pub entry-without_same : (entries : List StoreEntry) (blob : Blob) → entry_of (without entries blob) blob ≡ None
entry-without_same [] blob = refl
entry-without_same (first ∷ entries) blob =
    elim (same_bytes blob first.blob) as (λ t. same_bytes blob first.blob ≡ t
    → entry_of (cond (not t) (first ∷ without entries blob) (without entries blob)) blob ≡ None) [
      | true ↦ λ is. entry-without_same entries blob
      | false ↦ λ is. ap (λ t. cond t (Some first) (entry_of (without entries blob) blob)) is
          ∙ entry-without_same entries blob
    ] refl

pub entry-without_other : (entries : List StoreEntry) (blob other : Blob) → other ≢ blob
    → entry_of (without entries blob) other ≡ entry_of entries other
entry-without_other [] blob other differ = refl
entry-without_other (first ∷ entries) blob other differ =
    elim (decide-bytes blob first.blob) [
      | inl same ↦
          ap (λ t. entry_of (cond (not t) (first ∷ without entries blob) (without entries blob)) other)
          (ap (same_bytes blob) (sym same) ∙ bytes-same blob)
          ∙ entry-without_other entries blob other differ
          ∙ sym (ap (λ t. cond t (Some first) (entry_of entries other))
          (bytes-apart other first.blob (λ e. differ (e ∙ sym same))))
      | inr apart ↦
          ap (λ t. entry_of (cond (not t) (first ∷ without entries blob) (without entries blob)) other)
          (bytes-apart blob first.blob apart)
          ∙ ap (λ found. cond (same_bytes other first.blob) (Some first) found)
          (entry-without_other entries blob other differ)
    ]

-- the blob of an entry has one
live-listed : (entries : List StoreEntry) (blob : Blob) → Contains (blobs_of entries) blob → IsLive entries blob
live-listed [] blob has = absurd (Contains-none blob has)
live-listed (first ∷ entries) blob has = elim (Contains-cases first.blob (blobs_of entries) blob has) [
  | inl same ↦ ap (λ t. is_some (cond t (Some first) (entry_of entries blob)))
      (ap (same_bytes blob) same ∙ bytes-same blob)
  | inr later ↦
      elim (same_bytes blob first.blob) as (λ t. is_some (cond t (Some first) (entry_of entries blob)) ≡ true) [
        | true ↦ refl
        | false ↦ live-listed entries blob later
      ]
]

pub differ-push : (blobs : List Blob) (blob : Blob) → Differ blobs → ¬ (Contains blobs blob)
    → Differ (blobs ++ blob ∷ [])
differ-push [] blob differ fresh = (Contains-none blob, tt)
differ-push (first ∷ blobs) blob differ fresh = (
  λ has. elim (Contains-push_cases blobs blob first has) [
    | inl before ↦ differ.0 before
    | inr same ↦ fresh (subst (λ b. Contains (first ∷ blobs) b) (sym same) (Contains-first first blobs))
  ],
  differ-push blobs blob differ.1 (λ has. fresh (Contains-rest first blobs blob has)),
)

blobs-append : (entries : List StoreEntry) (entry : StoreEntry)
    → blobs_of (entries ++ entry ∷ []) ≡ blobs_of entries ++ entry.blob ∷ []
blobs-append [] entry = refl
blobs-append (first ∷ entries) entry = ap (λ blobs. first.blob ∷ blobs) (blobs-append entries entry)

-- a blob that is not given has no entry
pub not-given : (store : Store) (blob : Blob) → IsStore store → ¬ (Contains store.given blob)
    → entry_of store.entries blob ≡ None
not-given store blob is fresh =
    elim (entry_of store.entries blob) as (λ found. entry_of store.entries blob ≡ found → found ≡ None) [
      | None ↦ λ e. refl
      | Some entry ↦ λ e. absurd (fresh (is.given blob (ap is_some e)))
    ] refl

-- one more entry, of a blob that was not given
store-with_entry : (store : Store) (entry : StoreEntry) → IsStore store → ¬ (Contains store.given entry.blob)
    → IsStore (with_entry store entry)
store-with_entry store entry is fresh = record {
  given_differ = differ-push store.given entry.blob is.given_differ fresh;
  given = λ blob live. elim (decide-bytes blob entry.blob) [
    | inl same ↦ subst (λ b. Contains (store.given ++ entry.blob ∷ []) b) (sym same)
        (Contains-push store.given entry.blob)
    | inr differ ↦ Contains-append_left store.given (entry.blob ∷ []) blob
        (is.given blob (ap is_some (sym (entry-push_other store.entries entry blob differ)) ∙ live))
  ];
  differ = subst Differ (sym (blobs-append store.entries entry))
      (differ-push (blobs_of store.entries) entry.blob is.differ
      (λ has. fresh (is.given entry.blob (live-listed store.entries entry.blob has))));
}

pub after-generate : (store : Store) (blob : Blob) (tag : Tag) (app_id key : List ℕ) → IsStore store
    → ¬ (Contains store.given blob)
    → AfterGenerate store blob tag app_id key
after-generate store blob tag app_id key is fresh =
    let entry = new_entry store blob tag app_id key in
    record {
      whole = store-with_entry store entry is fresh;
      found = entry-push store.entries entry (not-given store blob is fresh);
      others = entry-push_other store.entries entry;
    }

blobs-without : (entries : List StoreEntry) (blob other : Blob) → Contains (blobs_of (without entries blob)) other
    → Contains (blobs_of entries) other
blobs-without [] blob other has = has
blobs-without (first ∷ entries) blob other has =
    elim (same_bytes blob first.blob) as (λ t. Contains
    (blobs_of (cond (not t) (first ∷ without entries blob) (without entries blob))) other
    → Contains (blobs_of (first ∷ entries)) other) [
      | true ↦ λ kept. Contains-rest first.blob (blobs_of entries) other (blobs-without entries blob other kept)
      | false ↦ λ kept. elim (Contains-cases first.blob (blobs_of (without entries blob)) other kept) [
        | inl same ↦ subst (λ b. Contains (first.blob ∷ blobs_of entries) b) same
            (Contains-first first.blob (blobs_of entries))
        | inr later ↦ Contains-rest first.blob (blobs_of entries) other (blobs-without entries blob other later)
      ]
    ] has

differ-without : (entries : List StoreEntry) (blob : Blob) → Differ (blobs_of entries)
    → Differ (blobs_of (without entries blob))
differ-without [] blob differ = differ
differ-without (first ∷ entries) blob differ =
    elim (same_bytes blob first.blob) as (λ t. Differ
    (blobs_of (cond (not t) (first ∷ without entries blob) (without entries blob)))) [
      | true ↦ differ-without entries blob differ.1
      | false ↦ (λ has. differ.0 (blobs-without entries blob first.blob has), differ-without entries blob differ.1)
    ]

-- what is live without a blob was live
pub live-without : (entries : List StoreEntry) (blob other : Blob) → IsLive (without entries blob) other
    → IsLive entries other
live-without entries blob other live = elim (decide-bytes other blob) [
  | inl same ↦ absurd (none-live _ (ap (entry_of (without entries blob)) same ∙ entry-without_same entries blob) live)
  | inr differ ↦ ap is_some (sym (entry-without_other entries blob other differ)) ∙ live
]

pub after-delete : (store : Store) (blob : Blob) → IsStore store → AfterDelete store blob
after-delete store blob is = record {
  whole = record {
    given_differ = is.given_differ;
    given = λ other live. is.given other (live-without store.entries blob other live);
    differ = differ-without store.entries blob is.differ;
  };
  gone = entry-without_same store.entries blob;
  others = entry-without_other store.entries blob;
}

pub store-empty : (level : ℕ) → IsStore (empty_store level)
store-empty level = record { given_differ = tt; given = λ blob live. absurd (none-live None refl live); differ = tt }

pub store-at_level : (store : Store) (level : ℕ) → IsStore store → IsStore (at_level store level)
store-at_level store level is = record { given_differ = is.given_differ; given = is.given; differ = is.differ }
