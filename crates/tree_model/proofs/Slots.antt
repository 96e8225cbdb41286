-- Eight slots as a finite map: what it holds at each file name, and its names in order.
use Rattle.std.proofs.Common.{◌≡◌, ◌≢◌, ◌<◌, ◌+◌, ◌++◌, lit<, ℕ, take, get_or, add-one, Bool, true, false, cond, T}
use Rattle.std.proofs.Common.{◌&&◌, List, [], ◌∷◌, length, refl, sym, ap, ◌∙◌, subst}
use Rattle.std.specs.Prelude.{Option, Some, None, map as map_list, filter, is_some, slice_index_or}
use Rattle.std.specs.Ordering.{is_lt, eq_by_cmp}
use Rattle.std.specs.FinMap as map
use Rattle.std.specs.FinMap.{find, is_sorted}
use Rattle.std.specs.FinMap.Entries.{below_all}
use Rattle.tree_model.specs.declared.files.FileName.{FileName}
use Rattle.tree_model.specs.declared.files.FileName.TheVariants.{Version, EncryptedKey, Blob, BlobUpgraded, BlobNew}
use Rattle.tree_model.specs.declared.files.FileName.TheVariants.{Discard, Stretching, Salt}
use Rattle.std.proofs.Math.ListN.{set}
use Rattle.std.proofs.Math.Seq.{take-suc, take-suc-set}
use Rattle.std.proofs.lemmas.List.{get_or-set_same, get_or-set_other, get_or_default}
use Rattle.tree_model.specs.Files.{file_key, key_file, key_file-file_key, file_cmp, file_total, file_exact}
use Rattle.tree_model.proofs.Logic.{T_both, T_first, T_second}
use Rattle.tree_model.proofs.Maps.{same_at, get-insert_same, get-insert_other, get-remove_same, get-remove_other}
use Rattle.tree_model.specs.Dir.{row, rows, every, in_slot, files_of}

below : FileName → List FileName → Bool
below x [] = true
below x (file ∷ files) = is_lt (file_cmp x file) && below x files

ascending : List FileName → Bool
ascending [] = true
ascending (file ∷ files) = below file files && ascending files

below-rows : (held : FileName → Option (List ℕ)) (x : FileName) (files : List FileName) → T (below x files)
    → T (below_all file_cmp x (rows held files))
unfolding below
below-rows held x [] h = tt
below-rows held x (file ∷ files) h =
    let rest = below-rows held x files (T_second _ _ h) in
    elim (held file) as (λ o. T (below_all file_cmp x (row file o (rows held files)))) [
      | None ↦ rest
      | Some bytes ↦ T_both _ _ (T_first _ _ h) rest
    ]

sorted-rows : (held : FileName → Option (List ℕ)) (files : List FileName) → T (ascending files)
    → T (is_sorted file_cmp (rows held files))
unfolding ascending
sorted-rows held [] h = tt
sorted-rows held (file ∷ files) h =
    let rest = sorted-rows held files (T_second _ _ h) in
    elim (held file) as (λ o. T (is_sorted file_cmp (row file o (rows held files)))) [
      | None ↦ rest
      | Some bytes ↦ T_both _ _ (below-rows held file files (T_first _ _ h)) rest
    ]

every-ascending : T (ascending every)
unfolding ascending below
every-ascending = tt

or_else : Option (List ℕ) → Option (List ℕ) → Option (List ℕ)
or_else None o = o
or_else (Some bytes) o = Some bytes

or_else-none : (o : Option (List ℕ)) → or_else o None ≡ o
unfolding or_else
or_else-none None = refl
or_else-none (Some bytes) = refl

found : (FileName → Option (List ℕ)) → List FileName → FileName → Option (List ℕ)
found held [] q = None
found held (file ∷ files) q =
    cond (eq_by_cmp file_cmp q file) (or_else (held file) (found held files q)) (found held files q)

same_branches : (b : Bool) (o : Option (List ℕ)) → cond b o o ≡ o
same_branches true o = refl
same_branches false o = refl

find-rows : (held : FileName → Option (List ℕ)) (files : List FileName) (q : FileName)
    → find file_cmp q (rows held files) ≡ found held files q
unfolding found or_else
find-rows held [] q = refl
find-rows held (file ∷ files) q =
    elim (held file) as (λ o. find file_cmp q (row file o (rows held files))
    ≡ cond (eq_by_cmp file_cmp q file) (or_else o (found held files q)) (found held files q)) [
      | None ↦ find-rows held files q ∙ sym (same_branches (eq_by_cmp file_cmp q file) (found held files q))
      | Some bytes ↦ ap (cond (eq_by_cmp file_cmp q file) (Some bytes)) (find-rows held files q)
    ]

found-every : (held : FileName → Option (List ℕ)) (q : FileName) → found held every q ≡ held q
unfolding found
found-every held Version = or_else-none (held Version)
found-every held EncryptedKey = or_else-none (held EncryptedKey)
found-every held Blob = or_else-none (held Blob)
found-every held BlobUpgraded = or_else-none (held BlobUpgraded)
found-every held BlobNew = or_else-none (held BlobNew)
found-every held Discard = or_else-none (held Discard)
found-every held Stretching = or_else-none (held Stretching)
found-every held Salt = or_else-none (held Salt)

-- the map holds what the slots hold
pub get-files_of : (slots : List (Option (List ℕ))) (q : FileName) → map.get (files_of slots) q ≡ in_slot slots q
unfolding files_of
get-files_of slots q =
    map.get-from_sorted file_cmp (rows (in_slot slots) every) q (sorted-rows (in_slot slots) every every-ascending)
    ∙ find-rows (in_slot slots) every q ∙ found-every (in_slot slots) q

names-rows : (held : FileName → Option (List ℕ)) (files : List FileName)
    → map_list (λ e. e.0) (rows held files) ≡ filter (λ file. is_some (held file)) files
names-rows held [] = refl
names-rows held (file ∷ files) =
    elim (held file) as (λ o. map_list (λ e. e.0) (row file o (rows held files))
    ≡ cond (is_some o) (file ∷ filter (λ f. is_some (held f)) files) (filter (λ f. is_some (held f)) files)) [
      | None ↦ names-rows held files
      | Some bytes ↦ ap (λ names. file ∷ names) (names-rows held files)
    ]

-- the map's names are those of the full slots
pub keys-files_of : (slots : List (Option (List ℕ)))
    → map.keys (files_of slots) ≡ filter (λ file. is_some (in_slot slots file)) every
unfolding files_of
keys-files_of slots =
    ap (map_list (λ e. e.0))
    (map.entries-from_sorted file_cmp (rows (in_slot slots) every)
    (sorted-rows (in_slot slots) every every-ascending))
    ∙ names-rows (in_slot slots) every

file_key-below : (file : FileName) → file_key file < 8
file_key-below Version = lit< tt
file_key-below EncryptedKey = lit< tt
file_key-below Blob = lit< tt
file_key-below BlobUpgraded = lit< tt
file_key-below BlobNew = lit< tt
file_key-below Discard = lit< tt
file_key-below Stretching = lit< tt
file_key-below Salt = lit< tt

same_key : (a b : FileName) → file_key a ≡ file_key b → a ≡ b
same_key a b e = sym (key_file-file_key a) ∙ ap key_file e ∙ key_file-file_key b

in_slot-set_same : (slots : List (Option (List ℕ))) → length slots ≡ 8 → (file : FileName) (held : Option (List ℕ))
    → in_slot (set slots (file_key file) held) file ≡ held
in_slot-set_same slots long file held =
    let within : file_key file < length slots = subst (λ n. file_key file < n) (sym long) (file_key-below file) in
    get_or-set_same slots (file_key file) held None within

in_slot-set_other : (slots : List (Option (List ℕ))) (file : FileName) (held : Option (List ℕ)) (q : FileName)
    → q ≢ file → in_slot (set slots (file_key file) held) q ≡ in_slot slots q
in_slot-set_other slots file held q differ =
    get_or-set_other slots (file_key file) (file_key q) held None (λ e. differ (same_key q file e))

-- to fill a slot is to put the file
pub files_of-put : (slots : List (Option (List ℕ))) → length slots ≡ 8 → (file : FileName) (bytes : List ℕ)
    → files_of (set slots (file_key file) (Some bytes)) ≡ map.insert (files_of slots) file bytes
files_of-put slots long file bytes = same_at file_total file_exact file _ _
    (get-files_of _ file ∙ in_slot-set_same slots long file (Some bytes)
    ∙ sym (get-insert_same file_total file_exact (files_of slots) file bytes))
    (λ q differ. get-files_of _ q ∙ in_slot-set_other slots file (Some bytes) q differ ∙ sym (get-files_of slots q)
    ∙ sym (get-insert_other file_total file_exact (files_of slots) file bytes q differ))

-- to empty a slot is to take the file out
pub files_of-take : (slots : List (Option (List ℕ))) → length slots ≡ 8 → (file : FileName)
    → files_of (set slots (file_key file) None) ≡ map.remove (files_of slots) file
files_of-take slots long file = same_at file_total file_exact file _ _
    (get-files_of _ file ∙ in_slot-set_same slots long file None
    ∙ sym (get-remove_same file_total file_exact (files_of slots) file))
    (λ q differ. get-files_of _ q ∙ in_slot-set_other slots file None q differ ∙ sym (get-files_of slots q)
    ∙ sym (get-remove_other file_total file_exact (files_of slots) file q differ))

-- a read at the number of a file, whatever the default
pub in_slot-read : (slots : List (Option (List ℕ))) → length slots ≡ 8
    → (file : FileName) (i : ℕ) (default : Option (List ℕ)) → i ≡ file_key file
    → slice_index_or slots i default ≡ in_slot slots file
in_slot-read slots long file i default at =
    ap (λ k. slice_index_or slots k default) at
    ∙ get_or_default slots (file_key file) default None
    (subst (λ n. file_key file < n) (sym long) (file_key-below file))

-- eight empty slots are the empty map
pub files_of-none : files_of (None ∷ None ∷ None ∷ None ∷ None ∷ None ∷ None ∷ None ∷ []) ≡ map.empty
unfolding files_of
files_of-none = map.empty_of_len _ (map.len-entries _ ∙ ap length (map.entries-from_sorted file_cmp [] tt))

pub keys-files_of-none : map.keys (files_of (None ∷ None ∷ None ∷ None ∷ None ∷ None ∷ None ∷ None ∷ [])) ≡ []
keys-files_of-none = keys-files_of _

take-more : (i : ℕ) (files : List FileName) (file : FileName) → i < length files → file ≡ get_or files i file
    → take (i + 1) files ≡ take i files ++ file ∷ []
take-more i files file within read =
    rw add-one (take-suc files i file within ∙ ap (λ f. take i files ++ f ∷ []) (sym read))

filter-append : (pass : FileName → Bool) (files : List FileName) (file : FileName)
    → filter pass (files ++ file ∷ []) ≡ cond (pass file) (filter pass files ++ file ∷ []) (filter pass files)
filter-append pass [] file = refl
filter-append pass (f ∷ files) file =
    elim (pass f) as (λ b. cond b (f ∷ filter pass (files ++ file ∷ [])) (filter pass (files ++ file ∷ []))
    ≡ cond (pass file) (cond b (f ∷ filter pass files) (filter pass files) ++ file ∷ [])
    (cond b (f ∷ filter pass files) (filter pass files))) [
      | true ↦ ap (λ fs. f ∷ fs) (filter-append pass files file) ∙ inside (pass file)
      | false ↦ filter-append pass files file
    ]
  where
    inside : (b : Bool) → f ∷ cond b (filter pass files ++ file ∷ []) (filter pass files)
        ≡ cond b ((f ∷ filter pass files) ++ file ∷ []) (f ∷ filter pass files)
    inside true = refl
    inside false = refl

-- one more name that passes is written behind those listed so far
pub list-more : (pass : FileName → Bool) (files order : List FileName) (file : FileName) (i count : ℕ)
    → i < length files → file ≡ get_or files i file → count < length order → pass file ≡ true
    → take count order ≡ filter pass (take i files)
    → take (count + 1) (set order count file) ≡ filter pass (take (i + 1) files)
list-more pass files order file i count within read room passes so_far =
    rw add-one (take-suc-set order count file room) ∙ ap (λ fs. fs ++ file ∷ []) so_far
    ∙ sym (ap (filter pass) (take-more i files file within read) ∙ filter-append pass (take i files) file
    ∙ ap (λ b. cond b (filter pass (take i files) ++ file ∷ []) (filter pass (take i files))) passes)

-- a name that does not pass is left out
pub list-same : (pass : FileName → Bool) (files order : List FileName) (file : FileName) (i count : ℕ)
    → i < length files → file ≡ get_or files i file → pass file ≡ false
    → take count order ≡ filter pass (take i files) → take count order ≡ filter pass (take (i + 1) files)
list-same pass files order file i count within read passes so_far =
    so_far ∙ sym (ap (filter pass) (take-more i files file within read) ∙ filter-append pass (take i files) file
    ∙ ap (λ b. cond b (filter pass (take i files) ++ file ∷ []) (filter pass (take i files))) passes)
