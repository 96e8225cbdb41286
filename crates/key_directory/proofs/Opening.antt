-- What opens goes on opening, where the entry of the named blob stays and the level doesn't fall.
use Rattle.std.proofs.Common.{◌≡◌, ◌≤◌, ℕ, Bool, true, false, cond, ◌&&◌, List, [], ◌∷◌, refl, sym, subst, arith}
use Rattle.std.specs.Prelude.{Option, Some, None, nat_le}
use Rattle.std.proofs.lemmas.Bool.Decides.{nat_tests}
use Rattle.std.proofs.lemmas.Option.{none-some}
use Rattle.tree_model.specs.declared.blobs.Blob.{Blob}
use Rattle.tree_model.specs.Held.{Held, blob_in}
use Rattle.tree_model.specs.Tree.{if_there}
use Rattle.journal_model.specs.Sealed.{unsealed_key}
use Rattle.keystore_model.specs.declared.entry.StoreEntry.{StoreEntry}
use Rattle.keystore_model.specs.Store.{entry_of, same_bytes}
use Rattle.key_directory.specs.declared.shapes.ShapeFault.{ShapeFault}
use Rattle.key_directory.specs.Opens.{under_entry, opens_shape, opens}
use Rattle.key_directory.specs.Shape.{shape_unless, form, first_fault, tests}

still-under : (same : Bool) (level low high : ℕ) (text : Option (List ℕ)) (key : List ℕ) → low ≤ high
    → cond (same && nat_le level low) text None ≡ Some key → cond (same && nat_le level high) text None ≡ Some key
still-under false level low high text key rises e = e
still-under true level low high text key rises e = grind (arith, nat_tests)

still-there : (low high : ℕ) (app_id sealed key : List ℕ) (before after : Option StoreEntry) → low ≤ high
    → ((entry : StoreEntry) → before ≡ Some entry → after ≡ Some entry)
    → if_there before None (under_entry low app_id sealed) ≡ Some key
    → if_there after None (under_entry high app_id sealed) ≡ Some key
still-there low high app_id sealed key None after rises stays e = absurd (none-some key e)
still-there low high app_id sealed key (Some entry) after rises stays e =
    subst (λ found. if_there found None (under_entry high app_id sealed) ≡ Some key) (sym (stays entry refl))
    (still-under (same_bytes app_id entry.app_id) entry.level low high (unsealed_key entry.key sealed) key rises e)

module _ (before after : List StoreEntry) (low high : ℕ) (rises : low ≤ high) where
  still-shaped : (discard sealed secret key : List ℕ) (fault : Option ShapeFault) (name : Option Blob)
      (upgraded has_new : Bool)
      → ((blob : Blob) (entry : StoreEntry) → name ≡ Some blob → entry_of before blob ≡ Some entry
      → entry_of after blob ≡ Some entry)
      → opens_shape before low discard sealed (shape_unless fault (form name upgraded has_new)) secret ≡ Some key
      → opens_shape after high discard sealed (shape_unless fault (form name upgraded has_new)) secret ≡ Some key
  still-shaped discard sealed secret key (Some fault) name upgraded has_new stays e = e
  still-shaped discard sealed secret key None None upgraded has_new stays e = e
  still-shaped discard sealed (byte ∷ bytes) key None (Some blob) upgraded has_new stays e = e
  still-shaped discard sealed [] key None (Some blob) upgraded has_new stays e =
      still-there low high _ _ key (entry_of before blob) (entry_of after blob) rises
      (λ entry. stays blob entry refl) e

  pub still-opens : (held : Held) (secret key : List ℕ)
      → ((blob : Blob) (entry : StoreEntry) → blob_in held ≡ Some blob → entry_of before blob ≡ Some entry
      → entry_of after blob ≡ Some entry)
      → opens before low held secret ≡ Some key → opens after high held secret ≡ Some key
  still-opens held secret key stays e =
      still-shaped _ _ secret key (first_fault (tests held)) (blob_in held) _ _ stays e
