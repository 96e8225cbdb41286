-- What a user's slot opens to with a secret, and that it goes on opening to that while its entry stays.
use Rattle.std.proofs.Common.{◌≡◌, ◌≢◌, ◌⊎◌, inl, inr, ℕ, Bool, true, false, List, [], ◌∷◌, refl, sym, ap, ◌∙◌}
use Rattle.std.proofs.Common.{subst}
use Rattle.std.specs.Prelude.{Option, Some, None, is_some, IsSome}
use Rattle.std.proofs.lemmas.Option.{none-some, same_Some}
use Rattle.std.specs.FinMap as map
use Rattle.tree_model.specs.declared.blobs.Blob.{Blob}
use Rattle.tree_model.specs.declared.files.FileName.TheVariants.{Discard}
use Rattle.tree_model.specs.declared.places.Class.TheVariants.{Ce as ForCe}
use Rattle.tree_model.specs.declared.sites.Site.{Site}
use Rattle.tree_model.specs.declared.sites.Site.TheVariants.{Ce}
use Rattle.tree_model.specs.Dir.{Files}
use Rattle.tree_model.specs.Held.{Held, held_in, blob_in}
use Rattle.tree_model.specs.Tree.{if_there}
use Rattle.journal_model.specs.Hashes.{app_id_of}
use Rattle.journal_model.specs.Made.{key_of}
use Rattle.keystore_model.specs.declared.entry.StoreEntry.{StoreEntry}
use Rattle.keystore_model.specs.Store.{entry_of}
use Rattle.keystore_model.proofs.Stores.{decide-bytes}
use Rattle.key_directory.specs.declared.shapes.ShapeFault.{ShapeFault}
use Rattle.key_directory.specs.Opened.{WasGiven, fits_secret, FitsShape}
use Rattle.key_directory.specs.Opened.{LawOfSlots, LawOfWrongSecrets, LawOfKeptOpening}
use Rattle.key_directory.specs.Opens.{bytes_at, under_entry, under_secret, opens_shape, opens}
use Rattle.key_directory.specs.Shape.{shape_unless, form, first_fault, tests}
use Rattle.key_directory.specs.Vaults.{sealed_in, NoChanceMatch, Vault, NamesOwn, tag_at, OpensAs, OpensAt}

-- an entry that is there stays the same where it is kept
same-entry : (before after : Option StoreEntry) → IsSome before
    → ((entry : StoreEntry) → before ≡ Some entry → after ≡ Some entry) → after ≡ before
same-entry None after live keeps = cc
same-entry (Some entry) after live keeps = keeps entry refl

module _ (before after : List StoreEntry) (level : ℕ) (discard sealed : List ℕ) where
  same-shaped : (fault : Option ShapeFault) (name : Option Blob) (upgraded has_new : Bool) (secret : List ℕ)
      → ((blob : Blob) → name ≡ Some blob → entry_of after blob ≡ entry_of before blob)
      → opens_shape after level discard sealed (shape_unless fault (form name upgraded has_new)) secret
      ≡ opens_shape before level discard sealed (shape_unless fault (form name upgraded has_new)) secret
  same-shaped (Some fault) name upgraded has_new secret same = refl
  same-shaped None None upgraded has_new secret same = refl
  same-shaped None (Some blob) upgraded has_new (byte ∷ bytes) same = refl
  same-shaped None (Some blob) upgraded has_new [] same =
      ap (λ found. if_there found None (under_entry level (app_id_of discard []) sealed)) (same blob refl)

same-opens : (before after : List StoreEntry) (level : ℕ) (held : Held) (secret : List ℕ)
    → ((blob : Blob) → blob_in held ≡ Some blob → entry_of after blob ≡ entry_of before blob)
    → opens after level held secret ≡ opens before level held secret
same-opens before after level held secret same =
    same-shaped before after level _ _ (first_fault (tests held)) (blob_in held) _ _ secret same

pub kept-opening : LawOfKeptOpening
kept-opening before after files secret key level keeps opened =
    let same = λ (blob : Blob) (names : blob_in (held_in files) ≡ Some blob).
    same-entry (entry_of before.entries blob) (entry_of after.entries blob) (opened.live blob names)
    (keeps blob names) in record {
      live = λ blob names. subst IsSome (sym (same blob names)) (opened.live blob names);
      opens_to =
          ap (λ height. opens after.entries height (held_in files) secret) level
          ∙ same-opens before.entries after.entries before.level (held_in files) secret same
          ∙ opened.opens_to;
    }

module _ (entries : List StoreEntry) (level : ℕ) (discard sealed : List ℕ) where
  -- a directory that opens has no fault
  opens-passes : (fault : Option ShapeFault) (name : Option Blob) (upgraded has_new : Bool) (secret key : List ℕ)
      → opens_shape entries level discard sealed (shape_unless fault (form name upgraded has_new)) secret ≡ Some key
      → fault ≡ None
  opens-passes None name upgraded has_new secret key e = refl
  opens-passes (Some fault) name upgraded has_new secret key e = cc

  misfit-opens : (fault : Option ShapeFault) (name : Option Blob) (upgraded has_new : Bool) (given : List ℕ)
      → fits_secret name given ≡ false
      → opens_shape entries level discard sealed (shape_unless fault (form name upgraded has_new)) given ≡ None
  misfit-opens (Some fault) name upgraded has_new given misfit = refl
  misfit-opens None None upgraded has_new [] misfit = refl
  misfit-opens None None upgraded has_new (byte ∷ bytes) misfit = cc
  misfit-opens None (Some blob) upgraded has_new [] misfit = cc
  misfit-opens None (Some blob) upgraded has_new (byte ∷ bytes) misfit = refl

  -- a directory that opens with two secrets opens with the empty one alone, or with each under its wrapping key
  opens-two : (fault : Option ShapeFault) (name : Option Blob) (upgraded has_new : Bool)
      (secret opened given key : List ℕ)
      → opens_shape entries level discard sealed (shape_unless fault (form name upgraded has_new)) secret ≡ Some opened
      → opens_shape entries level discard sealed (shape_unless fault (form name upgraded has_new)) given ≡ Some key
      → (secret ≡ given) ⊎ ((secret ≢ []) × (given ≢ []) × (under_secret discard sealed given ≡ Some key))
  opens-two (Some fault) name upgraded has_new secret opened given key is also = cc
  opens-two None None upgraded has_new [] opened given key is also = cc
  opens-two None None upgraded has_new (byte ∷ bytes) opened [] key is also = cc
  opens-two None None upgraded has_new (byte ∷ bytes) opened (first ∷ rest) key is also =
      inr (λ e. cc, λ e. cc, also)
  opens-two None (Some blob) upgraded has_new [] opened [] key is also = inl refl
  opens-two None (Some blob) upgraded has_new [] opened (first ∷ rest) key is also = cc
  opens-two None (Some blob) upgraded has_new (byte ∷ bytes) opened given key is also = cc

fits-shape : (fault : Option ShapeFault) (name : Option Blob) (upgraded has_new : Bool) (given : List ℕ)
    → fault ≡ None → fits_secret name given ≡ true
    → FitsShape (shape_unless fault (form name upgraded has_new)) given
fits-shape (Some fault) name upgraded has_new given passes fits = cc
fits-shape None None upgraded has_new [] passes fits = cc
fits-shape None None upgraded has_new (byte ∷ bytes) passes fits = tt
fits-shape None (Some blob) upgraded has_new [] passes fits = tt
fits-shape None (Some blob) upgraded has_new (byte ∷ bytes) passes fits = cc

-- a secret that was given opens only a directory that is under it, where no tag matched by chance
given-under : (vault : Vault) (user : ℕ) (site : Site) (files : Files) (secret given right key : List ℕ)
    → NoChanceMatch (vault.attempts user) → WasGiven (vault.attempts user) given
    → OpensAs vault user site files secret right
    → opens vault.entries vault.level (held_in files) given ≡ Some key → secret ≡ given
given-under vault user site files secret given right key match gave is opens_to =
    elim (opens-two vault.entries vault.level _ _ _ (blob_in (held_in files)) _ _ secret is.opened given key
    is.opens_to opens_to) [
      | inl same ↦ same
      | inr under ↦ elim (decide-bytes secret given) [
        | inl same ↦ same
        | inr differ ↦ let made = is.made match under.0 in absurd (none-some key
            (sym (match.none made.added given made.has (gave under.1) (λ e. differ (sym (e ∙ made.under))))
            ∙ ap (λ found. under_secret (bytes_at found) (sealed_in made.added) given) (sym made.discard)
            ∙ ap (λ found. under_secret (bytes_at (held_in files Discard)) (bytes_at found) given) (sym made.sealed)
            ∙ under.2))
      ]
    ]

-- a directory that is there opens with the recorded secret
recorded-opens : (vault : Vault) (user : ℕ) (site : Site) (files : Files) (recorded : Option (List ℕ)) (key : List ℕ)
    → OpensAt vault user site (Some files) recorded key
    → (secret : List ℕ) × (recorded ≡ Some secret) × OpensAs vault user site files secret key
recorded-opens vault user site files None key opens = absurd opens
recorded-opens vault user site files (Some secret) key opens = (secret, refl, opens)

pub slots-tell : LawOfSlots
slots-tell vault user part known slot files given stands there =
    let right_key = key_of vault.seed ForCe user known.birth in
    let own = subst (λ found. NamesOwn vault (tag_at user (Ce slot)) found) there (stands.own (Ce slot)) in
    let recorded = recorded-opens vault user (Ce slot) files (map.get known.secrets slot) right_key
    (subst (λ found. OpensAt vault user (Ce slot) found (map.get known.secrets slot) right_key) there
    (stands.opens (Ce slot))) in
    let is = recorded.2 in
    let same = λ (match : NoChanceMatch (vault.attempts user)) (gave : WasGiven (vault.attempts user) given)
    (key : List ℕ) (opens_to : opens vault.entries vault.level (held_in files) given ≡ Some key).
    given-under vault user (Ce slot) files recorded.0 given right_key key match gave is opens_to in
    let live = λ (blob : Blob) (names : blob_in (held_in files) ≡ Some blob).
    let has = own blob names in ap is_some has.live in record {
      live = live;
      misfit = λ misfit. record {
        live = live;
        opens_to = misfit-opens vault.entries vault.level _ _ _ (blob_in (held_in files)) _ _ given misfit;
      };
      fit = λ fits. fits-shape _ (blob_in (held_in files)) _ _ given
          (opens-passes vault.entries vault.level _ _ _ (blob_in (held_in files)) _ _ recorded.0 is.opened is.opens_to)
          fits;
      under = λ match gave key opens_to. recorded.1 ∙ ap Some (same match gave key opens_to);
      right = λ match gave key opens_to. same_Some key is.opened (sym opens_to
          ∙ ap (opens vault.entries vault.level (held_in files)) (sym (same match gave key opens_to)) ∙ is.opens_to)
          ∙ is.right match;
    }

-- a directory that is under a secret opens with it
under-opens : (vault : Vault) (user : ℕ) (site : Site) (found : Option Files) (recorded : Option (List ℕ))
    (secret key : List ℕ) → OpensAt vault user site found recorded key → recorded ≡ Some secret
    → ((files : Files) → found ≡ Some files → opens vault.entries vault.level (held_in files) secret ≡ None) → ⊥
under-opens vault user site None None secret key is under none = cc
under-opens vault user site None (Some other) secret key is under none = is
under-opens vault user site (Some files) None secret key is under none = is
under-opens vault user site (Some files) (Some other) secret key is under none =
    let same : other ≡ secret = cc in
    let nothing : opens vault.entries vault.level (held_in files) other ≡ None =
    subst (λ s. opens vault.entries vault.level (held_in files) s ≡ None) (sym same) (none files refl) in
    none-some is.opened (sym nothing ∙ is.opens_to)

pub wrong-secret : LawOfWrongSecrets
wrong-secret vault user part known given stands none has =
    under-opens vault user (Ce has.slot) (part (Ce has.slot)) (map.get known.secrets has.slot) given _
    (stands.opens (Ce has.slot)) has.under (none has.slot)
