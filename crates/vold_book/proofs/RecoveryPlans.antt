-- What each turn of a recovery shows: it keeps every user's world, makes no directory name another blob, and ends
-- where nothing is half made and every live blob is named or listed.
use Rattle.std.proofs.Common.{◌≡◌, ◌≢◌, ◌⊎◌, inl, inr, ℕ, ◌+◌, ◌-◌, ◌<◌, ◌≤◌, Bool, true, false, not, cond}
use Rattle.std.proofs.Common.{◌==◌, List, [], ◌∷◌, length, refl, sym, ap, ◌∙◌, subst, arith}
use Rattle.std.specs.Prelude.{Option, Some, None, IsSome, is_some, Contains, slice_get}
use Rattle.std.specs.FinMap as map
use Rattle.std.specs.FinMap.{contains_key-keys}
use Rattle.std.specs.Cmp.{eq_by_cmp_equiv}
use Rattle.std.proofs.lemmas.Bool.{cases_order}
use Rattle.std.proofs.lemmas.List.{length-map}
use Rattle.std.proofs.lemmas.Map.Views.{list_any-from_Contains, Contains-from_any}
use Rattle.std.proofs.lemmas.Option.{none-some, same_Some, slice_get_cases, slice_get_within}
use Rattle.std.proofs.lemmas.Option.{get_or_from_slice_get, slice_get_read}
use Rattle.tree_model.specs.declared.blobs.Blob.{Blob}
use Rattle.tree_model.specs.declared.ops.Fill.TheVariants.{Same}
use Rattle.tree_model.specs.declared.ops.Op.{Op as DiskOp}
use Rattle.tree_model.specs.declared.places.Place.{Place}
use Rattle.tree_model.specs.declared.places.Place.TheVariants.{De, Ce, Temp}
use Rattle.tree_model.specs.declared.sites.Site.{Site}
use Rattle.tree_model.specs.declared.sites.Site.TheVariants.{De as DeSite, Ce as CeSite, Temp as TempSite}
use Rattle.tree_model.specs.declared.sites.LocalOp.TheVariants.{RemoveDir}
use Rattle.tree_model.specs.Blobs.{blob_exact}
use Rattle.tree_model.specs.Dir.{Files}
use Rattle.tree_model.specs.Disk.{view}
use Rattle.tree_model.specs.Named.{named_at, PartNames, IsNamed}
use Rattle.tree_model.specs.Order.{place_cmp, place_total, place_exact}
use Rattle.tree_model.specs.Parts.{Part, after_local, filled_local}
use Rattle.tree_model.specs.Sites.{site_of, place_of, op_of}
use Rattle.tree_model.specs.Tree.{Tree, user_of, kind_if, Drop as DropKind}
use Rattle.tree_model.proofs.Logic.{is_none, is_equal}
use Rattle.tree_model.proofs.Maps.{decide_key, get-insert_same, get-insert_other, get-remove_same, get-remove_other}
use Rattle.tree_model.proofs.Parts.{frame}
use Rattle.journal_model.specs.declared.phase.Phase.TheVariants.{Down}
use Rattle.journal_model.specs.Users.{Record}
use Rattle.keystore_model.specs.declared.entry.StoreEntry.{StoreEntry}
use Rattle.keystore_model.specs.Store.{IsLive, same_bytes, entry_of, blobs_of}
use Rattle.keystore_model.proofs.Elements.{Contains-none, Contains-first, Contains-rest, Contains-cases}
use Rattle.deferred_delete.specs.Deferral.{Deferral, noted}
use Rattle.blob_custody.proofs.Left.{view-op}
use Rattle.blob_custody.proofs.Listed.{pushed-listed}
use Rattle.blob_custody.proofs.Names.{absent, same-names}
use Rattle.user_world.specs.Meaning.{Meaning, PartStands}
use Rattle.user_world.specs.OwnWorlds.{quiet, own_view, own_record}
use Rattle.user_world.specs.Timelines.{Timeline, own_of, OwnWorldsStand}
use Rattle.user_world.specs.Turns.{StepShows}
use Rattle.user_world.proofs.OwnWorlds.{keeps-absent, keeps-temp, absent-view, view-stands}
use Rattle.user_world.proofs.Timelines.{view-shown}
use Rattle.key_directory.specs.Shape.{sized}
use Rattle.key_directory.specs.Vaults.{Vault, OpensAt, sealed}
use Rattle.step_core.specs.Table.{NamedPlaces, named_by}
use Rattle.task_turns.specs.declared.calls.Call.TheVariants.{Op as OpCall, Sync, Read, Entries}
use Rattle.task_turns.specs.declared.next.Next.{Next}
use Rattle.task_turns.specs.declared.next.Next.TheVariants.{Call as CallNext}
use Rattle.task_turns.specs.Names.{Gains}
use Rattle.fixate_task.proofs.Fixing.{removal-gains as slot-gains}
use Rattle.bench.specs.Bench.{KnowsPlaces, AreUnnamed, Nothing, Unnamed, Named, named_in, named_here, listed, dropped}
use Rattle.bench.proofs.Known.{names-there}
use Rattle.vold_book.specs.declared.recovery.Recovery.{Recovery}
use Rattle.vold_book.specs.declared.recovery.Recovery.TheVariants.{Sweeping, Reading, Settled}
use Rattle.vold_book.specs.Recovery.{max_places, is_nothing, RestsAt, NamesFirst, AllPlaced, IsSwept, IsSettled}
use Rattle.vold_book.specs.Recovery.{recovery_left}
use Rattle.vold_book.specs.Recovery.{after_read, operated, with_read, next_read, SweepShows}
use Rattle.vold_book.specs.Recovery.{EntriesShow, RecoveryShows, RecoveryTurns}
use Rattle.vold_book.specs.State.{Ground}
use Rattle.vold_book.specs.Sweeping.{NoneLeft, IsLeft, IsFirstLeft, IsTidy}
use Rattle.vold_book.proofs.SameKeys.{same-keys, same-count}

-- the key of a place that is there, and a place that is one of the keys
module _ {V : Type 0} (places : map.FinMap place_cmp V) where
  length-keys : length (map.keys places) ≡ map.len places
  length-keys = length-map (map.entries places) _ ∙ sym (map.len-entries places)

  key-there : (at : ℕ) (place : Place) → slice_get (map.keys places) at ≡ Some place
      → is_some (map.get places place) ≡ true
  key-there at place is =
      contains_key-keys places place
      ∙ list_any-from_Contains (eq_by_cmp_equiv place_total) place (map.keys places)
      (at, slice_get_within (map.keys places) at place is, get_or_from_slice_get (map.keys places) at place place is)

  key-at : (place : Place) → is_some (map.get places place) ≡ true
      → (at : ℕ) × (at < map.len places) × (slice_get (map.keys places) at ≡ Some place)
  key-at place there =
      let key = Contains-from_any (λ a b e. place_exact a b (is_equal _ e)) place (map.keys places)
      (sym (contains_key-keys places place) ∙ there) in
      let within = key.1 in
      let long = length-keys in (
        key.0,
        omega (arith, within, long),
        slice_get_read (map.keys places) (length (map.keys places)) key.0 place refl key.1 (sym key.2),
      )

behind : (places : List Place) (at : ℕ) → slice_get places at ≡ None → length places ≤ at
behind places at none = elim (slice_get_cases places at).1 [
  | inl inside ↦ absurd (none-some inside.0 (sym none ∙ inside.2))
  | inr past ↦ past.0
]

-- of two that are there alike, neither is there where one isn't
pub none-there : {X Y : Type 0} (found : Option X) (other : Option Y) → is_some found ≡ is_some other → found ≡ None
    → other ≡ None
none-there found other same none = is_none other (sym same ∙ ap is_some none)

-- a user is there exactly where the device key's directory is
record-there : (vault : Vault) (user : ℕ) (part : Part) (known : Option Record)
    → PartStands (sealed vault) user part known → is_some (part DeSite) ≡ is_some known
record-there vault user part None stands = ap is_some stands
record-there vault user part (Some known) stands = opened (part DeSite) _ (stands.opens DeSite)
  where
    opened : (found : Option Files) (key : List ℕ) → OpensAt vault user DeSite found (Some []) key
        → is_some found ≡ true
    opened None key opens = absurd opens
    opened (Some files) key opens = refl

no-record : (vault : Vault) (line : Timeline) (user : ℕ) → OwnWorldsStand (sealed vault) line
    → map.get (view line.disk) (De user) ≡ None → own_record (own_of user line) ≡ None
no-record vault line user stands none =
    none-there (own_view (own_of user line) DeSite) (own_record (own_of user line))
    (record-there vault user (own_view (own_of user line)) (own_record (own_of user line))
    (view-stands (sealed vault) user (own_of user line) (stands.images user)))
    (ap (λ part. part DeSite) (view-shown user _ line stands.shows) ∙ none)

-- the removal of what is left half made shows what it has to for its owner
module _ (ground : Ground) (stands : OwnWorldsStand (sealed ground.vault) ground.line)
    (knows : KnowsPlaces ground.places (view ground.line.disk)) where
  abbrev meaning : Meaning
  meaning = sealed ground.vault

  ownerless : (user : ℕ) → map.get ground.places (De user) ≡ None → own_record (own_of user ground.line) ≡ None
  ownerless user none = no-record ground.vault ground.line user stands
      (none-there (map.get ground.places (De user)) (map.get (view ground.line.disk) (De user)) (knows (De user)) none)

  removal-step : (place : Place) → IsLeft ground.places place → IsSome (map.get ground.places place)
      → StepShows meaning (user_of place) (own_of (user_of place) ground.line) (quiet (RemoveDir (site_of place))) []
  removal-step (De user) left there = absurd left
  removal-step (Ce user slot) left there =
      let none = ownerless user left in record {
        fits = subst (λ part. IsSome (part (CeSite slot))) (sym (view-shown user _ ground.line stands.shows))
            (sym (knows (Ce user slot)) ∙ there);
        noted = ap (λ found. kind_if (is_some found) DropKind)
            (absent-view meaning user (own_of user ground.line) (stands.images user) none);
        keeps = keeps-absent meaning user (own_of user ground.line) (RemoveDir (CeSite slot)) none refl;
        leads = tt;
      }
  removal-step (Temp user) left there = record {
    fits = subst (λ part. IsSome (part TempSite)) (sym (view-shown user _ ground.line stands.shows))
        (sym (knows (Temp user)) ∙ there);
    noted = refl;
    keeps = keeps-temp meaning user (own_of user ground.line) (RemoveDir TempSite) refl (λ slot. refl);
    leads = tt;
  }

  -- they go on naming what they named
  removal-keeps : (place : Place) → IsLeft ground.places place → (blob : Blob)
      → PartNames (own_view (own_of (user_of place) ground.line)) blob
      → PartNames (after_local (own_view (own_of (user_of place) ground.line)) (RemoveDir (site_of place))) blob
  removal-keeps (De user) left blob names = absurd left
  removal-keeps (Ce user slot) left blob names = absurd (absent (own_view (own_of user ground.line) DeSite)
      (absent-view meaning user (own_of user ground.line) (stands.images user) (ownerless user left))
      names.present)
  removal-keeps (Temp user) left blob names = same-names (own_view (own_of user ground.line))
      (after_local (own_view (own_of user ground.line)) (RemoveDir TempSite)) blob
      (frame (own_view (own_of user ground.line)) Same (RemoveDir TempSite) DeSite refl)
      (λ slot. frame (own_view (own_of user ground.line)) Same (RemoveDir TempSite) (CeSite slot) refl) names

  -- none of the user's directories names another blob then
  removal-gains : (place : Place) → IsLeft ground.places place
      → Gains (own_of (user_of place) ground.line) (RemoveDir (site_of place)) []
  removal-gains (De user) left = absurd left
  removal-gains (Ce user slot) left = slot-gains (own_of user ground.line) slot
  removal-gains (Temp user) left = record {
    gained = λ part fill blob is names. inl (same-names
        (after_local part (filled_local fill (RemoveDir TempSite))) part blob
        (sym (frame part fill (RemoveDir TempSite) DeSite refl))
        (λ slot. sym (frame part fill (RemoveDir TempSite) (CeSite slot) refl)) names);
    named = λ blob none. absurd (Contains-none blob none);
    kept = λ blob names. inl (removal-keeps (Temp user) left blob names);
  }

  -- the known places stay those of the view
  removal-known : (user : ℕ) (site : Site)
      → KnowsPlaces (map.remove ground.places (place_of user site))
      (view (operated ground user (RemoveDir site) None).line.disk)
  removal-known user site =
      subst (KnowsPlaces (map.remove ground.places (place_of user site)))
      (sym (view-op ground.line.disk (op_of user (RemoveDir site))))
      (λ place. elim (decide_key place_total place_exact place (place_of user site)) [
        | inl same ↦ ap (λ p. is_some (map.get (map.remove ground.places (place_of user site)) p)) same
            ∙ ap is_some (get-remove_same place_total place_exact ground.places (place_of user site))
            ∙ sym (ap is_some (get-remove_same place_total place_exact (view ground.line.disk) (place_of user site)))
            ∙ sym (ap (λ p. is_some (map.get (map.remove (view ground.line.disk) (place_of user site)) p)) same)
        | inr differ ↦
            ap is_some (get-remove_other place_total place_exact ground.places (place_of user site) place differ)
            ∙ knows place
            ∙ sym (ap is_some
            (get-remove_other place_total place_exact (view ground.line.disk) (place_of user site) place differ))
      ])

  -- and it drops none that one of them is known to name
  removal-lists : (place : Place) → IsLeft ground.places place
      → dropped ground.places (user_of place) (RemoveDir (site_of place)) ≡ []
  removal-lists (De user) left = absurd left
  removal-lists (Ce user slot) left =
      ap (λ there. cond (is_some there) (named_here ground.places (Ce user slot)) []) left
  removal-lists (Temp user) left = refl

  pub removal-shows : (place : Place) → ground.phase ≡ Down → ground.list.items ≡ [] → IsLeft ground.places place
      → IsSome (map.get ground.places place)
      → SweepShows ground Sweeping (user_of place) (RemoveDir (site_of place)) None
  removal-shows place down unlisted left there = record {
    step = removal-step place left there;
    brings = refl;
    gained = removal-gains place left;
    site = site_of place;
    removes = refl;
    keeps = removal-keeps place left;
    lists = removal-lists place left;
    comes = record {
      rests = (down, (removal-known (user_of place) (site_of place), unlisted));
      falls = omega arith;
    };
  }

-- a place of which it becomes known what it names is there still, and every other as it was
module _ (ground : Ground) (place : Place) (there : is_some (map.get ground.places place) ≡ true) where
  abbrev read : NamedPlaces
  read = (with_read ground place).places

  read-here : map.get read place ≡ Some (named_by (named_in (map.get (view ground.line.disk) place)))
  read-here = get-insert_same place_total place_exact ground.places place _

  read-other : (other : Place) → other ≢ place → map.get read other ≡ map.get ground.places other
  read-other other differ = get-insert_other place_total place_exact ground.places place _ other differ

  read-there : (other : Place) → is_some (map.get read other) ≡ is_some (map.get ground.places other)
  read-there other = elim (decide_key place_total place_exact other place) [
    | inl same ↦ subst (λ p. is_some (map.get read p) ≡ is_some (map.get ground.places p)) (sym same)
        (ap is_some read-here ∙ sym there)
    | inr differ ↦ ap is_some (read-other other differ)
  ]

  -- what is left is left of both
  read-left : (other : Place) → IsLeft read other → IsLeft ground.places other
  read-left (De user) left = left
  read-left (Ce user slot) left =
      none-there (map.get read (De user)) (map.get ground.places (De user)) (read-there (De user)) left
  read-left (Temp user) left = left

  read-swept : IsSwept ground → IsSwept (with_read ground place)
  read-swept swept = record {
    known = λ other. read-there other ∙ swept.known other;
    none = λ other found left. swept.none other (sym (read-there other) ∙ found) (read-left other left);
    unlisted = swept.unlisted;
  }

  -- of one more place it is known what it names
  read-names : (count : ℕ) → slice_get (map.keys ground.places) count ≡ Some place
      → KnowsPlaces ground.places (view ground.line.disk)
      → NamesFirst ground.places (view ground.line.disk) count
      → NamesFirst read (view ground.line.disk) (count + 1)
  read-names count here knows names at other low is = elim (decide_key place_total place_exact other place) [
    | inl same ↦ subst (λ p. map.get read p ≡ named_in (map.get (view ground.line.disk) p)) (sym same)
        (read-here ∙ names-there (map.get (view ground.line.disk) place) (sym (knows place) ∙ there))
    | inr differ ↦ read-other other differ ∙ names at other (before differ) key
  ]
    where
      key : slice_get (map.keys ground.places) at ≡ Some other
      key = sym (ap (λ keys. slice_get keys at) (same-keys read ground.places read-there)) ∙ is

      before : other ≢ place → at < count
      before differ = elim (cases_order at count) [
        | inl same ↦ absurd (differ (same_Some other place
            (sym key ∙ ap (slice_get (map.keys ground.places)) same ∙ here)))
        | inr (inl earlier) ↦ earlier
        | inr (inr later) ↦ absurd (omega (arith, low, later))
      ]

-- once it is known of all places what each names, nothing is half made
module _ (ground : Ground) (swept : IsSwept ground) where
  pub all-read : NamesFirst ground.places (view ground.line.disk) (map.len ground.places)
      → IsTidy ground.places (view ground.line.disk)
  all-read names = record {
    known = record {
      there = swept.known;
      names = λ place standing. either place (map.get ground.places place) refl;
    };
    none = swept.none;
  }
    where
      either : (place : Place) (found : Option (Option Blob)) → map.get ground.places place ≡ found
          → map.get ground.places place ≡ named_in (map.get (view ground.line.disk) place)
      either place None none = none ∙ sym (ap named_in
          (none-there (map.get ground.places place) (map.get (view ground.line.disk) place) (swept.known place) none))
      either place (Some named) some =
          let key = key-at ground.places place (ap is_some some) in
          names key.0 place key.1 key.2

-- a live blob is one of an entry
live-blob : (entries : List StoreEntry) (blob : Blob) → IsLive entries blob → Contains (blobs_of entries) blob
live-blob [] blob live = cc
live-blob (first ∷ entries) blob live = elim (same_bytes blob first.blob) as (λ t. same_bytes blob first.blob ≡ t
    → IsSome (cond t (Some first) (entry_of entries blob)) → Contains (first.blob ∷ blobs_of entries) blob) [
      | true ↦ λ tie found. subst (Contains (first.blob ∷ blobs_of entries))
          (sym (blob_exact blob first.blob (is_equal _ tie))) (Contains-first first.blob (blobs_of entries))
      | false ↦ λ tie found. Contains-rest first.blob (blobs_of entries) blob (live-blob entries blob found)
    ] refl live

-- a blob that a known place names is one that a standing directory of the view does
module _ (places : NamedPlaces) (tree : Tree) (tidy : IsTidy places tree) where
  sized-back : (found : Option Blob) (blob : Blob) → sized found ≡ Some blob → found ≡ Some blob
  sized-back None blob is = is
  sized-back (Some one) blob is = either (length one == 32) is
    where
      either : (fits : Bool) → cond fits (Some one) None ≡ Some blob → Some one ≡ Some blob
      either true one_is = one_is
      either false none = cc

  named-back : (found : Option Files) (blob : Blob) → Some (Some blob) ≡ named_in found → named_at found ≡ Some blob
  named-back None blob is = cc
  named-back (Some files) blob is =
      sized-back (named_at (Some files)) blob (sym (same_Some (Some blob) (sized (named_at (Some files))) is))

  standing-named : (place : Place) (blob : Blob) → map.get places place ≡ Some (Some blob) → IsNamed tree blob
  standing-named (De user) blob is = record {
    user = user;
    there = record {
      present = sym (tidy.known.there (De user)) ∙ ap is_some is;
      site = DeSite;
      names = named-back (map.get tree (De user)) blob (sym is ∙ tidy.known.names (De user) (λ temporary. temporary));
    };
  }
  standing-named (Ce user slot) blob is = record {
    user = user;
    there = record {
      present = sym (tidy.known.there (De user)) ∙ owned (map.get places (De user)) refl;
      site = CeSite slot;
      names = named-back (map.get tree (Ce user slot)) blob
          (sym is ∙ tidy.known.names (Ce user slot) (λ temporary. temporary));
    };
  }
    where
      owned : (found : Option (Option Blob)) → map.get places (De user) ≡ found
          → is_some (map.get places (De user)) ≡ true
      owned None none = absurd (tidy.none (Ce user slot) (ap is_some is) none)
      owned (Some named) some = ap is_some some
  standing-named (Temp user) blob is = absurd (tidy.none (Temp user) (ap is_some is) tt)

  -- each of these blobs is named or found
  named-or-found : {blobs found : List Blob} → AreUnnamed places blobs found → (blob : Blob) → Contains blobs blob
      → IsNamed tree blob ⊎ Contains found blob
  named-or-found Nothing blob has = inr has
  named-or-found (Unnamed first blobs found unknown rest) blob has = elim (Contains-cases first blobs blob has) [
    | inl same ↦ inr (subst (Contains (first ∷ found)) same (Contains-first first found))
    | inr later ↦ elim (named-or-found rest blob later) [
      | inl named ↦ inl named
      | inr in_found ↦ inr (Contains-rest first found blob in_found)
    ]
  ]
  named-or-found (Named first blobs found known rest) blob has = elim (Contains-cases first blobs blob has) [
    | inl same ↦ inl (subst (IsNamed tree) same (standing-named known.place first known.names))
    | inr later ↦ named-or-found rest blob later
  ]

  pub all-placed : (entries : List StoreEntry) (list : Deferral) (found : List Blob)
      → AreUnnamed places (blobs_of entries) found → AllPlaced entries tree (listed list found)
  all-placed entries list found unnamed blob live =
      elim (named-or-found unnamed blob (live-blob entries blob live)) [
        | inl named ↦ inl named
        | inr in_found ↦ inr (pushed-listed _ found true blob in_found)
      ]

-- the listing of what no directory names places each live blob
listing : (ground : Ground) (recovery : Recovery) → ground.phase ≡ Down → IsSettled ground → ground.list.items ≡ []
    → 1 < recovery_left ground.places recovery → EntriesShow ground recovery
listing ground recovery down settled unlisted more = record {
  settled = settled;
  unlisted = unlisted;
  comes = λ found unnamed. record {
    rests = (
      down,
      (
        record { tidy = settled.tidy; still = settled.still },
        all-placed ground.places (view ground.line.disk) settled.tidy ground.vault.entries ground.list found unnamed,
      ),
    );
    falls = omega (arith, more);
  };
}

-- a recovery reads on, from places of which none is half made
module _ (ground : Ground) (recovery : Recovery) (count : ℕ) (few : map.len (view ground.line.disk) ≤ max_places)
    (down : ground.phase ≡ Down) (swept : IsSwept ground)
    (names : NamesFirst ground.places (view ground.line.disk) count) where
  abbrev places : NamedPlaces
  places = ground.places

  counted : map.len places ≡ map.len (view ground.line.disk)
  counted = same-count places (view ground.line.disk) swept.known

  -- the turns that it has left
  record ReadsOn : Type 0 where
    stage : after_read recovery ≡ Reading (count + 1)
    most : 4 + (map.len places - count) ≤ recovery_left places recovery

  module _ (reads : ReadsOn) where
    reads-next : (place : Place) → slice_get (map.keys places) count ≡ Some place
        → RecoveryShows ground recovery (CallNext (Read place) None)
    reads-next place here =
        let there = key-there places count place here in
        let within = slice_get_within (map.keys places) count place here in
        let long = length-keys places in
        let same = same-count (read ground place there) places (read-there ground place there) in
        let len = counted in
        let most = reads.most in (
          refl,
          (
            sym (swept.known place) ∙ there,
            record {
              rests = (
                down,
                subst (λ r. RestsAt (with_read ground place) r) (sym reads.stage) (
                  read-swept ground place there swept,
                  read-names ground place there count here swept.known names,
                  omega (arith, within, long, len, few),
                ),
              );
              falls = subst (λ r. recovery_left (read ground place there) r + 0 < recovery_left places recovery + 0)
                  (sym reads.stage) (omega (arith, within, long, same, most));
            },
          ),
          omega (arith, most),
        )

    all-tidy : slice_get (map.keys places) count ≡ None → IsTidy places (view ground.line.disk)
    all-tidy past =
        let all = behind (map.keys places) count past in
        let long = length-keys places in
        all-read ground swept (λ at place low is. names at place (omega (arith, low, all, long)) is)

    syncs-next : slice_get (map.keys places) count ≡ None → RecoveryShows ground recovery (CallNext Sync None)
    syncs-next past = let most = reads.most in (
      refl,
      record {
        rests = (down, (record { tidy = all-tidy past; still = refl }, ap noted swept.unlisted));
        falls = omega (arith, most);
      },
      omega (arith, most),
    )

    lists-next : slice_get (map.keys places) count ≡ None → ground.line.disk.pending ≡ []
        → RecoveryShows ground recovery (CallNext Entries None)
    lists-next past still = let most = reads.most in (
      refl,
      listing ground recovery down (record { tidy = all-tidy past; still = still }) swept.unlisted
          (omega (arith, most)),
      omega (arith, most),
    )

    goes-on : (found : Option Place) (dirty : Bool) → slice_get (map.keys places) count ≡ found
        → dirty ≡ not (is_nothing ground.line.disk.pending) → RecoveryShows ground recovery (next_read found dirty)
    goes-on (Some place) dirty here is_dirty = reads-next place here
    goes-on None true past is_dirty = syncs-next past
    goes-on None false past is_dirty = lists-next past (nothing ground.line.disk.pending is_dirty)
      where
        nothing : (ops : List DiskOp) → false ≡ not (is_nothing ops) → ops ≡ []
        nothing [] is = refl
        nothing (op ∷ ops) is = cc

-- the turns of a recovery at each stage
module _ (places : NamedPlaces) (dirty : Bool) where
  pub remove-turn : (place : Place) → IsFirstLeft places (Some place)
      → RecoveryTurns places dirty Sweeping (CallNext (OpCall (user_of place) (RemoveDir (site_of place)) None) None)
  remove-turn place first ground known is_dirty stands few rests =
      let left = subst (λ p. IsLeft p place × IsSome (map.get p place)) (sym known) (first.0, first.1) in (
        refl,
        removal-shows ground stands rests.1.0 place rests.0 rests.1.1 left.0 left.1,
        omega arith,
      )

  pub swept-turn : IsFirstLeft places None
      → RecoveryTurns places dirty Sweeping (next_read (slice_get (map.keys places) 0) dirty)
  swept-turn none ground known is_dirty stands few rests =
      let swept : IsSwept ground = record {
        known = rests.1.0;
        none = subst (λ p. NoneLeft p (IsLeft p)) (sym known) none;
        unlisted = rests.1.1;
      } in
      let same = same-count ground.places (view ground.line.disk) swept.known in
      goes-on ground Sweeping 0 few rests.0 swept (λ at place low. absurd (omega (arith, low)))
      (record { stage = refl; most = omega (arith, same, few) }) (slice_get (map.keys places) 0) dirty
      (ap (λ p. slice_get (map.keys p) 0) known) is_dirty

  pub read-turn : (count : ℕ)
      → RecoveryTurns places dirty (Reading count) (next_read (slice_get (map.keys places) count) dirty)
  read-turn count ground known is_dirty stands few rests =
      goes-on ground (Reading count) count few rests.0 rests.1.0 rests.1.1
      (record { stage = refl; most = omega arith }) (slice_get (map.keys places) count) dirty
      (ap (λ p. slice_get (map.keys p) count) known) is_dirty

  pub entries-turn : RecoveryTurns places dirty Settled (CallNext Entries None)
  entries-turn ground known is_dirty stands few rests =
      (refl, listing ground Settled rests.0 rests.1.0 rests.1.1 (omega arith), omega arith)

  -- a turn by the stage and by what it does
  pub at_stage : (recovery stage : Recovery) (next given : Next) → recovery ≡ stage → given ≡ next
      → RecoveryTurns places dirty stage next → RecoveryTurns places dirty recovery given
  at_stage recovery stage next given is does turns =
      subst (λ r. RecoveryTurns places dirty r given) (sym is)
      (subst (RecoveryTurns places dirty stage) (sym does) turns)
