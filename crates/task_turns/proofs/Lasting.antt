-- The facts that a task rests on last until its next turn, as long as the entries of the blobs that it holds stay.
use Rattle.std.proofs.Common.{◌≡◌, ℕ, List, [], ◌∷◌, sym, ap, ◌∙◌, subst}
use Rattle.std.proofs.Common.{◌⊎◌, inl, inr}
use Rattle.std.specs.Prelude.{is_some, IsSome, Contains, Option, Some, None}
use Rattle.tree_model.specs.declared.blobs.Blob.{Blob}
use Rattle.tree_model.specs.declared.places.Class.{Class}
use Rattle.tree_model.specs.declared.places.Class.TheVariants.{De as ForDe, Ce as ForCe}
use Rattle.tree_model.specs.declared.places.Slot.{Slot}
use Rattle.tree_model.specs.declared.sites.Site.{Site}
use Rattle.tree_model.specs.declared.sites.Site.TheVariants.{De, Ce}
use Rattle.tree_model.specs.Dir.{Files}
use Rattle.tree_model.specs.Named.{named_at}
use Rattle.tree_model.specs.Parts.{Part}
use Rattle.journal_model.specs.Made.{key_of, nonce_of, discardable_of}
use Rattle.journal_model.specs.Users.{Record}
use Rattle.keystore_model.specs.declared.entry.Tag.{Tag}
use Rattle.user_world.specs.OwnWorlds.{own_view, own_record}
use Rattle.user_world.specs.Facts.{Knows}
use Rattle.user_world.proofs.Facts.{later-facts}
use Rattle.key_directory.specs.Opened.{OpensTo}
use Rattle.key_directory.specs.Vaults.{SureOf}
use Rattle.key_directory.proofs.Lasting.{fewer-match}
use Rattle.key_directory.proofs.Opened.{kept-opening}
use Rattle.task_turns.specs.Shares.{Share, ShareFact, Own, KeyFor, SealedFor, Same, Given, Drawn, Gave, NextSlot}
use Rattle.task_turns.specs.Shares.{AllSlots, Slots, Newest, SlotsFew, NewestUnder, MadeKey, HasKey, LeftToTry}
use Rattle.task_turns.specs.Shares.{Opens}
use Rattle.task_turns.specs.Shares.{IsKeyFor, Has, AllHas, LaterShare, IsHeld, AreHeld, AreLeftToTry, IsFirstOpened}

module _ (held : List Blob) (before after : Share) (later : LaterShare held before after) where
  abbrev key-lasts : (blob : Blob) (app_id : List ℕ) (tag : Tag) → Contains held blob
      → IsKeyFor before.vault blob app_id tag → IsKeyFor after.vault blob app_id tag
  key-lasts blob app_id tag is has = record {
    entry = has.entry;
    live = later.kept blob is has.entry has.live;
    bound = has.bound;
    tagged = has.tagged;
    current = has.current ∙ sym later.level;
  }

  view-lasts : own_view after.own ≡ own_view before.own
  view-lasts = elim later.own [ inl same ↦ ap own_view same | inr settles ↦ ap own_view settles ]

  seen-before : (site : Site) (found : Option Files) → own_view after.own site ≡ found
      → own_view before.own site ≡ found
  seen-before site found is = sym (ap (λ (part : Part). part site) view-lasts) ∙ is

  seen-after : (site : Site) (found : Option Files) → own_view before.own site ≡ found
      → own_view after.own site ≡ found
  seen-after site found is = ap (λ (part : Part). part site) view-lasts ∙ is

  -- a directory of the user's opens to what it opened to
  opens-lasts : (present : IsSome (own_view before.own De)) (slot : Slot) (files : Files) (secret : List ℕ)
      (key : Option (List ℕ)) → own_view before.own (Ce slot) ≡ Some files → OpensTo before.vault files secret key
      → OpensTo after.vault files secret key
  opens-lasts present slot files secret key there =
      kept-opening before.vault after.vault files secret key later.level
      (λ blob names. later.named blob
      (record { present = present; site = Ce slot; names = ap named_at there ∙ names }))

  there-lasts : IsSome (own_view before.own De) → IsSome (own_view after.own De)
  there-lasts present = subst (λ (part : Part). IsSome (part De)) (sym view-lasts) present

  left-to-try : (secret : List ℕ) (left : List Slot) → AreLeftToTry before secret left
      → AreLeftToTry after secret left
  left-to-try secret left has = record {
    present = there-lasts has.present;
    tried = λ slot files there.
        let seen = seen-before (Ce slot) (Some files) there in
        elim (has.tried slot files seen) as (λ _. Contains left slot ⊎ OpensTo after.vault files secret None) [
          | inl among ↦ inl among
          | inr shut ↦ inr (opens-lasts has.present slot files secret None seen shut)
        ];
    may = λ slot among.
        let may = has.may slot among in record {
          files = may.files;
          there = seen-after (Ce slot) (Some may.files) may.there;
          fits = may.fits;
        };
    order = has.order;
  }

  first-opened : (secret : List ℕ) (slot : Slot) (key : List ℕ) → IsFirstOpened before secret slot key
      → IsFirstOpened after secret slot key
  first-opened secret slot key has = record {
    present = there-lasts has.present;
    files = has.files;
    there = seen-after (Ce slot) (Some has.files) has.there;
    opens = opens-lasts has.present slot has.files secret (Some key) has.there has.opens;
    newer = λ other dir newer there.
        let seen = seen-before (Ce other) (Some dir) there in
        opens-lasts has.present other dir secret None seen (has.newer other dir newer seen);
  }

  known-lasts : (known : Record) → own_record before.own ≡ Some known → own_record after.own ≡ Some known
  known-lasts known there = (later-facts (Knows (Some known) ∷ []) before.own after.own later.own (there, tt)).0

  fact-lasts : (fact : ShareFact) → IsHeld held fact → Has fact before → Has fact after
  fact-lasts (Own fact) is has = (later-facts (fact ∷ []) before.own after.own later.own (has, tt)).0
  fact-lasts (KeyFor blob app_id tag) is has = key-lasts blob app_id tag is has
  fact-lasts (SealedFor blob app_id tag nonce key sealed) is has = record {
    keyed = key-lasts blob app_id tag is has.keyed;
    sealed_so = has.sealed_so;
  }
  fact-lasts (Same a b) is has = has
  fact-lasts (Given key class user birth) is has =
      has ∙ sym (ap (λ seed. key_of seed class user birth) later.seed)
  fact-lasts (Drawn nonce discard user made) is has = (
    has.0 ∙ sym (ap (λ seed. nonce_of seed ForCe user made) later.seed),
    has.1 ∙ sym (ap (λ seed. discardable_of seed ForCe user made) later.seed),
  )
  fact-lasts (Gave user secret) is has = λ some. (later.attempts user).secrets secret (has some)
  fact-lasts (NextSlot slot) is has =
      record { known = has.known; there = known-lasts has.known has.there; next = has.next }
  fact-lasts (AllSlots slots) is has =
      record { known = has.known; there = known-lasts has.known has.there; has = has.has; all = has.all }
  fact-lasts (Slots kept others) is has = record {
    known = has.known;
    there = known-lasts has.known has.there;
    has_kept = has.has_kept;
    has_others = has.has_others;
    all = has.all;
  }
  fact-lasts (Newest slot) is has =
      record { known = has.known; there = known-lasts has.known has.there; newest = has.newest }
  fact-lasts (SlotsFew most) is has =
      record { known = has.known; there = known-lasts has.known has.there; few = has.few }
  fact-lasts (NewestUnder user secret slot) is has = record {
    known = has.known;
    there = known-lasts has.known has.there;
    newest = λ sure. has.newest (fewer-match _ _ (later.attempts user) sure);
  }
  fact-lasts (MadeKey user class key) is has = record {
    known = has.known;
    there = known-lasts has.known has.there;
    given = λ sure. has.given (sure-before class sure)
        ∙ sym (ap (λ seed. key_of seed class user has.known.birth) later.seed);
  }
    where
      sure-before : (class : Class) → SureOf (after.vault.attempts user) class
          → SureOf (before.vault.attempts user) class
      sure-before ForDe sure = tt
      sure-before ForCe sure = fewer-match _ _ (later.attempts user) sure
  fact-lasts (HasKey class there) is has = subst (λ keys. is_some (keys class) ≡ there) (sym later.keys) has
  fact-lasts (LeftToTry secret left) is has = left-to-try secret left has
  fact-lasts (Opens secret slot key) is has = first-opened secret slot key has

pub facts-last : (facts : List ShareFact) (held : List Blob) (before after : Share) → LaterShare held before after
    → AreHeld held facts → AllHas facts before → AllHas facts after
facts-last [] held before after later are has = tt
facts-last (fact ∷ facts) held before after later are has = (
  fact-lasts held before after later fact are.0 has.0,
  facts-last facts held before after later are.1 has.1,
)
