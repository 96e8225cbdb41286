-- A user's share of the devices, the facts that a task rests on there, and when they last.
use Rattle.std.specs.Prelude.{◌≡◌, ◌⊎◌, ℕ, Bool, List, [], ◌∷◌, Option, Some, None, is_some, IsSome, Contains}
use Rattle.std.specs.Prelude.{◌≢◌, ◌≤◌, length}
use Rattle.std.specs.FinMap as map
use Rattle.std.specs.declared.cmp.Ordering.TheVariants.{Less}
use Rattle.tree_model.specs.declared.blobs.Blob.{Blob}
use Rattle.tree_model.specs.declared.places.Class.{Class}
use Rattle.tree_model.specs.declared.places.Class.TheVariants.{Ce as ForCe}
use Rattle.tree_model.specs.declared.places.Slot.{Slot}
use Rattle.tree_model.specs.declared.sites.Site.TheVariants.{De, Ce}
use Rattle.tree_model.specs.Dir.{Files}
use Rattle.tree_model.specs.Named.{PartNames}
use Rattle.tree_model.specs.Order.{slot_cmp}
use Rattle.journal_model.specs.declared.entries.Birth.{Birth}
use Rattle.journal_model.specs.Made.{key_of, nonce_of, discardable_of}
use Rattle.journal_model.specs.Users.{Record, HasSecret, HasNewest, next_slot}
use Rattle.seal_model.specs.Sealed.{sealed_text}
use Rattle.keystore_model.specs.declared.entry.StoreEntry.{StoreEntry}
use Rattle.keystore_model.specs.declared.entry.Tag.{Tag}
use Rattle.keystore_model.specs.Store.{entry_of}
use Rattle.user_world.specs.OwnWorlds.{OwnWorld, OwnImagesStand, own_view, own_record}
use Rattle.user_world.specs.Facts.{Fact, Holds, Later}
use Rattle.key_directory.specs.Opened.{AreCurrent, WasGiven, OpensTo, FitsFiles}
use Rattle.key_directory.specs.Vaults.{Vault, NoChanceMatch, SureOf, Extends, KeepsEntry, sealed as sealed_in}

pub record Share : Type 0 where
  pub own : OwnWorld
  pub vault : Vault
  -- the user's keys in the ring
  pub keys : Class → Option (List ℕ)

pub data ShareFact : Type 0 where
  -- a fact on the user's own world
  Own : Fact → ShareFact
  -- the blob has an entry of this app id and tag at the store's level
  KeyFor : Blob → List ℕ → Tag → ShareFact
  -- the same, and a key sealed under it with a nonce: blob, app id, tag, nonce, key, and what is sealed
  SealedFor : Blob → List ℕ → Tag → List ℕ → List ℕ → List ℕ → ShareFact
  -- two lists of bytes are the same
  Same : List ℕ → List ℕ → ShareFact
  -- these bytes are the key that a user of this birth was given
  Given : List ℕ → Class → ℕ → Birth → ShareFact
  -- these bytes are the nonce and the discardable file of a credential key's directory that the user's command makes
  -- which began at this place
  Drawn : List ℕ → List ℕ → ℕ → Birth → ShareFact
  -- a command of the user gave this secret, unless it is empty
  Gave : ℕ → List ℕ → ShareFact
  -- the slot that a further secret of the user comes into
  NextSlot : Slot → ShareFact
  -- the user has exactly these slots; this slot and these others; this newest one; and so many at most
  AllSlots : List Slot → ShareFact
  Slots : Slot → List Slot → ShareFact
  Newest : Slot → ShareFact
  SlotsFew : ℕ → ShareFact
  -- this slot is the newest of the user's that are under this secret, where no tag matched by chance
  NewestUnder : ℕ → List ℕ → Slot → ShareFact
  -- the key is the one of this class that the user was given, where no tag matched by chance
  MadeKey : ℕ → Class → List ℕ → ShareFact
  -- whether the user's key of this class is in the ring
  HasKey : Class → Bool → ShareFact
  -- of the user's slots these are left to try with a secret; and this is the newest one that opens, to this key
  LeftToTry : List ℕ → List Slot → ShareFact
  Opens : List ℕ → Slot → List ℕ → ShareFact

pub record IsKeyFor (vault : Vault) (blob : Blob) (app_id : List ℕ) (tag : Tag) : Type 0 where
  pub entry : StoreEntry
  pub live : entry_of vault.entries blob ≡ Some entry
  pub bound : entry.app_id ≡ app_id
  pub tagged : entry.tag ≡ tag
  pub current : entry.level ≡ vault.level

pub record IsSealedFor (vault : Vault) (blob : Blob) (app_id : List ℕ) (tag : Tag) (nonce key sealed : List ℕ) :
    Type 0 where
  pub keyed : IsKeyFor vault blob app_id tag
  pub sealed_so : sealed ≡ sealed_text keyed.entry.key nonce key

-- slots, the newest first
abbrev pub AreNewestFirst : List Slot → Type 0
AreNewestFirst [] = Unit {0}
AreNewestFirst (slot ∷ slots) =
    ((other : Slot) → Contains slots other → slot_cmp other slot ≡ Less) × AreNewestFirst slots

-- the slot has a directory that may open with the secret
pub record MayOpen (share : Share) (secret : List ℕ) (slot : Slot) : Type 0 where
  pub files : Files
  pub there : own_view share.own (Ce slot) ≡ Some files
  pub fits : FitsFiles files secret

-- the user is there, and each of the user's slots is left to try or opens to nothing with the secret; those that are
-- left may open, and stand with the newest first
pub record AreLeftToTry (share : Share) (secret : List ℕ) (left : List Slot) : Type 0 where
  pub present : IsSome (own_view share.own De)
  pub tried : (slot : Slot) (files : Files) → own_view share.own (Ce slot) ≡ Some files
      → Contains left slot ⊎ OpensTo share.vault files secret None
  pub may : (slot : Slot) → Contains left slot → MayOpen share secret slot
  pub order : AreNewestFirst left

-- the user is there, and the slot opens with the secret to the key, while each newer one opens to nothing
pub record IsFirstOpened (share : Share) (secret : List ℕ) (slot : Slot) (key : List ℕ) : Type 0 where
  pub present : IsSome (own_view share.own De)
  pub files : Files
  pub there : own_view share.own (Ce slot) ≡ Some files
  pub opens : OpensTo share.vault files secret (Some key)
  pub newer : (other : Slot) (dir : Files) → slot_cmp slot other ≡ Less → own_view share.own (Ce other) ≡ Some dir
      → OpensTo share.vault dir secret None

-- the user is there, and a further secret comes into this slot
pub record IsNextSlot (share : Share) (slot : Slot) : Type 0 where
  pub known : Record
  pub there : own_record share.own ≡ Some known
  pub next : slot ≡ next_slot known

-- the user is there, with exactly these slots; with this slot and these others; with this newest one; and with so
-- many at most
pub record HasAllSlots (share : Share) (slots : List Slot) : Type 0 where
  pub known : Record
  pub there : own_record share.own ≡ Some known
  pub has : (slot : Slot) → Contains slots slot → IsSome (map.get known.secrets slot)
  pub all : (slot : Slot) → IsSome (map.get known.secrets slot) → Contains slots slot

pub record HasSlots (share : Share) (kept : Slot) (others : List Slot) : Type 0 where
  pub known : Record
  pub there : own_record share.own ≡ Some known
  pub has_kept : IsSome (map.get known.secrets kept)
  pub has_others : (slot : Slot) → Contains others slot → (slot ≢ kept) × IsSome (map.get known.secrets slot)
  pub all : (slot : Slot) → IsSome (map.get known.secrets slot) → (slot ≡ kept) ⊎ Contains others slot

pub record IsNewest (share : Share) (slot : Slot) : Type 0 where
  pub known : Record
  pub there : own_record share.own ≡ Some known
  pub newest : HasNewest known slot

pub record AreFew (share : Share) (most : ℕ) : Type 0 where
  pub known : Record
  pub there : own_record share.own ≡ Some known
  pub few : length (map.keys known.secrets) ≤ most

-- the slot is under the secret, and no newer one is
pub record IsNewestUnder (known : Record) (secret : List ℕ) (slot : Slot) : Type 0 where
  pub under : map.get known.secrets slot ≡ Some secret
  pub newest : (other : Slot) → slot_cmp slot other ≡ Less → map.get known.secrets other ≢ Some secret

-- the user is there, and where no tag matched by chance the slot is the newest one under the secret
pub record IsKeptUnder (share : Share) (user : ℕ) (secret : List ℕ) (slot : Slot) : Type 0 where
  pub known : Record
  pub there : own_record share.own ≡ Some known
  pub newest : NoChanceMatch (share.vault.attempts user) → IsNewestUnder known secret slot

-- the user is there, and the key of this class is the one that the user was given: a credential key where no tag
-- matched by chance
pub record IsGiven (share : Share) (user : ℕ) (class : Class) (key : List ℕ) : Type 0 where
  pub known : Record
  pub there : own_record share.own ≡ Some known
  pub given : SureOf (share.vault.attempts user) class → key ≡ key_of share.vault.seed class user known.birth

-- the user is there, and where no tag matched by chance one of the user's slots is under the secret
pub record IsUnder (share : Share) (user : ℕ) (secret : List ℕ) : Type 0 where
  pub known : Record
  pub there : own_record share.own ≡ Some known
  pub under : NoChanceMatch (share.vault.attempts user) → HasSecret known secret

abbrev pub Has : ShareFact → Share → Type 0
Has (Own fact) share = Holds fact share.own
Has (KeyFor blob app_id tag) share = IsKeyFor share.vault blob app_id tag
Has (SealedFor blob app_id tag nonce key sealed) share = IsSealedFor share.vault blob app_id tag nonce key sealed
Has (Same a b) share = a ≡ b
Has (Given key class user birth) share = key ≡ key_of share.vault.seed class user birth
Has (Drawn nonce discard user made) share = (nonce ≡ nonce_of share.vault.seed ForCe user made)
    × (discard ≡ discardable_of share.vault.seed ForCe user made)
Has (Gave user secret) share = WasGiven (share.vault.attempts user) secret
Has (NextSlot slot) share = IsNextSlot share slot
Has (AllSlots slots) share = HasAllSlots share slots
Has (Slots kept others) share = HasSlots share kept others
Has (Newest slot) share = IsNewest share slot
Has (SlotsFew most) share = AreFew share most
Has (NewestUnder user secret slot) share = IsKeptUnder share user secret slot
Has (MadeKey user class key) share = IsGiven share user class key
Has (HasKey class there) share = is_some (share.keys class) ≡ there
Has (LeftToTry secret left) share = AreLeftToTry share secret left
Has (Opens secret slot key) share = IsFirstOpened share secret slot key

abbrev pub AllHas : List ShareFact → Share → Type 0
AllHas [] share = Unit {0}
AllHas (fact ∷ facts) share = Has fact share × AllHas facts share

-- between two turns of a task that holds these blobs, the user's world stays or is settled, the level, the seed and
-- the user's keys in the ring stay, and so do the entries of the blobs and of those that the user's directories name;
-- more may have been tried
pub record LaterShare (held : List Blob) (before after : Share) : Type 0 where
  pub own : Later before.own after.own
  pub level : after.vault.level ≡ before.vault.level
  pub seed : after.vault.seed ≡ before.vault.seed
  pub attempts : (user : ℕ) → Extends (before.vault.attempts user) (after.vault.attempts user)
  pub keys : after.keys ≡ before.keys
  pub kept : (blob : Blob) → Contains held blob → KeepsEntry before.vault after.vault blob
  pub named : (blob : Blob) → PartNames (own_view before.own) blob → KeepsEntry before.vault after.vault blob

-- the blob that a fact speaks of is held
abbrev pub IsHeld : List Blob → ShareFact → Type 0
IsHeld held (KeyFor blob app_id tag) = Contains held blob
IsHeld held (SealedFor blob app_id tag nonce key sealed) = Contains held blob
IsHeld held fact = Unit {0}

abbrev pub AreHeld : List Blob → List ShareFact → Type 0
AreHeld held [] = Unit {0}
AreHeld held (fact ∷ facts) = IsHeld held fact × AreHeld held facts

-- a user's share as a turn finds it: every part that a stop can leave stands, and every entry is at the store's level
pub record IsSound (user : ℕ) (share : Share) : Type 0 where
  pub images : OwnImagesStand (sealed_in share.vault) user share.own
  pub current : AreCurrent share.vault
