-- What a create or a protect stores is made of the stream of its command.
use Rattle.std.specs.Prelude.{◌≡◌, ℕ, ◌+◌, ◌*◌, List, []}
use Rattle.tree_model.specs.declared.places.Class.{Class}
use Rattle.tree_model.specs.declared.places.Class.TheVariants.{De as ForDe, Ce as ForCe}
use Rattle.tree_model.specs.declared.places.Place.{Place}
use Rattle.tree_model.specs.declared.places.Place.TheVariants.{De as DePlace, Ce as CePlace}
use Rattle.tree_model.specs.declared.places.Slot.{Slot}
use Rattle.tree_model.specs.declared.places.Slot.TheVariants.{Current}
use Rattle.journal_model.specs.declared.entries.Birth.{Birth}
use Rattle.journal_model.specs.Made.{stream_bytes, stream_number, key_place, nonce_place, discardable_place}
use Rattle.store_task.specs.declared.turns.StoreSpec.{StoreSpec}
use Rattle.store_task.specs.declared.stages.Stage.TheVariants.{First}
use Rattle.store_task.specs.Task.{Task}
use Rattle.user_tasks.specs.declared.creates.Stage.TheVariants.{Clearing}
use Rattle.user_tasks.specs.declared.protects.ProtectStage.TheVariants.{Opening as IsOpening}
use Rattle.user_tasks.specs.Create.{Creating}
use Rattle.user_tasks.specs.Protect.{Protecting}

-- the place of a new user's key of this class
abbrev pub target_of : ℕ → Class → Place
target_of user ForCe = CePlace user Current
target_of user ForDe = DePlace user

-- what is stored of a new user's key, under no secret: each the words of the stream that are its own
pub record IsMadeSpec (user : ℕ) (birth : Birth) (class : Class) (boot_seed : List ℕ) (spec : StoreSpec) :
    Type 0 where
  pub target : spec.target ≡ target_of user class
  pub tag : spec.tag ≡ record { user = user; class = class }
  pub key : spec.key ≡ stream_bytes boot_seed (stream_number user birth.index) (key_place class) 16
  pub secret : spec.secret ≡ []
  pub nonce : spec.nonce ≡ stream_bytes boot_seed (stream_number user birth.index) (nonce_place class) 3
  pub discard : spec.discard ≡ stream_bytes boot_seed (stream_number user birth.index) (discardable_place class) 4096

-- a store task of a new user's key that has not begun, with the number of its job
pub record IsMade (user : ℕ) (birth : Birth) (class : Class) (boot_seed : List ℕ) (job : ℕ) (task : Task) :
    Type 0 where
  pub made : IsMadeSpec user birth class boot_seed task.spec
  pub numbered : task.job ≡ job
  pub first : task.stage ≡ First

-- a create as it begins: the jobs of a command have numbers that no other command's have
pub record IsFirst (user : ℕ) (birth : Birth) (number : ℕ) (boot_seed : List ℕ) (create : Creating) :
    Type 0 where
  pub of_user : create.user ≡ user
  pub born : create.birth ≡ birth
  pub ce : IsMade user birth ForCe boot_seed (65536 * number) create.ce
  pub de : IsMade user birth ForDe boot_seed (65536 * number + 1) create.de
  pub stage : create.stage ≡ Clearing

-- what a protect stores in the slot under the fresh secret, but for the key: the words of its stream that are a
-- credential key's
pub record IsFurtherSpec (user : ℕ) (made : Birth) (slot : Slot) (fresh boot_seed : List ℕ) (spec : StoreSpec) :
    Type 0 where
  pub target : spec.target ≡ CePlace user slot
  pub tag : spec.tag ≡ record { user = user; class = ForCe }
  pub secret : spec.secret ≡ fresh
  pub nonce : spec.nonce ≡ stream_bytes boot_seed (stream_number user made.index) (nonce_place ForCe) 3
  pub discard : spec.discard ≡ stream_bytes boot_seed (stream_number user made.index) (discardable_place ForCe) 4096

-- a protect as it begins
pub record IsFirstProtect (user : ℕ) (made : Birth) (number : ℕ) (boot_seed : List ℕ) (fresh : List ℕ) (next : Slot)
    (protect : Protecting) : Type 0 where
  pub made_by : protect.made ≡ made
  pub spec : IsFurtherSpec user made next fresh boot_seed protect.store.spec
  pub numbered : protect.store.job ≡ 65536 * number + 1
  pub first : protect.store.stage ≡ First
  pub stage : protect.stage ≡ IsOpening
