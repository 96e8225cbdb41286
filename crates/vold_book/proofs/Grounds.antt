-- What a call leaves of the ground that other commands stand on, and of the worlds of users.
use Rattle.std.proofs.Common.{◌≡◌, ◌≢◌, ℕ, inl, refl, sym, subst}
use Rattle.std.specs.Prelude.{Contains}
use Rattle.tree_model.specs.declared.blobs.Blob.{Blob}
use Rattle.tree_model.specs.Named.{PartNames}
use Rattle.key_ring.specs.Ring.{key_of}
use Rattle.journal_model.specs.declared.commands.Actor.TheVariants.{Boot, User}
use Rattle.journal_model.specs.Machine.{Running as BeganCommand}
use Rattle.user_world.specs.Facts.{Later}
use Rattle.user_world.specs.OwnWorlds.{own_view}
use Rattle.user_world.specs.Timelines.{Timeline, own_of, world_of, OwnWorldsStand}
use Rattle.user_world.proofs.Product.{product}
use Rattle.user_world.proofs.Timelines.{line-images}
use Rattle.key_directory.specs.Vaults.{Vault, Attempts, Extends, sealed, KeepsEntry, Later as VaultLater}
use Rattle.key_directory.proofs.Lasting.{images-later}
use Rattle.task_turns.specs.Turns.{Rests}
use Rattle.task_turns.proofs.Lasting.{facts-last}
use Rattle.user_tasks.specs.declared.tasks.UserTask.{UserTask}
use Rattle.user_tasks.specs.Tasks.{user_of, rest_of}
use Rattle.vold_book.specs.declared.recovery.Recovery.{Recovery}
use Rattle.vold_book.specs.declared.recovery.Recovery.TheVariants.{Listing, Sweeping, Reading, Settled, Listed}
use Rattle.vold_book.specs.declared.tasks.Task.{Task}
use Rattle.vold_book.specs.declared.tasks.Task.TheVariants.{User as Using, Recovery as Recovers, Refusal, Fault}
use Rattle.vold_book.specs.Recovery.{RestsAt}
use Rattle.vold_book.specs.State.{Ground, share_of}
use Rattle.vold_book.specs.Tasks.{TaskStands}
use Rattle.vold_book.proofs.Needed.{IsShown}

pub not_boot : (user : ℕ) → Boot ≡ User user → ⊥
not_boot user e = cc

pub same_user : (a b : ℕ) → User a ≡ User b → a ≡ b
same_user a b e = cc

-- what a change of the ground leaves for commands of other users: no entry is lost that is needed, the level and their
-- keys in the ring stay, and their own worlds stay or are settled
pub record LeavesGround (needed : Blob → Type 0) (before after : Ground) (user : ℕ) : Type 0 where
  pub boot : after.boot ≡ before.boot
  pub level : after.vault.level ≡ before.vault.level
  pub seed : after.vault.seed ≡ before.vault.seed
  pub attempts : (other : ℕ) → Extends (before.vault.attempts other) (after.vault.attempts other)
  pub kept : (blob : Blob) → needed blob → KeepsEntry before.vault after.vault blob
  pub keys : (other : ℕ) → other ≢ user → key_of after.keys other ≡ key_of before.keys other
  pub others : (other : ℕ) → other ≢ user → Later (own_of other before.line) (own_of other after.line)

-- a task of another user rests there still, where what it holds is needed, and what the user's directories name
module _ (needed : Blob → Type 0) (before after : Ground) (user : ℕ) (leaves : LeavesGround needed before after user)
    (task : UserTask) (differ : user_of task ≢ user) where
  pub rests-still : (began : BeganCommand) → ((blob : Blob) → Contains (rest_of task).held blob → needed blob)
      → ((blob : Blob) → PartNames (own_view (own_of (user_of task) before.line)) blob → needed blob)
      → Rests (rest_of task) before.boot began (share_of (user_of task) before)
      → Rests (rest_of task) after.boot began (share_of (user_of task) after)
  rests-still began held named rests = record {
    of_user = rests.of_user;
    accepted = rests.accepted;
    serves = subst (λ boot. (rest_of task).serves boot began) (sym leaves.boot) rests.serves;
    facts = facts-last (rest_of task).facts (rest_of task).held _ _ (record {
      own = leaves.others (user_of task) differ;
      level = leaves.level;
      seed = leaves.seed;
      attempts = leaves.attempts;
      keys = leaves.keys (user_of task) differ;
      kept = λ blob is. leaves.kept blob (held blob is);
      named = λ blob names. leaves.kept blob (named blob names);
    }) rests.known rests.facts;
    known = rests.known;
    owned = λ blob is. let owned = rests.owned blob is in record {
      entry = owned.entry;
      live = leaves.kept blob (held blob is) owned.entry owned.live;
      tagged = owned.tagged;
    };
  }

-- a recovery rests where it did, whatever was tried
recovery-more : (on : Ground) (tried : ℕ → Attempts) (recovery : Recovery) → RestsAt on recovery
    → RestsAt (record on { vault = record on.vault { attempts = tried } }) recovery
recovery-more on tried Listing rests = rests
recovery-more on tried Sweeping rests = rests
recovery-more on tried (Reading count) rests =
    (record { known = rests.0.known; none = rests.0.none; unlisted = rests.0.unlisted }, rests.1, rests.2)
recovery-more on tried Settled rests = (record { tidy = rests.0.tidy; still = rests.0.still }, rests.1)
recovery-more on tried Listed rests = (record { tidy = rests.0.tidy; still = rests.0.still }, rests.1)

-- where more was tried, each task rests that rested
pub stands-more : (on : Ground) (tried : ℕ → Attempts) → ((user : ℕ) → Extends (on.vault.attempts user) (tried user))
    → (task : Task) (began : BeganCommand) → TaskStands on task began
    → TaskStands (record on { vault = record on.vault { attempts = tried } }) task began
stands-more on tried more (Using task) began rests = record {
  of_user = rests.of_user;
  accepted = rests.accepted;
  serves = rests.serves;
  facts = facts-last (rest_of task).facts (rest_of task).held _ _ (record {
    own = inl refl;
    level = refl;
    seed = refl;
    attempts = more;
    keys = refl;
    kept = λ blob is entry live. live;
    named = λ blob names entry live. live;
  }) rests.known rests.facts;
  known = rests.known;
  owned = rests.owned;
}
stands-more on tried more (Recovers recovery) began rests =
    (rests.0, (rests.1.0, recovery-more on tried recovery rests.1.1))
stands-more on tried more (Refusal reply) began rests = rests
stands-more on tried more (Fault device held) began rests = rests

-- the worlds of users stand where no entry is lost that a tree names which a stop can leave
pub worlds-later : (before after : Vault) (line : Timeline) → VaultLater before after
    → ((blob : Blob) → IsShown line.disk blob → KeepsEntry before after blob) → OwnWorldsStand (sealed before) line
    → OwnWorldsStand (sealed after) line
worlds-later before after line later kept stands = record {
  shows = stands.shows;
  images = (product (sealed after) (world_of line) line stands.shows).0
      (images-later before after line.disk line.kept line.log later (λ keep left blob short is named. kept blob
      (record { left = left; is = record { keep = keep; short = short; image = is }; names = named }))
      (line-images (sealed before) line stands));
}
