-- What directories name: every tree that a stop can leave names live blobs alone, and what an operation makes a user's
-- directories name in the user's own world it makes them name on the disk.
use Rattle.std.proofs.Common.{◌≡◌, ◌⊎◌, inl, inr, ℕ, not, true, false, cond, List, [], ◌∷◌, length, refl, sym, ap, ◌∙◌}
use Rattle.std.proofs.Common.{subst}
use Rattle.std.proofs.lemmas.Bool.{eqb-true}
use Rattle.std.specs.Prelude.{◌==◌, Bool, Option, Some, None, is_some, Contains}
use Rattle.std.specs.FinMap as map
use Rattle.tree_model.specs.declared.blobs.Blob.{Blob}
use Rattle.tree_model.specs.declared.files.FileName.{FileName}
use Rattle.tree_model.specs.declared.files.FileName.TheVariants.{Blob as BlobFile, BlobUpgraded, Discard, EncryptedKey}
use Rattle.tree_model.specs.declared.sites.LocalOp.{LocalOp}
use Rattle.tree_model.specs.declared.sites.Site.{Site}
use Rattle.tree_model.specs.Dir.{Files}
use Rattle.tree_model.specs.Disk.{Disk, view, filled, IsImage}
use Rattle.tree_model.specs.Held.{Held, held_in, blob_in, or_else}
use Rattle.tree_model.specs.Named.{named_at, PartNames}
use Rattle.tree_model.specs.Parts.{Part, part_of, standing, after_local}
use Rattle.tree_model.specs.Sites.{op_of}
use Rattle.tree_model.specs.Tree.{Tree, after_op}
use Rattle.journal_model.specs.Users.{Record, Users}
use Rattle.keystore_model.specs.declared.entry.StoreEntry.{StoreEntry}
use Rattle.keystore_model.proofs.Elements.{Contains-none}
use Rattle.blob_custody.specs.Custody.{IsLeft}
use Rattle.blob_custody.specs.Steps.{NamesLive, Renames}
use Rattle.blob_custody.proofs.Left.{view-left}
use Rattle.user_world.specs.Meaning.{Meaning, PartStands, StandsFor}
use Rattle.user_world.specs.OwnWorlds.{IsOwnImage, own_view}
use Rattle.user_world.specs.Worlds.{Owned, ops_of, steps_of}
use Rattle.user_world.specs.Timelines.{Timeline, own_of, world_of, OwnWorldsStand}
use Rattle.user_world.proofs.Timelines.{view-shown}
use Rattle.user_world.proofs.Worlds.{cases_owner, after-mine, after-theirs}
use Rattle.key_directory.specs.declared.shapes.DirShape.{DirShape}
use Rattle.key_directory.specs.declared.shapes.ShapeFault.{ShapeFault}
use Rattle.key_directory.specs.declared.shapes.ShapeFault.TheVariants.{Length}
use Rattle.key_directory.specs.Opens.{opens, opens_shape, bytes_at}
use Rattle.key_directory.specs.Shape.{length_fault, first_fault, tests, shape_unless, form_of, fault_if}
use Rattle.key_directory.specs.Vaults.{Vault, OpensAt, secret_at, sealed}
use Rattle.key_directory.proofs.Apart.{known-there, part-owns, names-apart}
use Rattle.task_turns.specs.Names.{Gains, IsRemoval}
use Rattle.vold_book.specs.State.{Plain, machine_of, tried_in, timeline, vault_of}
use Rattle.vold_book.specs.Whole.{Whole}

module _ (book : Plain) (whole : Whole book) where
  -- every tree that a stop can leave stands for a map of users
  pub left-stands : (left : Tree) → IsLeft book.bench.disk left
      → (users : Users) × StandsFor (sealed (vault_of (tried_in book) book.seed book.bench.store)) left users
  left-stands left is = (_, whole.images.stands is.keep left is.short is.image)

  pub names-live : NamesLive book.bench.disk book.bench.store.entries
  names-live = record {
    live = λ left is blob named.
        let stands = left-stands left is in
        ap is_some (part-owns (vault_of (tried_in book) book.seed book.bench.store) named.user
        (part_of left named.user)
        (map.get stands.0 named.user) blob (stands.1.user named.user) named.there).live;
    one_user = λ user other blob names also.
        let stands = left-stands (view book.bench.disk) (view-left book.bench.disk) in
        (names-apart (vault_of (tried_in book) book.seed book.bench.store) (view book.bench.disk) stands.0 blob
        stands.1 user other
        names also).one_user;
  }

-- what a stop can leave of the disk is, for each user, what it can leave of the user's world
pub own-image : (user : ℕ) (pending : List Owned) (tree left : Tree) → IsImage tree (ops_of pending) left
    → IsOwnImage (part_of tree user) (steps_of user pending) (part_of left user)
own-image user [] tree left is = ap (λ t. part_of t user) is
own-image user (owned ∷ rest) tree left is =
    let after = after_op tree (filled is.0 (op_of owned.user owned.step.op)) in
    let later : IsOwnImage (part_of after user) (steps_of user rest) (part_of left user) =
    own-image user rest after left is.1 in
    cases_owner owned.user user
    (λ mine. IsOwnImage (part_of tree user) (cond mine (owned.step ∷ steps_of user rest) (steps_of user rest))
    (part_of left user))
    (λ same. (
      is.0,
      subst (λ part. IsOwnImage part (steps_of user rest) (part_of left user))
          (after-mine tree is.0 owned.user user owned.step.op same) later,
    ))
    (λ differ. subst (λ part. IsOwnImage part (steps_of user rest) (part_of left user))
    (after-theirs tree is.0 owned.user user owned.step.op differ) later)

-- in the view the user's directories name all that they named but the drops, which they named and no longer name
pub record Loses (disk : Disk) (user : ℕ) (op : LocalOp) (drops : List Blob) : Type 0 where
  pub lost : (blob : Blob) → PartNames (part_of (view disk) user) blob
      → PartNames (after_local (part_of (view disk) user) op) blob ⊎ Contains drops blob
  pub dropped : (blob : Blob) → Contains drops blob → PartNames (part_of (view disk) user) blob
  pub unnamed : (blob : Blob) → Contains drops blob → ¬ (PartNames (after_local (part_of (view disk) user) op) blob)

module _ (meaning : Meaning) (line : Timeline) (user : ℕ) (stands : OwnWorldsStand meaning line) where
  image-own : (left : Tree) → IsImage line.disk.stable line.disk.pending left
      → IsOwnImage (own_of user line).stable (own_of user line).pending (part_of left user)
  image-own left is = own-image user (world_of line).pending line.disk.stable left
      (subst (λ ops. IsImage line.disk.stable ops left) (ap (λ d. d.pending) stands.shows.is_disk) is)

  -- an operation that gains these blobs in the user's world gains them on the disk, and drops those that it loses
  -- there
  pub renames-gained : (op : LocalOp) (gains drops : List Blob) → Gains (own_of user line) op gains
      → Loses line.disk user op drops
      → Renames line.disk user op gains drops
  renames-gained op gains drops has loses =
      let same = view-shown user (world_of line) line stands.shows in record {
        gained = λ left fill blob is names. has.gained (part_of left user) fill blob (image-own left is) names;
        named = λ blob gained. subst (λ part. PartNames (after_local part op) blob) same (has.named blob gained);
        lost = loses.lost;
        dropped = loses.dropped;
        unnamed = loses.unnamed;
      }

  -- one that removes no directory loses none
  pub loses-none : (op : LocalOp) (gains : List Blob) → Gains (own_of user line) op gains → ¬ (IsRemoval op)
      → Loses line.disk user op []
  loses-none op gains has keeps =
      let same = view-shown user (world_of line) line stands.shows in record {
        lost = λ blob names.
            elim (has.kept blob (subst (λ part. PartNames part blob) (sym same) names))
            as (λ _. PartNames (after_local (part_of (view line.disk) user) op) blob ⊎ Contains [] blob) [
              | inl still ↦ inl (subst (λ part. PartNames (after_local part op) blob) same still)
              | inr removal ↦ absurd (keeps removal)
            ];
        dropped = λ blob none. absurd (Contains-none blob none);
        unnamed = λ blob none. absurd (Contains-none blob none);
      }

-- in the view the user's directories name what they named in the user's own world
pub keeps-all : (book : Plain) → Whole book → (user : ℕ) (op : LocalOp)
    → ((blob : Blob) → PartNames (own_view (own_of user (timeline book.bench.disk (machine_of book)))) blob
    → PartNames (after_local (own_view (own_of user (timeline book.bench.disk (machine_of book)))) op) blob)
    → Loses book.bench.disk user op []
keeps-all book whole user op keeps =
    let same = view-shown user _ (timeline book.bench.disk (machine_of book)) whole.worlds.shows in record {
      lost = λ blob names. inl (subst (λ part. PartNames (after_local part op) blob) same
          (keeps blob (subst (λ part. PartNames part blob) (sym same) names)));
      dropped = λ blob none. absurd (Contains-none blob none);
      unnamed = λ blob none. absurd (Contains-none blob none);
    }

-- a directory that opens has passed the tests of its shape, so a blob that it names has 32 bytes
abbrev AllPass : List (Option ShapeFault) → Type 0
AllPass [] = Unit {0}
AllPass (test ∷ rest) = (test ≡ None) × AllPass rest

all-pass : (all : List (Option ShapeFault)) → first_fault all ≡ None → AllPass all
all-pass [] none = tt
all-pass (None ∷ rest) none = (refl, all-pass rest none)
all-pass (Some fault ∷ rest) none = cc

unfaulted : (right : Bool) (fault : ShapeFault) → fault_if (not right) fault ≡ None → right ≡ true
unfaulted true fault none = refl
unfaulted false fault none = cc

passed-length : (file : FileName) (found : Option Blob) → length_fault file 32 found ≡ None
    → (blob : Blob) → found ≡ Some blob → length blob ≡ 32
passed-length file found none blob is = eqb-true (length blob) 32
    (unfaulted (length blob == 32) (Length file (length blob)) (sym (ap (length_fault file 32) is) ∙ none))

passed-blob : (found upgraded : Option Blob) → length_fault BlobFile 32 found ≡ None
    → length_fault BlobUpgraded 32 upgraded ≡ None
    → (blob : Blob) → or_else upgraded found ≡ Some blob → length blob ≡ 32
passed-blob found None first second blob is = passed-length BlobFile found first blob is
passed-blob found (Some other) first second blob is = passed-length BlobUpgraded (Some other) second blob is

tested-long : (held : Held) (blob : Blob) → first_fault (tests held) ≡ None → blob_in held ≡ Some blob
    → length blob ≡ 32
tested-long held blob none is =
    let all = all-pass (tests held) none in
    passed-blob (held BlobFile) (held BlobUpgraded) all.1.1.1.1.1.0 all.1.1.1.1.1.1.0 blob is

opens-tested : (entries : List StoreEntry) (level : ℕ) (discard bytes : List ℕ) (fault : Option ShapeFault)
    (shape : DirShape) (secret key : List ℕ)
    → opens_shape entries level discard bytes (shape_unless fault shape) secret ≡ Some key → fault ≡ None
opens-tested entries level discard bytes None shape secret key opened = refl
opens-tested entries level discard bytes (Some fault) shape secret key opened = cc

opened-long : (entries : List StoreEntry) (level : ℕ) (held : Held) (secret key : List ℕ) (blob : Blob)
    → opens entries level held secret ≡ Some key → blob_in held ≡ Some blob → length blob ≡ 32
opened-long entries level held secret key blob opened is = tested-long held blob
    (opens-tested entries level (bytes_at (held Discard)) (bytes_at (held EncryptedKey)) (first_fault (tests held))
    (form_of held) secret key opened) is

module _ (vault : Vault) (user : ℕ) where
  named-at-long : (site : Site) (found : Option Files) (secret : Option (List ℕ)) (key : List ℕ) (blob : Blob)
      → OpensAt vault user site found secret key → named_at found ≡ Some blob → length blob ≡ 32
  named-at-long site None secret key blob opens is = cc
  named-at-long site (Some files) None key blob opens is = absurd opens
  named-at-long site (Some files) (Some secret) key blob opens is =
      opened-long vault.entries vault.level (held_in files) secret opens.opened blob opens.opens_to is

  -- a blob that a standing directory names has 32 bytes
  pub named-long : (part : Part) (known : Option Record) (blob : Blob)
      → PartStands (sealed vault) user part known → PartNames part blob → length blob ≡ 32
  named-long part known blob stands names =
      let there = known-there vault user part known stands names.present in
      named-at-long names.site (standing part names.site) (secret_at there.0 names.site) _ blob
      (there.1.opens names.site) names.names
