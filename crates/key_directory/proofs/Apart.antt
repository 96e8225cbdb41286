-- No two standing directories name one blob, since an entry's tag tells its user.
use Rattle.std.proofs.Common.{◌≡◌, ℕ, sym, ap, ◌∙◌, subst}
use Rattle.std.specs.Prelude.{Option, Some, None, IsSome}
use Rattle.std.specs.FinMap as map
use Rattle.tree_model.specs.declared.blobs.Blob.{Blob}
use Rattle.tree_model.specs.declared.sites.Site.TheVariants.{De}
use Rattle.tree_model.specs.Parts.{Part, part_of, standing}
use Rattle.tree_model.specs.Tree.{Tree}
use Rattle.journal_model.specs.Users.{Record, Users}
use Rattle.keystore_model.specs.declared.entry.StoreEntry.{StoreEntry}
use Rattle.keystore_model.specs.declared.entry.Tag.{Tag}
use Rattle.user_world.specs.Meaning.{PartStands, StandsFor}
use Rattle.tree_model.specs.Named.{named_at, PartNames}
use Rattle.key_directory.specs.Vaults.{Vault, HasEntry, tag_at, SealedStands, sealed}
use Rattle.key_directory.specs.VaultLaws.{AreOne}

absent : {A : Type 0} (found : Option A) → found ≡ None → IsSome found → ⊥
absent None is there = cc
absent (Some a) is there = cc

-- the user is known whose part stands and has a device key's directory
pub known-there : (vault : Vault) (user : ℕ) (part : Part) (known : Option Record)
    → PartStands (sealed vault) user part known → IsSome (part De)
    → (known : Record) × SealedStands vault user (standing part) known
known-there vault user part None stands there = absurd (absent (part De) stands there)
known-there vault user part (Some known) stands there = (known, stands)

-- what a user's standing directories name has an entry with the user's tag
pub part-owns : (vault : Vault) (user : ℕ) (part : Part) (known : Option Record) (blob : Blob)
    → PartStands (sealed vault) user part known → (names : PartNames part blob)
    → HasEntry vault (tag_at user names.site) blob
part-owns vault user part known blob stands names =
    (known-there vault user part known stands names.present).1.own names.site blob names.names

one-user : (vault : Vault) (blob : Blob) (tag other : Tag) → HasEntry vault tag blob → HasEntry vault other blob
    → tag.user ≡ other.user
one-user vault blob tag other has also =
    sym (ap (λ (t : Tag). t.user) has.tagged)
    ∙ ap (λ (entry : StoreEntry). entry.tag.user) (one-entry _ has.entry also.entry has.live also.live)
    ∙ ap (λ (t : Tag). t.user) also.tagged
  where
    one-entry : (found : Option StoreEntry) (one two : StoreEntry) → found ≡ Some one → found ≡ Some two → one ≡ two
    one-entry found one two is also = cc

-- two standing directories that name one blob are one
pub names-apart : (vault : Vault) (tree : Tree) (users : Users) (blob : Blob) → StandsFor (sealed vault) tree users
    → (user other : ℕ) (names : PartNames (part_of tree user) blob) (also : PartNames (part_of tree other) blob)
    → AreOne user other names.site also.site
names-apart vault tree users blob stands user other names also =
    let same : user ≡ other =
    one-user vault blob _ _
    (part-owns vault user (part_of tree user) (map.get users user) blob (stands.user user) names)
    (part-owns vault other (part_of tree other) (map.get users other) blob (stands.user other) also) in record {
      one_user = same;
      one_site =
          (known-there vault user (part_of tree user) (map.get users user) (stands.user user) names.present).1.apart
          names.site also.site blob names.names
          (subst (λ u. named_at (standing (part_of tree u) also.site) ≡ Some blob) (sym same) also.names);
    }
