-- A user's part goes on standing in a later vault that keeps the entries of the blobs which the part names.
use Rattle.std.proofs.Common.{◌≡◌, ℕ, List, [], refl, sym, subst, arith}
use Rattle.std.specs.Prelude.{Option, Some, None, IsSome}
use Rattle.tree_model.specs.declared.blobs.Blob.{Blob}
use Rattle.tree_model.specs.declared.sites.Site.{Site}
use Rattle.tree_model.specs.declared.sites.Site.TheVariants.{De, Ce, Temp}
use Rattle.tree_model.specs.Dir.{Files}
use Rattle.tree_model.specs.Held.{held_in}
use Rattle.tree_model.specs.Parts.{Part, part_of, standing}
use Rattle.tree_model.specs.Tree.{Tree}
use Rattle.journal_model.specs.Made.{key_of}
use Rattle.journal_model.specs.Users.{Record}
use Rattle.keystore_model.specs.declared.entry.Tag.{Tag}
use Rattle.user_world.specs.Meaning.{UserStands}
use Rattle.user_world.proofs.Images.{images-meaning}
use Rattle.key_directory.specs.VaultLaws.{LawOfLater}
use Rattle.tree_model.specs.Named.{named_at}
use Rattle.key_directory.specs.Vaults.{Attempts, NoChanceMatch, Vault, class_of, tag_at, NamesOwn, SureAt, IsMade}
use Rattle.tree_model.specs.Named.{PartNames, IsNamed}
use Rattle.key_directory.specs.Vaults.{OpensAt, secret_at, SealedStands, sealed, Extends, Later, KeepsEntry}
use Rattle.key_directory.proofs.Opening.{still-opens}

module _ (before after : Attempts) (extends : Extends before after) where
  -- fewer attempts match no tag by chance where more match none
  pub fewer-match : NoChanceMatch after → NoChanceMatch before
  fewer-match match = record {
    none = λ added secret has gave differ.
        match.none added secret (extends.additions added has) (extends.secrets secret gave) differ;
  }

  sure-fewer : (site : Site) → SureAt after site → SureAt before site
  sure-fewer De sure = sure
  sure-fewer (Ce slot) sure = fewer-match sure
  sure-fewer Temp sure = fewer-match sure

  made-more : (files : Files) (secret : List ℕ) → IsMade before files secret → IsMade after files secret
  made-more files secret made = record {
    added = made.added;
    has = extends.additions made.added made.has;
    under = made.under;
    discard = made.discard;
    sealed = made.sealed;
  }

-- a directory that opens is there
present : (vault : Vault) (user : ℕ) (site : Site) (found : Option Files) (secret key : List ℕ)
    → OpensAt vault user site found (Some secret) key → IsSome found
present vault user site None secret key opens = absurd opens
present vault user site (Some files) secret key opens = refl

-- the device key's directory of a part that stands is there
pub stands-present : (vault : Vault) (user : ℕ) (part : Part) (known : Record) → SealedStands vault user part known
    → IsSome (part De)
stands-present vault user part known stands = present vault user De (part De) [] _ (stands.opens De)

module _ (before after : Vault) (later : Later before after) where
  own-later : (tag : Tag) (found : Option Files)
      → ((blob : Blob) → named_at found ≡ Some blob → KeepsEntry before after blob)
      → NamesOwn before tag found → NamesOwn after tag found
  own-later tag found keeps own blob names =
      let has = own blob names in record {
        entry = has.entry;
        live = keeps blob names has.entry has.live;
        tagged = has.tagged;
        low = omega (arith, has.low, later.level);
      }

  opens-later : (user : ℕ) (site : Site) (found : Option Files) (secret : Option (List ℕ)) (key : List ℕ)
      → ((blob : Blob) → named_at found ≡ Some blob → KeepsEntry before after blob)
      → OpensAt before user site found secret key → OpensAt after user site found secret key
  opens-later user site None None key keeps opens = tt
  opens-later user site None (Some secret) key keeps opens = opens
  opens-later user site (Some files) None key keeps opens = opens
  opens-later user site (Some files) (Some secret) key keeps opens = record {
    opened = opens.opened;
    opens_to = still-opens before.entries after.entries before.level after.level later.level (held_in files) secret
        opens.opened (λ blob entry names. keeps blob names entry) opens.opens_to;
    right = λ sure. opens.right (sure-fewer _ _ (later.attempts user) site sure);
    made = λ match other.
        made-more _ _ (later.attempts user) files secret
        (opens.made (fewer-match _ _ (later.attempts user) match) other);
  }

  pub stands-later : (user : ℕ) (part : Part) (known : Record)
      → ((blob : Blob) → PartNames part blob → KeepsEntry before after blob)
      → SealedStands before user (standing part) known → SealedStands after user (standing part) known
  stands-later user part known keeps stands =
      let there = stands-present before user (standing part) known stands in
      let kept = λ (site : Site) (blob : Blob) (names : named_at (standing part site) ≡ Some blob).
      keeps blob (record { present = there; site = site; names = names }) in record {
        opens = λ site.
            subst (λ seed. OpensAt after user site (standing part site) (secret_at known site)
            (key_of seed (class_of site) user known.birth)) (sym later.seed)
            (opens-later user site (standing part site) (secret_at known site) _ (kept site) (stands.opens site));
        own = λ site. own-later (tag_at user site) (standing part site) (kept site) (stands.own site);
        apart = stands.apart;
      }

  pub user-later : (tree : Tree) (user : ℕ) (known : Option Record)
      → ((blob : Blob) → IsNamed tree blob → KeepsEntry before after blob)
      → UserStands (sealed before) tree user known → UserStands (sealed after) tree user known
  user-later tree user None keeps stands = stands
  user-later tree user (Some known) keeps stands =
      stands-later user (part_of tree user) known
      (λ blob names. keeps blob (record { user = user; there = names })) stands

-- and so does every image
pub images-later : LawOfLater
images-later before after disk kept log later keeps =
    images-meaning (sealed before) (sealed after) disk kept log
    (λ keep left user known short is. user-later before after later left user known
    (λ blob. keeps keep left blob short is))
