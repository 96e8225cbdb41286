-- The blobs that the standing directories of a tree name.
use Rattle.std.specs.Prelude.{◌≡◌, ℕ, Option, Some, None, IsSome}
use Rattle.tree_model.specs.declared.blobs.Blob.{Blob}
use Rattle.tree_model.specs.declared.sites.Site.{Site}
use Rattle.tree_model.specs.declared.sites.Site.TheVariants.{De}
use Rattle.tree_model.specs.Dir.{Files}
use Rattle.tree_model.specs.Held.{held_in, blob_in}
use Rattle.tree_model.specs.Parts.{Part, part_of, standing}
use Rattle.tree_model.specs.Tree.{Tree, if_there}

-- the blob that a directory names, where there is one
abbrev pub named_at : Option Files → Option Blob
named_at found = if_there found None (λ files. blob_in (held_in files))

-- a standing directory of the user names the blob
pub record PartNames (part : Part) (blob : Blob) : Type 0 where
  pub present : IsSome (part De)
  pub site : Site
  pub names : named_at (standing part site) ≡ Some blob

-- a standing directory of the tree does
pub record IsNamed (tree : Tree) (blob : Blob) : Type 0 where
  pub user : ℕ
  pub there : PartNames (part_of tree user) blob
