-- What an operation on a user's places does to the blobs that the user's standing directories name, whatever a stop
-- leaves of what is pending.
use Rattle.std.specs.Prelude.{◌≡◌, ◌⊎◌, List, length, Option, None, IfSome, Contains}
use Rattle.tree_model.specs.declared.blobs.Blob.{Blob}
use Rattle.tree_model.specs.declared.sites.Site.TheVariants.{Temp}
use Rattle.tree_model.specs.declared.sites.LocalOp.{LocalOp}
use Rattle.tree_model.specs.declared.sites.LocalOp.TheVariants.{Write, RenameFile, RenameDir, RemoveFile}
use Rattle.tree_model.specs.declared.sites.LocalOp.TheVariants.{RemoveDir}
use Rattle.tree_model.specs.declared.ops.Fill.{Fill}
use Rattle.tree_model.specs.Named.{named_at, PartNames}
use Rattle.tree_model.specs.Parts.{Part, after_local, filled_local}
use Rattle.user_world.specs.OwnWorlds.{OwnWorld, own_view, IsOwnImage}

-- in whatever part a stop can leave, the user's directories name no more after the operation than before and the gains
abbrev pub NamesNoMore : OwnWorld → LocalOp → List Blob → Type 0
NamesNoMore own op gains = (left : Part) (fill : Fill) (blob : Blob) → IsOwnImage own.stable own.pending left
    → PartNames (after_local left (filled_local fill op)) blob → PartNames left blob ⊎ Contains gains blob

-- the operation removes a directory
abbrev pub IsRemoval : LocalOp → Type 0
IsRemoval (RemoveDir site) = Unit {0}
IsRemoval op = ⊥

-- the operation makes the user's directories name the gains, and they go on naming what they named unless it removes
-- one
pub record Gains (own : OwnWorld) (op : LocalOp) (gains : List Blob) : Type 0 where
  pub gained : NamesNoMore own op gains
  pub named : (blob : Blob) → Contains gains blob → PartNames (after_local (own_view own) op) blob
  pub kept : (blob : Blob) → PartNames (own_view own) blob
      → PartNames (after_local (own_view own) op) blob ⊎ IsRemoval op

-- the blob is the one that a temporary directory names which the operation renames; files are written in that
-- directory alone
abbrev pub Brings : Part → LocalOp → Option Blob → Type 0
Brings view (RenameDir Temp to) names = names ≡ named_at (view Temp)
Brings view (Write Temp file bytes) names = names ≡ None
Brings view (Write site file bytes) names = ⊥
Brings view (RenameFile site from to) names = ⊥
Brings view (RemoveFile site file) names = ⊥
Brings view op names = names ≡ None

-- and where there is one, it has 32 bytes
pub record BringsBlob (view : Part) (op : LocalOp) (names : Option Blob) : Type 0 where
  pub brings : Brings view op names
  pub long : IfSome names (λ blob. length blob ≡ 32)
