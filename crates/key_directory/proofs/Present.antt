-- A user with sealed directories is there exactly where the device key's directory is.
use Rattle.std.proofs.Common.{◌≡◌, ℕ, false, sym, ap, ◌∙◌}
use Rattle.std.specs.Prelude.{Option, Some, None, is_some}
use Rattle.std.specs.FinMap as map
use Rattle.tree_model.specs.declared.sites.Site.TheVariants.{De}
use Rattle.tree_model.specs.declared.places.Place.TheVariants.{De as DePlace}
use Rattle.tree_model.specs.Disk.{view}
use Rattle.tree_model.specs.Parts.{Part, standing}
use Rattle.journal_model.specs.Users.{Record, fold_changes}
use Rattle.user_world.specs.Meaning.{PartStands}
use Rattle.user_world.specs.OwnWorlds.{own_view, own_record}
use Rattle.user_world.specs.Timelines.{Timeline, own_of, OwnWorldsStand}
use Rattle.tree_model.proofs.Logic.{is_none}
use Rattle.user_world.proofs.OwnWorlds.{view-stands}
use Rattle.user_world.proofs.Timelines.{view-shown, known-shown}
use Rattle.key_directory.specs.Vaults.{Vault, sealed}
use Rattle.key_directory.proofs.Lasting.{stands-present}

there-part : (vault : Vault) (user : ℕ) (part : Part) (known : Option Record)
    → PartStands (sealed vault) user part known
    → is_some (part De) ≡ is_some known
there-part vault user part None stands = ap is_some stands
there-part vault user part (Some known) stands = stands-present vault user (standing part) known stands

-- the record of a user is there exactly where the view has the device key's directory
pub there-record : (vault : Vault) (line : Timeline) (user : ℕ) → OwnWorldsStand (sealed vault) line
    → is_some (own_record (own_of user line)) ≡ is_some (map.get (view line.disk) (DePlace user))
there-record vault line user stands =
    sym (there-part vault user (own_view (own_of user line)) (own_record (own_of user line))
    (view-stands (sealed vault) user (own_of user line) (stands.images user)))
    ∙ ap (λ part. is_some (part De)) (view-shown user _ line stands.shows)

pub absent-record : (vault : Vault) (line : Timeline) (user : ℕ) → OwnWorldsStand (sealed vault) line
    → is_some (map.get (view line.disk) (DePlace user)) ≡ false → own_record (own_of user line) ≡ None
absent-record vault line user stands absent = is_none _ (there-record vault line user stands ∙ absent)

-- and exactly where the map of the changes has the user
pub there-user : (vault : Vault) (line : Timeline) (user : ℕ) → OwnWorldsStand (sealed vault) line
    → is_some (map.get (view line.disk) (DePlace user)) ≡ is_some (map.get (fold_changes line.log) user)
there-user vault line user stands =
    sym (there-record vault line user stands) ∙ ap is_some (known-shown user _ line stands.shows)
