-- What a user's task hears of a directory that was read: it stands at the user's place.
use Rattle.std.proofs.Common.{◌≡◌, ℕ, refl, ap, sym, ◌∙◌}
use Rattle.std.specs.FinMap as map
use Rattle.tree_model.specs.declared.places.Place.{Place}
use Rattle.tree_model.specs.declared.places.Place.TheVariants.{De, Ce, Temp}
use Rattle.tree_model.specs.Parts.{Part, part_of}
use Rattle.tree_model.specs.Sites.{place_of, site_of}
use Rattle.tree_model.specs.Tree.{Tree, user_of}

place-back : (place : Place) → place_of (user_of place) (site_of place) ≡ place
place-back (De user) = refl
place-back (Ce user slot) = refl
place-back (Temp user) = refl

pub found-own : (part : Part) (tree : Tree) (user : ℕ) (place : Place) → part ≡ part_of tree user
    → user_of place ≡ user → part (site_of place) ≡ map.get tree place
found-own part tree user place shown mine =
    ap (λ p. p (site_of place)) shown ∙ ap (λ u. map.get tree (place_of u (site_of place))) (sym mine)
    ∙ ap (map.get tree) (place-back place)
