-- What of the known places is in the way of a command or left half made.
use Rattle.std.specs.Prelude.{◌≡◌, ◌≢◌, ℕ, Option, Some, None, IsSome}
use Rattle.std.specs.declared.cmp.Ordering.TheVariants.{Less}
use Rattle.std.specs.FinMap as map
use Rattle.tree_model.specs.declared.places.Place.{Place}
use Rattle.tree_model.specs.declared.places.Place.TheVariants.{De, Ce, Temp}
use Rattle.tree_model.specs.declared.sites.Site.{Site}
use Rattle.tree_model.specs.declared.sites.Site.TheVariants.{Temp as TempSite}
use Rattle.tree_model.specs.Order.{place_cmp}
use Rattle.tree_model.specs.Tree.{Tree}
use Rattle.tree_model.specs.Sites.{place_of}
use Rattle.step_core.specs.Table.{NamedPlaces}
use Rattle.bench.specs.Known.{Knows}
use Rattle.user_tasks.specs.Looks.{IsInTheWay as IsSiteInTheWay}

-- no place that is there is such a one, or none below this one
abbrev pub NoneLeft : NamedPlaces → (Place → Type 0) → Type 0
NoneLeft places Left = (place : Place) → IsSome (map.get places place) → ¬ (Left place)

abbrev pub NoneBelow : NamedPlaces → (Place → Type 0) → Place → Type 0
NoneBelow places Kind place =
    (other : Place) → IsSome (map.get places other) → place_cmp other place ≡ Less → ¬ (Kind other)

-- whose places a create clears: the temporary one and those of credential keys
abbrev pub IsInTheWay : ℕ → Place → Type 0
IsInTheWay user (De other) = ⊥
IsInTheWay user (Ce other slot) = other ≡ user
IsInTheWay user (Temp other) = other ≡ user

-- one of the user's credential keys
abbrev pub IsSlotOf : ℕ → Place → Type 0
IsSlotOf user (Ce other slot) = other ≡ user
IsSlotOf user place = ⊥

-- the temporary place is cleared before those of credential keys, and these are in order
abbrev pub IsNextInTheWay : NamedPlaces → ℕ → Place → Type 0
IsNextInTheWay places user (De other) = ⊥
IsNextInTheWay places user (Ce other slot) =
    (map.get places (Temp user) ≡ None) × NoneBelow places (IsSlotOf user) (Ce other slot)
IsNextInTheWay places user (Temp other) = Unit {0}

-- the first place that is there and in the user's way, and none exactly where there is none
abbrev pub IsFirstInTheWay : NamedPlaces → ℕ → Option Place → Type 0
IsFirstInTheWay places user None = (place : Place) → IsInTheWay user place → map.get places place ≡ None
IsFirstInTheWay places user (Some place) =
    IsInTheWay user place × IsSome (map.get places place) × IsNextInTheWay places user place

-- the same, by the user's sites: the temporary one comes first
abbrev pub IsNextSite : NamedPlaces → ℕ → Option Site → Type 0
IsNextSite places user None = (site : Site) → IsSiteInTheWay site → map.get places (place_of user site) ≡ None
IsNextSite places user (Some site) = IsSiteInTheWay site × IsSome (map.get places (place_of user site))
    × (site ≢ TempSite → map.get places (Temp user) ≡ None)

abbrev pub IsTemporary : Place → Type 0
IsTemporary (Temp user) = Unit {0}
IsTemporary place = ⊥

-- a credential key's directory whose user isn't there
abbrev pub IsDebris : NamedPlaces → Place → Type 0
IsDebris places (Ce user slot) = map.get places (De user) ≡ None
IsDebris places place = ⊥

-- a place that a recovery removes
abbrev pub IsLeft : NamedPlaces → Place → Type 0
IsLeft places (De user) = ⊥
IsLeft places (Ce user slot) = map.get places (De user) ≡ None
IsLeft places (Temp user) = Unit {0}

-- the temporary places are removed before those of credential keys, and each are in order
abbrev pub IsNextLeft : NamedPlaces → Place → Type 0
IsNextLeft places (De user) = ⊥
IsNextLeft places (Ce user slot) = NoneLeft places IsTemporary × NoneBelow places (IsDebris places) (Ce user slot)
IsNextLeft places (Temp user) = NoneBelow places IsTemporary (Temp user)

-- the first place that is there and has to be removed, and none exactly where there is none
abbrev pub IsFirstLeft : NamedPlaces → Option Place → Type 0
IsFirstLeft places None = NoneLeft places (IsLeft places)
IsFirstLeft places (Some place) = IsLeft places place × IsSome (map.get places place) × IsNextLeft places place

-- what each place names is known of the tree, and nothing in it is half made
pub record IsTidy (places : NamedPlaces) (tree : Tree) : Type 0 where
  pub known : Knows places tree
  pub none : NoneLeft places (IsLeft places)
