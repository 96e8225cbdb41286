-- What a running command rests on: facts on its user's world, and what may happen to that world between two turns.
use Rattle.std.specs.Prelude.{◌≡◌, ◌⊎◌, List, [], ◌∷◌, Option, None, IsSome, Contains}
use Rattle.tree_model.specs.declared.sites.Site.{Site}
use Rattle.tree_model.specs.Dir.{Files}
use Rattle.tree_model.specs.Parts.{Part}
use Rattle.journal_model.specs.Users.{Record}
use Rattle.user_world.specs.declared.changes.LocalChange.{LocalChange}
use Rattle.user_world.specs.OwnWorlds.{OwnWorld, own_view, own_log, own_record, settled, notes, IsOwnImage}

-- between two turns of a user, the user's world stays or is settled
abbrev pub Later : OwnWorld → OwnWorld → Type 0
Later before after = (after ≡ before) ⊎ (after ≡ settled before)

-- directories stand at exactly these sites
pub record HasSites (view : Part) (sites : List Site) : Type 0 where
  pub there : (site : Site) → Contains sites site → IsSome (view site)
  pub all : (site : Site) → IsSome (view site) → Contains sites site

pub data Fact : Type 0 where
  -- what the changes make of the user; a change among them; and that all are durable
  Knows : Option Record → Fact
  Logged : LocalChange → Fact
  Durable : Fact
  -- nothing is pending
  Still : Fact
  -- what calls see of the user's part, and what stands in every part that a stop can leave; the same of one site
  Here : Part → Fact
  Always : Part → Fact
  HereAt : Site → Option Files → Fact
  AlwaysAt : Site → Option Files → Fact
  -- directories stand at exactly these of the user's sites; and at none in any part that a stop can leave
  Sites : List Site → Fact
  Vacant : Fact

abbrev pub Holds : Fact → OwnWorld → Type 0
Holds (Knows known) own = own_record own ≡ known
Holds (Logged change) own = Contains (own_log own) change
Holds Durable own = notes own.pending ≡ []
Holds Still own = own.pending ≡ []
Holds (Here part) own = own_view own ≡ part
Holds (Always part) own = (left : Part) → IsOwnImage own.stable own.pending left → left ≡ part
Holds (HereAt site held) own = own_view own site ≡ held
Holds (AlwaysAt site held) own = (left : Part) → IsOwnImage own.stable own.pending left → left site ≡ held
Holds (Sites sites) own = HasSites (own_view own) sites
Holds Vacant own = (left : Part) (site : Site) → IsOwnImage own.stable own.pending left → left site ≡ None

abbrev pub AllHold : List Fact → OwnWorld → Type 0
AllHold [] own = Unit {0}
AllHold (fact ∷ facts) own = Holds fact own × AllHold facts own
