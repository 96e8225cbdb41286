use Rattle.bench.specs.Bench.{Senses}
use Rattle.vold_book.specs.State.{senses, seen}
use Rattle.vold_book.proofs.BookBegun.{begins-falls}
use Rattle.vold_book.proofs.GoneItems.{begins-gone, goes-gone}
use Rattle.vold_book.proofs.KeptSlots.{goes-kept}
use Rattle.vold_book.proofs.ListedEnds.{begins-listed, begins-owing, goes-listed, goes-owing}
use Rattle.vold_book.proofs.RightSecrets.{goes-opened}
use Rattle.vold_book.proofs.Went.{begins-goes, begins-isolates, begins-ends, begins-down, begins-opened}
use Rattle.vold_book.proofs.Went.{begins-kept}
use Rattle.vold_book.proofs.Went.{still-isolates, still-ends, still-gone, still-listed, still-owing, still-down}
use Rattle.vold_book.proofs.Went.{still-opened, still-kept}
use Rattle.vold_book.proofs.Went.{goes-once, goes-isolates, goes-ends, goes-falls, goes-up}
use Rattle.vold_book.proofs.book.Book.advance.Given.{Over}
use Rattle.vold_book.proofs.book.Book.advance.Goals as goal

abbrev means : (g : Over) → Senses g.row.T.Denot g.row.K.Denot g.row.G.Denot
means g = senses g.T.TreeDisk.disk g.T.TreeDisk.counts g.K.Keystore.store g.K.Keystore.counts g.G.KeyRing.ring
    g.G.KeyRing.counts

pub returns-in_ok-begin-in-Begin-clause-turn : goal.returns-in_ok-begin-in-Begin-clause-turn
returns-in_ok-begin-in-Begin-clause-turn g c =
    begins-goes (means g) c.args.self.now c.begin.new.self c.args.actor c.in-Begin.ensures.step.0
    c.in_ok-begin-in-Begin.ensures.begun c.in-Begin.ensures.step.2

pub returns-in_ok-begin-in-Begin-clause-others : goal.returns-in_ok-begin-in-Begin-clause-others
returns-in_ok-begin-in-Begin-clause-others g c =
    begins-isolates (means g) c.args.self.now c.begin.new.self c.args.actor c.in-Begin.ensures.step.0
    c.in_ok-begin-in-Begin.ensures.begun

pub returns-in_ok-begin-in-Begin-clause-falls : goal.returns-in_ok-begin-in-Begin-clause-falls
returns-in_ok-begin-in-Begin-clause-falls g c =
    begins-falls (means g) c.args.self.now c.in-Begin.ensures.whole c.begin.new.self c.args.actor
    c.in-Begin.ensures.step.0 c.in_ok-begin-in-Begin.ensures.begun c.in-Begin.ensures.step.2

pub returns-in_ok-begin-in-Begin-clause-ends : goal.returns-in_ok-begin-in-Begin-clause-ends
returns-in_ok-begin-in-Begin-clause-ends g c =
    begins-ends (means g) c.args.self.now c.begin.new.self c.args.actor c.in-Begin.ensures.step.0
    c.in_ok-begin-in-Begin.ensures.begun

pub returns-in_ok-begin-in-Begin-clause-gone : goal.returns-in_ok-begin-in-Begin-clause-gone
returns-in_ok-begin-in-Begin-clause-gone g c =
    begins-gone (means g) c.args.self.now c.begin.new.self c.args.actor c.in-Begin.ensures.step.0

pub returns-in_ok-begin-in-Begin-clause-lists : goal.returns-in_ok-begin-in-Begin-clause-lists
returns-in_ok-begin-in-Begin-clause-lists g c =
    begins-listed (means g) c.args.self.now c.begin.new.self c.args.actor c.in-Begin.ensures.step.0

pub returns-in_ok-begin-in-Begin-clause-owes : goal.returns-in_ok-begin-in-Begin-clause-owes
returns-in_ok-begin-in-Begin-clause-owes g c =
    begins-owing (means g) c.args.self.now c.begin.new.self c.args.actor c.in-Begin.ensures.step.0

pub returns-in_ok-begin-in-Begin-clause-ready : goal.returns-in_ok-begin-in-Begin-clause-ready
returns-in_ok-begin-in-Begin-clause-ready g c =
    begins-down (means g) c.args.self.now c.begin.new.self c.args.actor c.in-Begin.ensures.step.0
    c.in_ok-begin-in-Begin.ensures.begun

pub returns-in_ok-begin-in-Begin-clause-opens : goal.returns-in_ok-begin-in-Begin-clause-opens
returns-in_ok-begin-in-Begin-clause-opens g c =
    begins-opened (means g) c.args.self.now c.begin.new.self c.args.actor c.in-Begin.ensures.step.0
    c.in_ok-begin-in-Begin.ensures.begun

pub returns-in_ok-begin-in-Begin-clause-keeps : goal.returns-in_ok-begin-in-Begin-clause-keeps
returns-in_ok-begin-in-Begin-clause-keeps g c =
    begins-kept (means g) c.args.self.now c.begin.new.self c.args.actor c.in-Begin.ensures.step.0
    c.in_ok-begin-in-Begin.ensures.begun

pub returns-in_ok-go_on-in-GoOn-clause-turn : goal.returns-in_ok-go_on-in-GoOn-clause-turn
returns-in_ok-go_on-in-GoOn-clause-turn g c =
    goes-once (means g) c.args.self.now c.go_on.new.self c.args.actor c.in-GoOn.ensures.whole
    c.in_ok-go_on-in-GoOn.ensures.turned

pub returns-in_ok-go_on-in-GoOn-clause-others : goal.returns-in_ok-go_on-in-GoOn-clause-others
returns-in_ok-go_on-in-GoOn-clause-others g c =
    goes-isolates (means g) c.args.self.now c.go_on.new.self c.args.actor c.in-GoOn.ensures.whole
    c.in_ok-go_on-in-GoOn.ensures.turned

pub returns-in_ok-go_on-in-GoOn-clause-ends : goal.returns-in_ok-go_on-in-GoOn-clause-ends
returns-in_ok-go_on-in-GoOn-clause-ends g c =
    goes-ends (means g) c.args.self.now c.go_on.new.self c.args.actor c.in-GoOn.ensures.whole
    c.in_ok-go_on-in-GoOn.ensures.turned

pub returns-in_ok-go_on-in-GoOn-clause-gone : goal.returns-in_ok-go_on-in-GoOn-clause-gone
returns-in_ok-go_on-in-GoOn-clause-gone g c =
    goes-gone (means g) c.args.self.now c.go_on.new.self c.args.actor c.in-GoOn.ensures.whole
    c.in_ok-go_on-in-GoOn.ensures.turned

pub returns-in_ok-go_on-in-GoOn-clause-lists : goal.returns-in_ok-go_on-in-GoOn-clause-lists
returns-in_ok-go_on-in-GoOn-clause-lists g c =
    goes-listed (means g) c.args.self.now c.go_on.new.self c.args.actor c.in-GoOn.ensures.whole
    c.in_ok-go_on-in-GoOn.ensures.turned

pub returns-in_ok-go_on-in-GoOn-clause-owes : goal.returns-in_ok-go_on-in-GoOn-clause-owes
returns-in_ok-go_on-in-GoOn-clause-owes g c =
    goes-owing (means g) c.args.self.now c.go_on.new.self c.args.actor
    c.in_ok-go_on-in-GoOn.ensures.turned

pub returns-in_ok-go_on-in-GoOn-clause-falls : goal.returns-in_ok-go_on-in-GoOn-clause-falls
returns-in_ok-go_on-in-GoOn-clause-falls g c =
    goes-falls (means g) c.args.self.now c.go_on.new.self c.args.actor c.in-GoOn.ensures.whole
    c.in_ok-go_on-in-GoOn.ensures.turned

pub returns-in_ok-go_on-in-GoOn-clause-ready : goal.returns-in_ok-go_on-in-GoOn-clause-ready
returns-in_ok-go_on-in-GoOn-clause-ready g c =
    goes-up (means g) c.args.self.now c.go_on.new.self c.args.actor c.in-GoOn.ensures.whole
    c.in_ok-go_on-in-GoOn.ensures.turned

pub returns-in_ok-go_on-in-GoOn-clause-opens : goal.returns-in_ok-go_on-in-GoOn-clause-opens
returns-in_ok-go_on-in-GoOn-clause-opens g c =
    goes-opened (means g) c.args.self.now c.go_on.new.self c.args.actor c.in-GoOn.ensures.whole
    c.in_ok-go_on-in-GoOn.ensures.turned

pub returns-in_ok-go_on-in-GoOn-clause-keeps : goal.returns-in_ok-go_on-in-GoOn-clause-keeps
returns-in_ok-go_on-in-GoOn-clause-keeps g c =
    goes-kept (means g) c.args.self.now c.go_on.new.self c.args.actor c.in-GoOn.ensures.whole
    c.in_ok-go_on-in-GoOn.ensures.turned

pub returns-in-Idle-clause-others : goal.returns-in-Idle-clause-others
returns-in-Idle-clause-others g c = still-isolates (seen (means g) c.args.self.now) c.args.actor

pub returns-in-Idle-clause-ends : goal.returns-in-Idle-clause-ends
returns-in-Idle-clause-ends g c = still-ends (seen (means g) c.args.self.now) c.args.actor

pub returns-in-Idle-clause-ready : goal.returns-in-Idle-clause-ready
returns-in-Idle-clause-ready g c = still-down (seen (means g) c.args.self.now) c.args.actor

pub returns-in-Idle-clause-opens : goal.returns-in-Idle-clause-opens
returns-in-Idle-clause-opens g c = still-opened (seen (means g) c.args.self.now) c.args.actor

pub returns-in-Idle-clause-keeps : goal.returns-in-Idle-clause-keeps
returns-in-Idle-clause-keeps g c = still-kept (seen (means g) c.args.self.now) c.args.actor

pub returns-in-Waits-clause-others : goal.returns-in-Waits-clause-others
returns-in-Waits-clause-others g c = still-isolates (seen (means g) c.args.self.now) c.args.actor

pub returns-in-Waits-clause-ends : goal.returns-in-Waits-clause-ends
returns-in-Waits-clause-ends g c = still-ends (seen (means g) c.args.self.now) c.args.actor

pub returns-in-Waits-clause-ready : goal.returns-in-Waits-clause-ready
returns-in-Waits-clause-ready g c = still-down (seen (means g) c.args.self.now) c.args.actor

pub returns-in-Waits-clause-opens : goal.returns-in-Waits-clause-opens
returns-in-Waits-clause-opens g c = still-opened (seen (means g) c.args.self.now) c.args.actor

pub returns-in-Waits-clause-keeps : goal.returns-in-Waits-clause-keeps
returns-in-Waits-clause-keeps g c = still-kept (seen (means g) c.args.self.now) c.args.actor

pub returns-in-Idle-clause-gone : goal.returns-in-Idle-clause-gone
returns-in-Idle-clause-gone g c = still-gone (seen (means g) c.args.self.now) c.args.actor

pub returns-in-Waits-clause-gone : goal.returns-in-Waits-clause-gone
returns-in-Waits-clause-gone g c = still-gone (seen (means g) c.args.self.now) c.args.actor

pub returns-in-Idle-clause-lists : goal.returns-in-Idle-clause-lists
returns-in-Idle-clause-lists g c = still-listed (seen (means g) c.args.self.now) c.args.actor

pub returns-in-Waits-clause-lists : goal.returns-in-Waits-clause-lists
returns-in-Waits-clause-lists g c = still-listed (seen (means g) c.args.self.now) c.args.actor

pub returns-in-Idle-clause-owes : goal.returns-in-Idle-clause-owes
returns-in-Idle-clause-owes g c = still-owing (seen (means g) c.args.self.now) c.args.actor

pub returns-in-Waits-clause-owes : goal.returns-in-Waits-clause-owes
returns-in-Waits-clause-owes g c = still-owing (seen (means g) c.args.self.now) c.args.actor
