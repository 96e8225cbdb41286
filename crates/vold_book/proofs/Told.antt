-- What a user's share tells of a command, the machine of a whole Book tells.
use Rattle.std.proofs.Common.{ℕ, sym, ap, ◌∙◌, subst}
use Rattle.std.specs.Prelude.{Bool, Option, Contains}
use Rattle.tree_model.specs.declared.places.Class.{Class}
use Rattle.key_ring.specs.Ring.{has_owner}
use Rattle.key_ring.proofs.Owners.{found}
use Rattle.journal_model.specs.declared.commands.Command.{Command}
use Rattle.journal_model.specs.declared.commands.Reply.{Reply}
use Rattle.journal_model.specs.declared.entries.Change.{Change}
use Rattle.journal_model.specs.Machine.{Machine, Running as BeganCommand, Evidence, AllowsChange, AllowsOutcome}
use Rattle.journal_model.specs.Machine.{IsDurable, evidence_of}
use Rattle.journal_model.specs.Users.{Record}
use Rattle.journal_model.proofs.ByCommand.{change-more, outcome-more}
use Rattle.user_world.specs.Changes.{local_of}
use Rattle.user_world.specs.Timelines.{Timeline}
use Rattle.user_world.proofs.Timelines.{logged-shown, durable-shown, known-shown}
use Rattle.user_world.proofs.Worlds.{owned-change}
use Rattle.task_turns.specs.Turns.{evidence_in}
use Rattle.vold_book.specs.State.{Plain, machine_of, timeline, ground_of, share_of}
use Rattle.vold_book.specs.Whole.{Whole}

module _ (book : Plain) (whole : Whole book) (user : ℕ) where
  abbrev machine : Machine
  machine = machine_of book

  abbrev line : Timeline
  line = timeline book.bench.disk machine

  abbrev less : Evidence
  less = evidence_in user (share_of user (ground_of book))

  abbrev more : Evidence
  more = evidence_of machine

  logged : (change : Change) → less.logged change → more.logged change
  logged change is = subst (Contains machine.log) (owned-change change user is.0)
      (logged-shown user _ line whole.worlds.shows (local_of change) is.1)

  durable : (of : Option ℕ) → less.durable of → more.durable of
  durable of are = subst (IsDurable machine) (sym are.0) (durable-shown user _ line whole.worlds.shows are.1)

  has : (owner : ℕ) (class : Class) (there : Bool) → less.has_key owner class there → more.has_key owner class there
  has owner class there key = subst (λ o. more.has_key o class there) (sym key.0)
      (ap (λ all. has_owner all user class) whole.ring.owned ∙ found book.bench.keys user class ∙ key.1)

  recorded : (owner : ℕ) (known : Record) → less.recorded owner known → more.recorded owner known
  recorded owner known is = subst (λ o. more.recorded o known) (sym is.0)
      (sym (known-shown user _ line whole.worlds.shows) ∙ is.1)

  pub change-told : (boot : ℕ) (began : BeganCommand) (command : Command) (change : Change)
      → AllowsChange less boot began command change → AllowsChange more boot began command change
  change-told = change-more less more logged durable has recorded

  pub outcome-told : (boot : ℕ) (began : BeganCommand) (reply : Reply) → AllowsOutcome less boot began reply
      → AllowsOutcome more boot began reply
  outcome-told = outcome-more less more logged durable has recorded
