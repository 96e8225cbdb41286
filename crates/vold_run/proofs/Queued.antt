-- Queues stay in order when a number joins them: behind the others, or in front of them for a restart's recovery.
use Rattle.std.proofs.Common.{inl, inr, ℕ, ◌<◌, List, [], ◌∷◌, ◌++◌, length, subst, arith}
use Rattle.std.specs.Prelude.{Option, Some, None, IfSome, Contains, unwrap_or}
use Rattle.std.specs.FinMap as map
use Rattle.std.proofs.lemmas.List.Elements.{Contains-push_cases}
use Rattle.journal_model.specs.declared.commands.Actor.{Actor}
use Rattle.journal_model.specs.declared.commands.Actor.TheVariants.{Boot, User}
use Rattle.journal_model.specs.declared.commands.Command.{Command}
use Rattle.journal_model.specs.Actor.{actor_total, actor_exact}
use Rattle.journal_model.specs.Command.{actor_of}
use Rattle.docket.specs.Accounts.{Accounted}
use Rattle.docket.specs.Docket.{queue_of, with_command, with_first_command}
use Rattle.docket.proofs.Accounts.{nothing_in, contains-here, contains-there, queue-within}
use Rattle.vold_book.specs.State.{Docket}
use Rattle.vold_run.specs.Lines.{IsInOrder}
use Rattle.vold_run.specs.Fits.{ComesBy}
use Rattle.vold_run.proofs.Kept.{AreInOrder, order-put}

order-behind : (actor : Actor) (numbers : List ℕ) (last : ℕ)
    → ((number : ℕ) → Contains numbers number → ComesBy actor number last) → IsInOrder actor numbers
    → IsInOrder actor (numbers ++ last ∷ [])
order-behind actor [] last comes order = (λ other there. absurd (nothing_in other there), tt)
order-behind actor (number ∷ numbers) last comes order = (
  λ other there. elim (Contains-push_cases numbers last other there) [
    | inl before ↦ order.0 other before
    | inr same ↦ subst (ComesBy actor number) same (comes number (contains-here number numbers))
  ],
  order-behind actor numbers last (λ n there. comes n (contains-there number numbers n there)) order.1,
)

order-queue : (actor : Actor) (found : Option (List ℕ)) → IfSome found (IsInOrder actor)
    → IsInOrder actor (unwrap_or found [])
order-queue actor None order = tt
order-queue actor (Some numbers) order = order

module _ (taken : List ℕ) (docket : Docket) (stand : Accounted actor_of taken docket)
    (order : AreInOrder docket.waiting) where
  below : (actor : Actor) (number : ℕ) → Contains (queue_of docket.waiting actor) number
      → number < length docket.commands
  below actor number there = queue-within actor_total actor_exact actor_of docket taken stand actor number there

  -- a user's command waits behind those that were given before
  pub order-given : (user : ℕ) (command : Command) → AreInOrder (with_command docket (User user) command).waiting
  order-given user command =
      order-put docket.waiting (User user) (queue_of docket.waiting (User user) ++ length docket.commands ∷ [])
      (order-behind (User user) (queue_of docket.waiting (User user)) (length docket.commands)
      (λ number there. let low = below (User user) number there in omega (arith, low))
      (order-queue (User user) (map.get docket.waiting (User user)) (order (User user)))) order

  -- a restart's recovery waits before the older ones
  pub order-restarted : (command : Command) → AreInOrder (with_first_command docket Boot command).waiting
  order-restarted command =
      order-put docket.waiting Boot (length docket.commands ∷ queue_of docket.waiting Boot) (
        λ number there. let low = below Boot number there in omega (arith, low),
        order-queue Boot (map.get docket.waiting Boot) (order Boot),
      ) order
