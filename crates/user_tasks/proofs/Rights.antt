-- What a command shows of the secret that it was given: one that opens no key was given none, and a change that drops
-- no slot keeps the newest slot under it.
use Rattle.std.proofs.Common.{◌≡◌, ℕ, List, sym, ◌∙◌, subst, ap}
use Rattle.std.specs.Prelude.{Option, Some, None, IfSome}
use Rattle.journal_model.specs.declared.commands.Command.{Command}
use Rattle.journal_model.specs.Users.{Record}
use Rattle.user_world.specs.declared.changes.LocalChange.{LocalChange}
use Rattle.user_world.specs.OwnWorlds.{own_record}
use Rattle.key_directory.specs.Vaults.{Attempts}
use Rattle.task_turns.specs.Shares.{IsUnder}
use Rattle.task_turns.specs.Turns.{Scene, GaveRight, KeepsNewest, KeepsRight, opening_secret}

-- a command that opens no key
pub gave-none : (scene : Scene) (user : ℕ) (command : Command) → scene.began.command ≡ command
    → opening_secret command ≡ None → GaveRight user scene
gave-none scene user command is none =
    subst (λ secret. IfSome secret (IsUnder scene.share user)) (sym (ap opening_secret is ∙ none)) tt

-- a change that drops no slot
pub keeps-right : (scene : Scene) (user : ℕ) (change : LocalChange)
    → ((attempts : Attempts) (known : Record) (secret : List ℕ) → KeepsNewest attempts known change secret)
    → KeepsRight user scene change
keeps-right scene user change keeps = by (own_record scene.share.own)
  where
    kept : (known : Record) (secret : Option (List ℕ))
        → IfSome secret (KeepsNewest (scene.share.vault.attempts user) known change)
    kept known None = tt
    kept known (Some secret) = keeps (scene.share.vault.attempts user) known secret

    by : (found : Option Record)
        → IfSome found (λ known. IfSome (opening_secret scene.began.command)
        (KeepsNewest (scene.share.vault.attempts user) known change))
    by None = tt
    by (Some known) = kept known (opening_secret scene.began.command)
