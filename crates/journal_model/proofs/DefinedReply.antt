-- The refusal that the map of users alone decides is the verdict of each machine whose log makes the map.
use Rattle.std.proofs.Common.{◌≡◌, ℕ, ◌+◌, length, refl, sym, ap, ◌∙◌, arith}
use Rattle.std.proofs.lemmas.List.{length-map}
use Rattle.std.proofs.lemmas.Bool.{leb-true, le-leb}
use Rattle.std.specs.Prelude.{Bool, true, false, not, Option, Some, None, nat_le}
use Rattle.std.specs.FinMap as map
use Rattle.journal_model.specs.declared.commands.Command.{Command}
use Rattle.journal_model.specs.declared.commands.Command.TheVariants.{Create, Unlock, Lock, Protect, Fixate}
use Rattle.journal_model.specs.declared.commands.Command.TheVariants.{Destroy, Recover}
use Rattle.journal_model.specs.declared.commands.Reply.{Reply}
use Rattle.journal_model.specs.declared.commands.Reply.TheVariants.{UserExists, TooManyUsers, NoUser, NotInstalled}
use Rattle.journal_model.specs.DefinedReply.{defined_facts, defined_reply_of, DefinedReplyIsVerdict}
use Rattle.journal_model.specs.Machine.{Machine, facts_of, max_users, newcomers, verdict_of}
use Rattle.journal_model.specs.Refusals.{due, first_due}
use Rattle.journal_model.specs.Users.{Users, fold_changes}

-- there are as many keys as users
pub length-keys : (users : Users) → length (map.keys users) ≡ map.len users
length-keys users = length-map (map.entries users) (λ entry. entry.0) ∙ sym (map.len-entries users)

-- what is due by less is due by more
due-more : (less more : Bool) (refusal reply : Reply) → (less ≡ true → more ≡ true) → due less refusal ≡ Some reply
    → due more refusal ≡ Some reply
due-more true more refusal reply grows is = ap (λ holds. due holds refusal) (grows refl) ∙ is
due-more false more refusal reply grows is = cc

-- so is the first of two, where the second is due by more
first-more : (first less more : Option Reply) (reply : Reply) → (less ≡ Some reply → more ≡ Some reply)
    → first_due first less ≡ Some reply → first_due first more ≡ Some reply
first-more None less more reply grows is = grows is
first-more (Some refusal) less more reply grows is = is

-- where the users who are there are as many as there may be, so are they with those being created
crowded-more : (there coming : ℕ) → nat_le max_users there ≡ true → nat_le max_users (there + coming) ≡ true
crowded-more there coming full =
    le-leb max_users (there + coming) (omega (arith, leb-true max_users there full))

-- the refusal that the map of a machine's log decides is due on the machine
settled : (command : Command) (machine : Machine) (reply : Reply)
    → defined_reply_of command (fold_changes machine.log) ≡ Some reply → verdict_of machine command ≡ Some reply
settled (Create user) machine reply is =
    let users = fold_changes machine.log in
    let alone = defined_facts (Create user) users in let facts = facts_of machine (Create user) in
    first-more (due facts.present UserExists) (due alone.crowded TooManyUsers) (due facts.crowded TooManyUsers) reply
    (due-more alone.crowded facts.crowded TooManyUsers reply
    (crowded-more (map.len users) (length (newcomers users machine.running)))) is
settled (Unlock user secret) machine reply is = is
settled (Lock user) machine reply is =
    let facts = facts_of machine (Lock user) in
    first-more (due (not facts.present) NoUser) None (due (not facts.installed) NotInstalled) reply (λ none. cc) is
settled (Protect user given fresh) machine reply is = is
settled (Fixate user) machine reply is = is
settled (Destroy user) machine reply is = is
settled Recover machine reply is = cc

pub defined_reply_is_verdict : DefinedReplyIsVerdict
defined_reply_is_verdict machine command users reply folded is = settled command machine reply (rw folded is)
