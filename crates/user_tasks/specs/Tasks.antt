-- The commands of users: what each rests on, what its turn shows, and how it begins.
use Rattle.std.specs.Prelude.{◌≡◌, ◌⊎◌, ℕ, ◌+◌, ◌*◌, ◌≤◌, List, [], length, Some, None, is_some}
use Rattle.tree_model.specs.declared.places.Class.TheVariants.{De as ForDe, Ce as ForCe}
use Rattle.tree_model.specs.declared.places.Slot.{Slot}
use Rattle.journal_model.specs.declared.commands.Command.{Command}
use Rattle.journal_model.specs.declared.commands.Command.TheVariants.{Unlock as UnlockCommand}
use Rattle.journal_model.specs.declared.commands.Command.TheVariants.{Protect as ProtectCommand}
use Rattle.journal_model.specs.declared.commands.Command.TheVariants.{Fixate as FixateCommand}
use Rattle.journal_model.specs.declared.commands.Command.TheVariants.{Destroy as DestroyCommand}
use Rattle.journal_model.specs.declared.entries.Birth.{Birth}
use Rattle.journal_model.specs.declared.refusals.Facts.{Facts}
use Rattle.journal_model.specs.Command.{user_in}
use Rattle.journal_model.specs.Made.{boot_seed_of}
use Rattle.journal_model.specs.Refusals.{refusal_of}
use Rattle.journal_model.specs.Machine.{Running as Began}
use Rattle.user_world.specs.Facts.{Sites}
use Rattle.user_world.specs.OwnWorlds.{own_record}
use Rattle.step_core.specs.declared.jobs.Job.{Job}
use Rattle.key_directory.specs.Opened.{WasGiven}
use Rattle.task_turns.specs.declared.calls.Answer.{Answer}
use Rattle.task_turns.specs.declared.calls.Answer.TheVariants.{Done}
use Rattle.task_turns.specs.declared.next.Next.{Next}
use Rattle.task_turns.specs.declared.next.Next.TheVariants.{Work as WorkNext}
use Rattle.task_turns.specs.Shares.{Share, Own, AllSlots, Newest, SlotsFew, HasKey, Has, IsSound, AreLeftToTry}
use Rattle.task_turns.specs.Shares.{IsNextSlot}
use Rattle.task_turns.specs.Turns.{Rest, Rests, Scene, Tasks, seen_of, TurnShows}
use Rattle.user_tasks.specs.declared.looks.Known.{Known}
use Rattle.user_tasks.specs.declared.looks.Looks.{Looks}
use Rattle.user_tasks.specs.declared.tasks.UserTask.{UserTask}
use Rattle.user_tasks.specs.declared.tasks.UserTask.TheVariants.{Create as OfCreate, Unlock as OfUnlock}
use Rattle.user_tasks.specs.declared.tasks.UserTask.TheVariants.{Lock as OfLock, Protect as OfProtect}
use Rattle.user_tasks.specs.declared.tasks.UserTask.TheVariants.{Fixate as OfFixate, Destroy as OfDestroy}
use Rattle.user_tasks.specs.Create.{Creating, create_rest}
use Rattle.user_tasks.specs.Create.{after as create_after, hears as create_hears, asks_of as create_asks}
use Rattle.user_tasks.specs.Destroy.{all_sites, destroy_rest, after as destroy_after}
use Rattle.user_tasks.specs.Fixate.{fixate_rest, after as fixate_after}
use Rattle.user_tasks.specs.Lock.{lock_rest, after as lock_after, hears as lock_hears}
use Rattle.user_tasks.specs.Looks.{Finds}
use Rattle.user_tasks.specs.Protect.{protect_rest, after as protect_after, hears as protect_hears}
use Rattle.user_tasks.specs.Protect.{asks_of as protect_asks}
use Rattle.user_tasks.specs.Unlock.{unlock_rest, after as unlock_after, hears as unlock_hears, asks_of as unlock_asks}

-- where a task rests, the answers that it may hear, what it is after one, and how many jobs it asks for at most before
-- its next call or reply
abbrev pub rest_of : UserTask → Rest
rest_of (OfCreate create) = create_rest create
rest_of (OfUnlock unlock) = unlock_rest unlock
rest_of (OfLock lock) = lock_rest lock
rest_of (OfProtect protect) = protect_rest protect
rest_of (OfFixate fixate) = fixate_rest fixate
rest_of (OfDestroy destroy) = destroy_rest destroy

abbrev pub hears : UserTask → Answer → Type 0
hears (OfCreate create) answer = create_hears create answer
hears (OfUnlock unlock) answer = unlock_hears unlock answer
hears (OfLock lock) answer = lock_hears lock answer
hears (OfProtect protect) answer = protect_hears protect answer
hears (OfFixate fixate) answer = answer ≡ Done
hears (OfDestroy destroy) answer = answer ≡ Done

abbrev pub after : UserTask → Answer → UserTask
after (OfCreate create) answer = OfCreate (create_after create answer)
after (OfUnlock unlock) answer = OfUnlock (unlock_after unlock answer)
after (OfLock lock) answer = OfLock (lock_after lock)
after (OfProtect protect) answer = OfProtect (protect_after protect answer)
after (OfFixate fixate) answer = OfFixate (fixate_after fixate)
after (OfDestroy destroy) answer = OfDestroy (destroy_after destroy)

abbrev pub asks_of : UserTask → ℕ
asks_of (OfCreate create) = create_asks create
asks_of (OfUnlock unlock) = unlock_asks unlock
asks_of (OfProtect protect) = protect_asks protect
asks_of task = 0

abbrev pub tasks : Tasks UserTask
tasks = record { rest_of = rest_of; hears = hears; after = after; asks = asks_of }

abbrev pub user_of : UserTask → ℕ
user_of task = (rest_of task).user

-- how many turns any command has as it begins, at most, besides three for each slot that it has to try and one for
-- each of the user's
abbrev pub most_turns : ℕ
most_turns = 26

-- the turn shows what it has to, in every sound scene in which the task rests and what the turn is told is so
abbrev pub UserTurns : UserTask → Looks → Next → Type 0
UserTurns task looks next = (scene : Scene)
    → IsSound (user_of task) scene.share
    → Finds scene (rest_of task).held looks
    → Rests (rest_of task) scene.boot scene.began scene.share → TurnShows (seen_of tasks task) scene next

-- a command as it begins and isn't refused
abbrev pub accepted : Command → ℕ → Began
accepted command index = record { command = command; verdict = None; changes = []; index = index }

-- a command with a secret, which it gave, has these slots to try
pub record AreToTry (share : Share) (user : ℕ) (secret : List ℕ) (slots : List Slot) : Type 0 where
  pub left : AreLeftToTry share secret slots
  pub gave : WasGiven (share.vault.attempts user) secret

-- what is known of the user as a command begins is so
abbrev pub KnowsUser : Command → Known → Share → Type 0
KnowsUser (UnlockCommand user secret) known share =
    AreToTry share user secret known.to_try.items × Has (AllSlots known.slots.items) share
KnowsUser (ProtectCommand user given fresh) known share =
    AreToTry share user given known.to_try.items × IsNextSlot share known.next
KnowsUser (FixateCommand user) known share =
    Has (AllSlots known.slots.items) share × Has (Newest known.newest) share
KnowsUser (DestroyCommand user) known share = Has (Own (Sites (all_sites known.has_temp known.slots.items))) share
    × Has (SlotsFew (length known.slots.items)) share
    × Has (HasKey ForCe known.has_ce) share × Has (HasKey ForDe known.has_de) share
KnowsUser command known share = Unit {0}

-- a user's command begins with this task: it rests in each share of the user's in which the command is not refused,
-- under whose seed the bytes of the boot are made, and in which what is known of the user is so
pub record Begins (command : Command) (birth : Birth) (boot_seed : List ℕ) (known : Known) (task : UserTask) :
    Type 0 where
  pub owned : user_in command ≡ Some (user_of task)
  pub few : (rest_of task).left ≤ most_turns + 3 * length known.to_try.items + length known.slots.items
  pub makes : (rest_of task).makes ≤ 2
  pub draws : (rest_of task).draws ≤ 2
  pub held : (rest_of task).held ≡ []
  pub rests : (facts : Facts) (share : Share) → facts.present ≡ is_some (own_record share.own)
      → facts.installed ≡ is_some (share.keys ForCe) → refusal_of command facts ≡ None
      → boot_seed ≡ boot_seed_of share.vault.seed birth.boot → KnowsUser command known share
      → Rests (rest_of task) birth.boot (accepted command birth.index) share

-- the numbers of a command's jobs, which no other command's have
pub record HasTwoJobs (number : ℕ) (create : Creating) : Type 0 where
  pub ce : create.ce.job ≡ 65536 * number
  pub de : create.de.job ≡ 65536 * number + 1

abbrev pub HasJobs : ℕ → UserTask → Type 0
HasJobs number (OfCreate create) = HasTwoJobs number create
HasJobs number (OfUnlock unlock) = unlock.opening.job ≡ 65536 * number
HasJobs number (OfProtect protect) =
    (protect.opening.job ≡ 65536 * number) × (protect.store.job ≡ 65536 * number + 1)
HasJobs number task = Unit {0}

abbrev pub OwnsJob : UserTask → Job → Type 0
OwnsJob (OfCreate create) job = (job.number ≡ create.ce.job) ⊎ (job.number ≡ create.de.job)
OwnsJob (OfUnlock unlock) job = job.number ≡ unlock.opening.job
OwnsJob (OfProtect protect) job = (job.number ≡ protect.opening.job) ⊎ (job.number ≡ protect.store.job)
OwnsJob task job = ⊥

abbrev pub IsNumbered : UserTask → Next → Type 0
IsNumbered task (WorkNext job) = OwnsJob task job
IsNumbered task next = Unit {0}

-- a job that the turn hands out has one of the task's numbers
abbrev pub UserJobs : UserTask → Looks → Next → Type 0
UserJobs task looks next = (scene : Scene)
    → IsSound (user_of task) scene.share
    → Finds scene (rest_of task).held looks
    → Rests (rest_of task) scene.boot scene.began scene.share → IsNumbered task next
