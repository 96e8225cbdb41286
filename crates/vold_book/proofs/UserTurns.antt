-- A call of a user's command that was done leaves the Book what it has to where the command shows it, and the command
-- may hear what it is told.
use Rattle.std.proofs.Common.{◌≡◌, ℕ, false, List, [], sym, ap, ◌∙◌, subst}
use Rattle.std.specs.Prelude.{Option, None, Ok}
use Rattle.tree_model.specs.Disk.{with_op}
use Rattle.tree_model.specs.Sites.{op_of}
use Rattle.tree_model.specs.Tree.{if_there}
use Rattle.seal_model.specs.Sealed.{sealed_text}
use Rattle.key_ring.specs.Ring.{installed, removed}
use Rattle.keystore_model.specs.declared.entry.StoreEntry.{StoreEntry}
use Rattle.keystore_model.proofs.Stores.{not-given}
use Rattle.user_world.specs.declared.changes.LocalChange.{LocalChange}
use Rattle.task_turns.specs.declared.calls.Answer.{Answer}
use Rattle.task_turns.specs.declared.calls.Answer.TheVariants.{Done, Installed, Directory, Sealed}
use Rattle.task_turns.specs.declared.calls.Call.{Call}
use Rattle.task_turns.specs.declared.calls.Call.TheVariants.{Op as OpCall, Sync, Generate, Encrypt, Decrypt}
use Rattle.task_turns.specs.declared.calls.Call.TheVariants.{List as ListCall, Read, Entries, Add, Remove, Delete}
use Rattle.task_turns.specs.Turns.{seen_of, Scene, CallShows, OpShows, SyncShows, GenerateShows, DecryptShows}
use Rattle.task_turns.specs.Turns.{ReadShows, AddShows, RemoveShows, DeleteShows}
use Rattle.bench.specs.declared.made.Made.TheVariants.{Heard}
use Rattle.bench.specs.Bench.{Plain as Seen, Does, places_after, listed_as, dropped}
use Rattle.bench.specs.Seen.{AnswersWhole}
use Rattle.user_tasks.specs.Tasks.{tasks, user_of}
use Rattle.vold_book.specs.declared.tasks.Task.TheVariants.{User as Using}
use Rattle.vold_book.specs.Owed.{due_of}
use Rattle.vold_book.specs.State.{Plain, ground_of}
use Rattle.vold_book.specs.Tasks.{scene_of}
use Rattle.vold_book.specs.Whole.{Whole}
use Rattle.vold_book.proofs.Moves.{Moves, after_of}
use Rattle.vold_book.proofs.UserAsides.{generate-moves, encrypt-moves, decrypt-moves, read-hears}
use Rattle.vold_book.proofs.UserAsides.{read-moves, add-moves}
use Rattle.vold_book.proofs.UserAsides.{remove-moves, delete-moves}
use Rattle.vold_book.proofs.UserOps.{op-moves, sync-moves}
use Rattle.vold_book.proofs.UserRuns.{UserRuns}

-- what seals a key under an entry that is found
abbrev sealed_by : Option StoreEntry → List ℕ → List ℕ → List ℕ
sealed_by found nonce key = if_there found [] (λ entry. sealed_text entry.key nonce key)

module _ (book : Plain) (whole : Whole book) (runs : UserRuns book) where
  abbrev scene : Scene
  scene = scene_of (user_of runs.task) (ground_of book) runs.on.began (due_of book.bench.list runs.owed)

  -- what the call leaves where its command goes on
  abbrev MovesTo : Call → Option LocalChange → Answer → Seen → Type 0
  MovesTo call change answer bench = Moves book runs.actor runs.number
      (after_of book runs.number call change (Using (tasks.after runs.task answer)) (Heard answer) bench)

  -- a call that the device did
  pub user-done : (call : Call) (change : Option LocalChange) (answer : Answer) (bench : Seen)
      → CallShows (seen_of tasks runs.task) scene call change → AnswersWhole (Ok (Heard answer))
      → Does book.bench bench call answer
      → MovesTo call change answer bench
  user-done (OpCall owner op names) change answer bench shows whole_blob does =
      subst (λ a. MovesTo (OpCall owner op names) change a bench) (sym does.0)
      (subst (λ u. OpShows (seen_of tasks runs.task) scene u op names change → bench ≡ record book.bench {
        disk = with_op book.bench.disk (op_of u op);
        tree_counts = bench.tree_counts;
        places = places_after book.bench.places u op names;
        list = listed_as false book.bench.list (dropped book.bench.places u op);
      } → MovesTo (OpCall u op names) change Done bench)
      (sym shows.stands.mine) (λ stands done. op-moves book whole runs names op change stands bench done shows.may)
      shows.stands does.1)
  user-done Sync change answer bench shows whole_blob does =
      subst (λ a. MovesTo Sync change a bench)
      (sym does.0)
      (subst (λ c. SyncShows (seen_of tasks runs.task) scene c
      → MovesTo Sync c Done bench)
      (sym shows.stands.quiet) (λ stands. sync-moves book whole runs stands bench does.1) shows.stands)
  user-done (Generate tag app_id) change answer bench shows whole_blob does =
      subst (λ c. GenerateShows (seen_of tasks runs.task) scene tag app_id c
      → MovesTo (Generate tag app_id) c answer bench)
      (sym shows.stands.quiet)
      (λ stands. subst (λ a. MovesTo (Generate tag app_id) None a bench) (sym does.1)
      (generate-moves book whole runs tag app_id does.0 bench stands
      (subst (λ a. AnswersWhole (Ok (Heard a))) does.1 whole_blob) does.2 does.3)) shows.stands
  user-done (Encrypt blob app_id nonce key) change answer bench shows whole_blob does =
      subst (λ c. MovesTo (Encrypt blob app_id nonce key) c answer bench)
      (sym shows.stands.0)
      (subst (λ a. MovesTo (Encrypt blob app_id nonce key) None a bench)
      (sym (does.0 ∙ ap (λ found. Sealed (sealed_by found nonce key)) shows.stands.1.under.live))
      (encrypt-moves book whole runs blob app_id nonce key bench shows.stands.1 does.1))
  user-done (Add owner class key) change answer bench shows whole_blob does =
      subst (λ a. MovesTo (Add owner class key) change a bench) (sym does.0)
      (subst (λ c. AddShows (seen_of tasks runs.task) scene owner class key c
      → MovesTo (Add owner class key) c Installed bench) (sym shows.stands.quiet)
      (subst (λ u. bench ≡ record book.bench {
        keys = installed book.bench.keys u class key;
        ring_counts = bench.ring_counts;
      } → AddShows (seen_of tasks runs.task) scene u class key None
      → MovesTo (Add u class key) None Installed bench) (sym shows.stands.mine)
      (λ done stands. add-moves book whole runs class key bench stands done) does.1) shows.stands)
  user-done (Remove owner class) change answer bench shows whole_blob does =
      subst (λ a. MovesTo (Remove owner class) change a bench) (sym does.0)
      (subst (λ c. RemoveShows (seen_of tasks runs.task) scene owner class c
      → MovesTo (Remove owner class) c Done bench) (sym shows.stands.quiet)
      (subst (λ u. bench ≡ record book.bench {
        keys = removed book.bench.keys u class;
        ring_counts = bench.ring_counts;
      } → RemoveShows (seen_of tasks runs.task) scene u class None
      → MovesTo (Remove u class) None Done bench) (sym shows.stands.mine)
      (λ done stands. remove-moves book whole runs class bench stands done) does.1) shows.stands)
  user-done (Delete item tells) change answer bench shows whole_blob does =
      subst (λ c. DeleteShows (seen_of tasks runs.task) scene item tells c
      → MovesTo (Delete item tells) c answer bench) (sym shows.stands.quiet)
      (λ stands. subst (λ a. MovesTo (Delete item tells) None a bench) (sym does.0)
      (delete-moves book whole runs item tells stands bench does.1)) shows.stands
  user-done ListCall change answer bench shows whole_blob does = absurd shows.stands
  user-done (Read place) change answer bench shows whole_blob does =
      subst (λ c. ReadShows (seen_of tasks runs.task) scene place c
      → MovesTo (Read place) c answer bench) (sym shows.stands.quiet)
      (λ stands. subst (λ a. MovesTo (Read place) None a bench) (sym does.2)
      (read-moves book whole runs place does.0 stands does.1 bench does.3)) shows.stands
  user-done (Decrypt blob app_id text) change answer bench shows whole_blob does =
      subst (λ c. DecryptShows (seen_of tasks runs.task) scene blob app_id text c
      → MovesTo (Decrypt blob app_id text) c answer bench)
      (sym shows.stands.quiet)
      (λ stands. subst (λ a. MovesTo (Decrypt blob app_id text) None a bench) (sym does.0)
      (decrypt-moves book whole runs blob app_id text bench stands does.1)) shows.stands
  user-done Entries change answer bench shows whole_blob does = absurd shows.stands

  -- the task may hear what the device answered
  pub user-hears : (call : Call) (change : Option LocalChange) (answer : Answer) (bench : Seen)
      → CallShows (seen_of tasks runs.task) scene call change → AnswersWhole (Ok (Heard answer))
      → Does book.bench bench call answer
      → tasks.hears runs.task answer
  user-hears (OpCall owner op names) change answer bench shows long does =
      subst (tasks.hears runs.task) (sym does.0) shows.stands.leads.hears
  user-hears Sync change answer bench shows long does =
      subst (tasks.hears runs.task) (sym does.0) shows.stands.leads.hears
  user-hears (Generate tag app_id) change answer bench shows long does =
      subst (tasks.hears runs.task) (sym does.1) (shows.stands.each does.0 does.2.key
      (subst (λ a. AnswersWhole (Ok (Heard a))) does.1 long)
      (not-given book.bench.store does.0 whole.store does.2.fresh)).leads.hears
  user-hears (Encrypt blob app_id nonce key) change answer bench shows long does =
      subst (tasks.hears runs.task)
      (sym (does.0 ∙ ap (λ found. Sealed (sealed_by found nonce key)) shows.stands.1.under.live))
      shows.stands.1.leads.hears
  user-hears (Add owner class key) change answer bench shows long does =
      subst (tasks.hears runs.task) (sym does.0) shows.stands.leads.hears
  user-hears (Remove owner class) change answer bench shows long does =
      subst (tasks.hears runs.task) (sym does.0) shows.stands.leads.hears
  user-hears (Delete item tells) change answer bench shows long does =
      subst (tasks.hears runs.task) (sym does.0) shows.stands.leads.hears
  user-hears ListCall change answer bench shows long does = absurd shows.stands
  user-hears (Read place) change answer bench shows long does =
      subst (tasks.hears runs.task) (sym does.2) (subst (λ c. ReadShows (seen_of tasks runs.task) scene place c
      → tasks.hears runs.task (Directory does.0)) (sym shows.stands.quiet)
      (λ stands. read-hears book whole runs place does.0 stands does.1) shows.stands)
  user-hears (Decrypt blob app_id text) change answer bench shows long does =
      subst (tasks.hears runs.task) (sym does.0) shows.stands.leads.hears
  user-hears Entries change answer bench shows long does = absurd shows.stands
