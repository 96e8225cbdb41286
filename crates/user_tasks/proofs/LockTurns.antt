-- Each turn of a lock shows what it has to.
use Rattle.std.proofs.Common.{◌≡◌, refl, sym, subst, arith}
use Rattle.tree_model.specs.declared.places.Class.TheVariants.{Ce as ForCe}
use Rattle.journal_model.specs.declared.commands.Command.TheVariants.{Lock as LockCommand}
use Rattle.journal_model.specs.declared.commands.Reply.TheVariants.{Done as DoneReply}
use Rattle.journal_model.specs.Machine.{DidWork, Evicts}
use Rattle.task_turns.specs.declared.calls.Call.TheVariants.{Remove}
use Rattle.task_turns.specs.declared.next.Next.{Next}
use Rattle.task_turns.specs.declared.next.Next.TheVariants.{Reply as ReplyNext}
use Rattle.task_turns.specs.Turns.{evidence_in, Asks, seen_of}
use Rattle.user_tasks.specs.declared.looks.Looks.{Looks}
use Rattle.user_tasks.specs.declared.locks.Lock.{Lock}
use Rattle.user_tasks.specs.declared.locks.LockStage.{LockStage}
use Rattle.user_tasks.specs.declared.locks.LockStage.TheVariants.{Evicting, Ended}
use Rattle.user_tasks.specs.declared.tasks.UserTask.TheVariants.{Lock as OfLock}
use Rattle.user_tasks.specs.Tasks.{UserTurns, tasks}
use Rattle.user_tasks.specs.Turns.{quiet_turn}
use Rattle.user_tasks.proofs.Rights.{gave-none}

module _ (lock : Lock) where
  abbrev staged : LockStage → Lock
  staged stage = record lock { stage = stage }

  -- the key leaves the ring
  pub evict-turn : (next : Next) → lock.stage ≡ Evicting → next ≡ quiet_turn (Remove lock.user ForCe)
      → (looks : Looks) → UserTurns (OfLock lock) looks next
  evict-turn next here named looks =
      subst (UserTurns (OfLock lock) looks) (sym named)
      (subst (λ stage. UserTurns (OfLock (staged stage)) looks (quiet_turn (Remove lock.user ForCe))) (sym here)
      (λ scene sound clear rests. record {
        stands = record {
          quiet = refl;
          mine = refl;
          may = subst (λ command. Evicts command lock.user ForCe) (sym rests.serves.command) (refl, refl);
          held = refl;
          leads = record {
            hears = refl;
            facts = (refl, tt);
            known = (tt, tt);
            serves = record { command = rests.serves.command };
            same_user = refl;
            falls = omega arith;
            makes = omega arith;
            draws = omega arith;
          };
        };
        may = tt;
        lasts = omega arith;
      }))

  -- and then it is told so
  pub reply-turn : lock.stage ≡ Ended → (looks : Looks) → UserTurns (OfLock lock) looks (ReplyNext DoneReply)
  reply-turn here looks = subst (λ stage. UserTurns (OfLock (staged stage)) looks (ReplyNext DoneReply)) (sym here)
      (λ scene sound clear rests. record {
        outcome = refl;
        may = subst (DidWork (evidence_in lock.user scene.share) scene.boot scene.began) (sym rests.serves.command)
            (refl, rests.facts.0);
        right = λ opened. gave-none scene lock.user (LockCommand lock.user) rests.serves.command refl;
        gone = λ gone. cc;
        lasts = omega arith;
        held = refl;
      })

  -- it asks for no job
  pub asks-none : (next : Next) → next ≡ quiet_turn (Remove lock.user ForCe)
      → Asks (seen_of tasks (OfLock lock)) next
  asks-none next named = subst (Asks (seen_of tasks (OfLock lock))) (sym named) tt
