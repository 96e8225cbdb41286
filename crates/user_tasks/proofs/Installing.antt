-- Once its user is there, each turn of a create shows what it has to: the last sync, the two keys that come into the
-- ring, and the reply.
use Rattle.std.proofs.Common.{◌≡◌, ℕ, [], ◌∷◌, refl, sym, ◌∙◌, subst, arith, inr}
use Rattle.std.specs.Prelude.{Some, None}
use Rattle.tree_model.specs.declared.places.Class.TheVariants.{De as ForDe, Ce as ForCe}
use Rattle.journal_model.specs.declared.commands.Command.TheVariants.{Create as CreateCommand}
use Rattle.journal_model.specs.declared.commands.Reply.TheVariants.{Done as DoneReply}
use Rattle.journal_model.specs.Machine.{Running as Began, DidWork, Installs}
use Rattle.user_world.specs.declared.changes.LocalChange.TheVariants.{Born}
use Rattle.user_world.specs.Facts.{Knows, Logged, Holds}
use Rattle.user_world.proofs.Facts.{later-facts}
use Rattle.task_turns.specs.declared.calls.Answer.TheVariants.{Done, Installed}
use Rattle.task_turns.specs.declared.calls.Call.TheVariants.{Sync, Add}
use Rattle.task_turns.specs.declared.next.Next.{Next}
use Rattle.task_turns.specs.declared.next.Next.TheVariants.{Call as CallNext, Reply as ReplyNext}
use Rattle.task_turns.specs.Turns.{evidence_in}
use Rattle.user_tasks.specs.declared.creates.Stage.{Stage}
use Rattle.user_tasks.specs.declared.creates.Stage.TheVariants.{Created, InstallingDe, InstallingCe, Ended}
use Rattle.user_tasks.specs.declared.looks.Looks.{Looks}
use Rattle.user_tasks.specs.Create.{Creating, IsCreating, IsCreate, new_record, changes_at, creates}
use Rattle.user_tasks.specs.Tasks.{UserTurns}
use Rattle.user_tasks.proofs.Rights.{gave-none}
use Rattle.user_tasks.proofs.CreateTurns.{at-stage}
use Rattle.user_tasks.proofs.Leading.{leads-to}
use Rattle.user_tasks.specs.declared.tasks.UserTask.TheVariants.{Create as OfCreate}

module _ (create : Creating) where
  abbrev staged : Stage → Creating
  staged stage = record create { stage = stage }

  -- a stage without a further change
  still-serves : (stage then : Stage)
      → changes_at stage create.user create.birth ≡ changes_at then create.user create.birth
      → {boot : ℕ} {began : Began} → IsCreate create.user create.birth stage boot began
      → IsCreate create.user create.birth then boot began
  still-serves stage then same serves =
      record { command = serves.command; born = serves.born; changes = serves.changes ∙ same }

module _ (create : Creating) (is : IsCreating create) (looks : Looks) where
  -- the sync behind the last rename
  pub sync-turn : (next : Next) → create.stage ≡ Created → next ≡ CallNext Sync None
      → UserTurns (OfCreate create) looks next
  sync-turn next here named = subst (UserTurns (OfCreate create) looks) (sym named)
      (at-stage create is looks Created (CallNext Sync None) here
      (λ scene sound clear rests.
      let lasting = later-facts (Logged (Born create.birth) ∷ Knows (Some (new_record create.birth)) ∷ [])
      scene.share.own _ (inr refl) (rests.facts.0, (rests.facts.1.0, tt)) in record {
        stands = record {
          quiet = refl;
          held = refl;
          leads = leads-to creates (staged create Created) Done refl refl refl (record {
            facts = (
              lasting.0,
              (lasting.1.0, (rests.facts.1.1.0, (rests.facts.1.1.1.0, (refl, tt)))),
            );
            known = (tt, (tt, (tt, (tt, (tt, tt)))));
            serves = still-serves create Created InstallingDe refl rests.serves;
            same_user = refl;
            falls = omega arith;
            makes = omega arith;
            draws = omega arith;
          });
        };
        may = tt;
        lasts = omega arith;
      }))

  -- the device key comes into the ring
  pub de-installed : (next : Next) → create.stage ≡ InstallingDe
      → next ≡ CallNext (Add create.user ForDe create.de.spec.key) None
      → UserTurns (OfCreate create) looks next
  de-installed next here named = subst (UserTurns (OfCreate create) looks) (sym named)
      (at-stage create is looks InstallingDe (CallNext (Add create.user ForDe create.de.spec.key) None) here
      (λ scene sound clear rests. record {
        stands = record {
          quiet = refl;
          mine = refl;
          given = record {
            known = new_record create.birth;
            there = rests.facts.1.0;
            given = λ sure. rests.facts.1.1.0;
          };
          may = subst (λ command. Installs command create.user ForDe) (sym rests.serves.command) refl;
          right = gave-none scene create.user (CreateCommand create.user) rests.serves.command refl;
          held = refl;
          leads = leads-to creates (staged create InstallingDe) Installed refl refl refl (record {
            facts = (
              rests.facts.0,
              (
                rests.facts.1.0,
                (rests.facts.1.1.0, (rests.facts.1.1.1.0, (rests.facts.1.1.1.1.0, (refl, tt)))),
              ),
            );
            known = (tt, (tt, (tt, (tt, (tt, (tt, tt))))));
            serves = still-serves create InstallingDe InstallingCe refl rests.serves;
            same_user = refl;
            falls = omega arith;
            makes = omega arith;
            draws = omega arith;
          });
        };
        may = tt;
        lasts = omega arith;
      }))

  -- and then the credential key
  pub ce-installed : (next : Next) → create.stage ≡ InstallingCe
      → next ≡ CallNext (Add create.user ForCe create.ce.spec.key) None
      → UserTurns (OfCreate create) looks next
  ce-installed next here named = subst (UserTurns (OfCreate create) looks) (sym named)
      (at-stage create is looks InstallingCe (CallNext (Add create.user ForCe create.ce.spec.key) None) here
      (λ scene sound clear rests. record {
        stands = record {
          quiet = refl;
          mine = refl;
          given = record {
            known = new_record create.birth;
            there = rests.facts.1.0;
            given = λ sure. rests.facts.1.1.1.0;
          };
          may = subst (λ command. Installs command create.user ForCe) (sym rests.serves.command) refl;
          right = gave-none scene create.user (CreateCommand create.user) rests.serves.command refl;
          held = refl;
          leads = leads-to creates (staged create InstallingCe) Installed refl refl refl (record {
            facts = (rests.facts.0, (rests.facts.1.1.1.1.0, (rests.facts.1.1.1.1.1.0, (refl, tt))));
            known = (tt, (tt, (tt, (tt, tt))));
            serves = still-serves create InstallingCe Ended refl rests.serves;
            same_user = refl;
            falls = omega arith;
            makes = omega arith;
            draws = omega arith;
          });
        };
        may = tt;
        lasts = omega arith;
      }))

  -- both keys are usable when it is told so
  pub reply-turn : create.stage ≡ Ended → UserTurns (OfCreate create) looks (ReplyNext DoneReply)
  reply-turn here = at-stage create is looks Ended (ReplyNext DoneReply) here
      (λ scene sound clear rests. record {
        outcome = refl;
        may = subst (DidWork (evidence_in create.user scene.share) scene.boot scene.began)
            (sym rests.serves.command) (
              (refl, subst (λ birth. Holds (Logged (Born birth)) scene.share.own) rests.serves.born rests.facts.0),
              (refl, rests.facts.1.0),
              (refl, rests.facts.1.1.0),
              (refl, rests.facts.1.1.1.0),
            );
        right = λ opened. gave-none scene create.user (CreateCommand create.user) rests.serves.command refl;
        gone = λ gone. cc;
        lasts = omega arith;
        held = refl;
      })
