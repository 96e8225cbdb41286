use Rattle.std.proofs.Common.{ap, ◌∙◌, subst, sym}
use Rattle.std.specs.Prelude.{Some}
use Rattle.tree_model.specs.declared.files.FileName.TheVariants.{EncryptedKey, Blob as BlobFile, Discard}
use Rattle.tree_model.specs.declared.sites.Site.TheVariants.{Temp}
use Rattle.tree_model.specs.declared.sites.LocalOp.TheVariants.{Write, RenameDir}
use Rattle.store_task.specs.declared.turns.Doing.TheVariants.{Tree}
use Rattle.store_task.specs.declared.stages.Stage.TheVariants.{Storing}
use Rattle.tree_model.specs.Sites.{site_of}
use Rattle.store_task.specs.Task.{IsTask}
use Rattle.store_task.specs.Turns.{StoreTurns}
use Rattle.store_task.proofs.ShownTurns.{ok-turns, absent-turn, version-turn, discard-turn, named-turn}
use Rattle.store_task.proofs.ShownTurns.{settled-turn, blob-turn, unnamed-turn}
use Rattle.store_task.proofs.task.StoreTask.store.Goals as goal

pub returns-in-Absent-clause-turn : goal.returns-in-Absent-clause-turn
returns-in-Absent-clause-turn c =
    absent-turn c.args.self.now c.args.blob c.args.sealed.now (subst IsTask c.self.view_is c.self.invariant)
    (c.requires ∙ ap (Storing c.args.blob c.args.sealed.now) c.in-Absent.is)

pub returns-in-Made-clause-turn : goal.returns-in-Made-clause-turn
returns-in-Made-clause-turn c =
    ok-turns c.args.self.now _ c.write.result c.write.ensures
    (version-turn c.args.self.now c.args.blob c.args.sealed.now (subst IsTask c.self.view_is c.self.invariant)
    (c.requires ∙ ap (Storing c.args.blob c.args.sealed.now) c.in-Made.is))

pub returns-in-Versioned-clause-turn : goal.returns-in-Versioned-clause-turn
returns-in-Versioned-clause-turn c =
    ok-turns c.args.self.now _ c.write-in-Versioned.result c.write-in-Versioned.ensures
    (subst (λ bytes. StoreTurns c.args.self.now (Some (Tree (Write Temp Discard bytes))))
    (sym (c.as_slice.ensures ∙ ap (λ task. task.spec.discard) c.self.view_is))
    (discard-turn c.args.self.now c.args.blob c.args.sealed.now (subst IsTask c.self.view_is c.self.invariant)
    (c.requires ∙ ap (Storing c.args.blob c.args.sealed.now) c.in-Versioned.is)))

pub returns-in-Some-clause-turn : goal.returns-in-Some-clause-turn
returns-in-Some-clause-turn c =
    ok-turns c.args.self.now _ c.write-in-Some.result c.write-in-Some.ensures
    (subst (λ bytes. StoreTurns c.args.self.now (Some (Tree (Write Temp BlobFile bytes))))
    (sym c.bytes.ensures)
    (blob-turn c.args.self.now c.args.sealed.now (subst IsTask c.self.view_is c.self.invariant) c.in-Some.blob
    (c.requires ∙ ap (Storing c.args.blob c.args.sealed.now) c.in-Discardable.is
    ∙ ap (λ blob. Storing blob c.args.sealed.now _) c.in-Some.is)))

pub returns-in-None-clause-turn : goal.returns-in-None-clause-turn
returns-in-None-clause-turn c =
    ok-turns c.args.self.now _ c.write-in-None.result c.write-in-None.ensures
    (subst (λ bytes. StoreTurns c.args.self.now (Some (Tree (Write Temp EncryptedKey bytes))))
    (sym c.as_slice-in-None.ensures)
    (unnamed-turn c.args.self.now c.args.sealed.now (subst IsTask c.self.view_is c.self.invariant)
    (c.requires ∙ ap (Storing c.args.blob c.args.sealed.now) c.in-Discardable.is
    ∙ ap (λ blob. Storing blob c.args.sealed.now _) c.in-None.is)))

pub returns-in-Named-clause-turn : goal.returns-in-Named-clause-turn
returns-in-Named-clause-turn c =
    ok-turns c.args.self.now _ c.write-in-Named.result c.write-in-Named.ensures
    (subst (λ bytes. StoreTurns c.args.self.now (Some (Tree (Write Temp EncryptedKey bytes))))
    (sym c.as_slice-in-Named.ensures)
    (named-turn c.args.self.now c.args.blob c.args.sealed.now (subst IsTask c.self.view_is c.self.invariant)
    (c.requires ∙ ap (Storing c.args.blob c.args.sealed.now) c.in-Named.is)))

pub returns-in-Settled-clause-turn : goal.returns-in-Settled-clause-turn
returns-in-Settled-clause-turn c =
    subst (λ site. StoreTurns c.args.self.now (Some (Tree (RenameDir Temp site))))
    (sym (c.of-target.ensures ∙ ap (λ task. site_of task.spec.target) c.self.view_is))
    (settled-turn c.args.self.now c.args.blob c.args.sealed.now (subst IsTask c.self.view_is c.self.invariant)
    (c.requires ∙ ap (Storing c.args.blob c.args.sealed.now) c.in-Settled.is))
