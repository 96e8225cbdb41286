use Rattle.std.proofs.lemmas.Option.{IfSome_then}
use Rattle.vold_run.proofs.Came.{came-accepted}
use Rattle.vold_run.proofs.runs.run.Goals as goal

pub returns-in-Ok-clause-refused : goal.returns-in-Ok-clause-refused
returns-in-Ok-clause-refused g c = λ asked steady.
    IfSome_then (g.S.Source.rest c.args.source.now) (came-accepted _ _ _ c.in-Ok.ensures.script.1)
    (λ told fine refused. absurd (fine refused))
