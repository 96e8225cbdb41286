use Rattle.std.proofs.Common.{sym, ap, ◌∙◌, arith}
use Rattle.vold_io.proofs.Pieces.{rest-after_piece}
use Rattle.vold_io.proofs.mem_source.MemSourceSource.read.Goals as goal

pub returns-clause-taken : goal.returns-clause-taken
returns-clause-taken c =
    sym (ap (λ s. s.rest) c.self.view_is)
    ∙ rest-after_piece _ _ _ _ _ _ c.as_slice.ensures c.copy_from_slice.ensures.after (omega arith)
