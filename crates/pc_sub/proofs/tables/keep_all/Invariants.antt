use Rattle.pc_sub.specs.Tables.{Kept}
use Rattle.pc_sub.proofs.Looked.{HasTo}
use Rattle.pc_sub.proofs.tables.keep_all.Given as goal

abbrev pub invariant-loop-entity : goal.invariant-loop-entity
invariant-loop-entity l = Kept (λ b. HasTo l.entities l.entity-index b) l.other l.fn.sets l.sets
