use Rattle.std.proofs.Common.{◌∷◌, ◌++◌, [], take}
use Rattle.pc_sched_lines.specs.Rows.{RowsOf}
use Rattle.pc_sched_lines.proofs.rows.rows_from.Given as goal

abbrev pub invariant-loop-actor : goal.invariant-loop-actor
invariant-loop-actor l = RowsOf (l.first ∷ take l.actor-index l.rest) (l.rows ++ l.row ∷ [])
