use Rattle.pc_sends.proofs.Tabled.{RowsTo}
use Rattle.pc_sends.proofs.rows.list_rows.Given as goal

abbrev pub invariant-loop-entity : goal.invariant-loop-entity
invariant-loop-entity l = RowsTo l.noted.core.now l.noted.entities.now l.entity l.rows
