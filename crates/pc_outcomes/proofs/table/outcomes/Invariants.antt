use Rattle.pc_outcomes.specs.Under.{Under}
use Rattle.pc_outcomes.proofs.table.outcomes.Given as goal

abbrev pub invariant-seeds : goal.invariant-seeds
invariant-seeds l = Under l.core l.seed l.entries l.totals
