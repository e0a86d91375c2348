use Rattle.pc_trace.specs.Covers.{LatestOf}
use Rattle.pc_trace.proofs.row.latest_of.Given as goal

abbrev pub invariant-loop-at : goal.invariant-loop-at
invariant-loop-at l = LatestOf l.touches l.row l.at l.access l.found
