use Rattle.pc_trace.specs.Covers.{KeptOf}
use Rattle.pc_trace.proofs.row.kept_of.Given as goal

abbrev pub invariant-loop-at : goal.invariant-loop-at
invariant-loop-at l = KeptOf l.touches l.row l.at l.access l.new
