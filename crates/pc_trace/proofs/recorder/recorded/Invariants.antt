use Rattle.std.proofs.Common.{◌≡◌}
use Rattle.pc_trace.specs.Reached.{Reached}
use Rattle.pc_trace.proofs.recorder.recorded.Given as goal

abbrev pub invariant-loop-at : goal.invariant-loop-at
invariant-loop-at l = record { reached : Reached l.core l.list l.at l.machine.configuration l.seats l.touches; core : l.machine.core ≡ l.core }
