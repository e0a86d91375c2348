use Rattle.std.proofs.Common.{length, ◌-◌}
use Rattle.pc_sched.proofs.Reached.{Sofar}
use Rattle.pc_sched.proofs.reading.read_all.Given as goal

abbrev pub invariant-loop-at : goal.invariant-loop-at
invariant-loop-at l = Sofar l.text l.at l.total l.turns

abbrev pub decreases-loop-at : goal.decreases-loop-at
decreases-loop-at l = length l.text - l.at
