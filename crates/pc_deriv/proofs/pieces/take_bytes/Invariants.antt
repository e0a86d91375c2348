use Rattle.std.proofs.Common.{length, ◌-◌}
use Rattle.pc_deriv.specs.LineState.{taken_of, Sound}
use Rattle.pc_deriv.proofs.Feeding.{Quiet}
use Rattle.pc_deriv.proofs.pieces.take_bytes.Given as goal

abbrev pub invariant-loop-stop : goal.invariant-loop-stop
invariant-loop-stop l = Sound l.state × Quiet (taken_of l.initial.state) l.piece l.at l.stop (taken_of l.state)

abbrev pub decreases-loop-stop : goal.decreases-loop-stop
decreases-loop-stop l = length l.piece - l.stop
