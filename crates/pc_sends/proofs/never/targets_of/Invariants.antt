use Rattle.std.proofs.Common.{[]}
use Rattle.pc_sends.specs.Growth.{Grown, TurnsBelow}
use Rattle.pc_sends.proofs.{Grows.At, Tabled.TargetOf}
use Rattle.pc_sends.proofs.never.targets_of.Given as goal

abbrev pub invariant-loop-row : goal.invariant-loop-row
invariant-loop-row l = Grown (TurnsBelow (At TargetOf l.rows) 0 l.row-index) [] l.targets
