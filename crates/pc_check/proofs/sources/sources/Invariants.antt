use Rattle.std.proofs.Common.{◌≤◌, length}
use Rattle.pc_check.specs.Sources.{Filled}
use Rattle.pc_check.proofs.sources.sources.Given as goal

abbrev pub invariant-loop-left : goal.invariant-loop-left
invariant-loop-left l = record { filled : Filled l.core l.sources.items l.left; within : l.left ≤ length l.core.nodes }

abbrev pub decreases-loop-left : goal.decreases-loop-left
decreases-loop-left l = l.left
