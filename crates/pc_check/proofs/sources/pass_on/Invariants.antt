use Rattle.std.proofs.Common.{◌+◌}
use Rattle.pc_check.specs.Sources.{PartFilled}
use Rattle.pc_check.proofs.sources.pass_on.Given as goal

abbrev pub invariant-loop-index : goal.invariant-loop-index
invariant-loop-index l = PartFilled l.core l.sources (l.number + 1) l.node l.index
