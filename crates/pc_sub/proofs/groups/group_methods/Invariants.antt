use Rattle.pc_sub.specs.Groups.{Grouped}
use Rattle.pc_sub.proofs.groups.group_methods.Given as goal

abbrev pub invariant-loop-number : goal.invariant-loop-number
invariant-loop-number l = Grouped l.core l.number l.groups
