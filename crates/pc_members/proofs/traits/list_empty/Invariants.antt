use Rattle.std.proofs.Common.{◌≤◌, ◌-◌, length}
use Rattle.pc_members.proofs.traits.list_empty.Given as goal

abbrev pub invariant-loop-alloc : goal.invariant-loop-alloc
invariant-loop-alloc l = length l.table ≤ l.count

abbrev pub decreases-loop-alloc : goal.decreases-loop-alloc
decreases-loop-alloc l = l.count - length l.table
