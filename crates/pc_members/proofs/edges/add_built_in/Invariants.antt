use Rattle.std.proofs.Common.{◌≡◌, ◌-◌, ◌≤◌, [], length}
use Rattle.std.specs.Prelude.{replicate}
use Rattle.pc_tree.specs.Kinds.{first_own}
use Rattle.pc_members.proofs.edges.add_built_in.Given as goal

abbrev pub invariant-loop-alloc : goal.invariant-loop-alloc
invariant-loop-alloc l = (l.edges ≡ replicate (length l.edges) []) × (length l.edges ≤ first_own)

abbrev pub decreases-loop-alloc : goal.decreases-loop-alloc
decreases-loop-alloc l = first_own - length l.edges
