use Rattle.std.proofs.Common.{◌≡◌, ◌≤◌, ◌-◌, length}
use Rattle.std.specs.Prelude.{replicate}
use Rattle.pc_member_counts.proofs.counting.list_zeros.Given as goal

abbrev pub invariant-loop-counts : goal.invariant-loop-counts
invariant-loop-counts l = (l.counts ≡ replicate (length l.counts) 0) × (length l.counts ≤ l.count)

abbrev pub decreases-loop-counts : goal.decreases-loop-counts
decreases-loop-counts l = l.count - length l.counts
