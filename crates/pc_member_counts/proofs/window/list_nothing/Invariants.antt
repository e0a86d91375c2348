use Rattle.std.proofs.Common.{◌≡◌, ◌≤◌, ◌-◌, length}
use Rattle.std.specs.Prelude.{replicate}
use Rattle.pc_member_counts.specs.Blocks.{nothing}
use Rattle.pc_member_counts.proofs.window.list_nothing.Given as goal

abbrev pub invariant-loop-table : goal.invariant-loop-table
invariant-loop-table l = (l.table ≡ replicate (length l.table) nothing) × (length l.table ≤ l.count)

abbrev pub decreases-loop-table : goal.decreases-loop-table
decreases-loop-table l = l.count - length l.table
