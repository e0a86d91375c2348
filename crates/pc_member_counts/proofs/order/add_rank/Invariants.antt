use Rattle.std.proofs.Common.{◌≡◌, ◌++◌, map, drop}
use Rattle.pc_tree.specs.View.{entity_view}
use Rattle.pc_member_counts.specs.Orders.{of_rank}
use Rattle.pc_member_counts.proofs.order.add_rank.Given as goal

abbrev pub invariant-loop-place : goal.invariant-loop-place
invariant-loop-place l =
    l.fn.order ++ of_rank l.above l.rank 0 (map entity_view l.all) ≡ l.order ++ of_rank l.above l.rank l.place (map entity_view (drop l.place l.all))
