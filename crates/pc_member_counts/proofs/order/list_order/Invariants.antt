use Rattle.std.proofs.Common.{◌≡◌, ◌++◌, ◌-◌, map, length}
use Rattle.pc_tree.specs.View.{entity_view}
use Rattle.pc_member_counts.specs.Orders.{of_ranks, ordered}
use Rattle.pc_member_counts.proofs.order.list_order.Given as goal

abbrev pub invariant-loop-rank : goal.invariant-loop-rank
invariant-loop-rank l =
    ordered l.above (map entity_view l.all) ≡ l.order ++ of_ranks l.above (map entity_view l.all) l.rank (length l.all - l.rank)
