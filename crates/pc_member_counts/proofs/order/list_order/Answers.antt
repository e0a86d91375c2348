use Rattle.std.proofs.Common.{arith, map, length}
use Rattle.pc_tree.specs.View.{entity_view}
use Rattle.pc_member_counts.specs.Orders.{ordered}
use Rattle.pc_member_counts.proofs.Fills.{rank_turn}
use Rattle.pc_member_counts.proofs.order.list_order.Goals as goal

pub loop-rank-preserved : goal.loop-rank-preserved
loop-rank-preserved c =
    rank_turn c.args.above.now (map entity_view c.args.all.now) (ordered c.args.above.now (map entity_view c.args.all.now)) c.loop-rank.order c.add_rank.new.order c.loop-rank.rank (length c.args.all.now) (omega (arith, c.loop-rank-test.true))
    c.loop-rank.invariant c.in_ok-add_rank.ensures
