use Rattle.pc_trace.proofs.Covering.{latest_turn}
use Rattle.pc_trace.proofs.row.latest_of.Goals as goal

pub loop-at-preserved : goal.loop-at-preserved
loop-at-preserved c = latest_turn c.args.touches.now c.args.row.now c.requires c.loop-at.at c.loop-at-test.true c.args.access.now c.loop-at.found c.looked-found.result c.looked-found.ensures c.loop-at.invariant
