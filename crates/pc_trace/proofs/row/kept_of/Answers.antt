use Rattle.pc_trace.proofs.Covering.{kept_turn}
use Rattle.pc_trace.proofs.row.kept_of.Goals as goal

pub loop-at-preserved : goal.loop-at-preserved
loop-at-preserved c = kept_turn c.args.touches.now c.args.row.now c.requires c.loop-at.at c.loop-at-test.true c.args.access.now c.loop-at.new c.keep.new.new c.in_ok-keep.ensures c.loop-at.invariant
