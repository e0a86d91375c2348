use Rattle.std.proofs.Common.{◌+◌, ap}
use Rattle.pc_judge.proofs.Exact.{before_next, before_seen}
use Rattle.pc_judge.proofs.nodes.judge_nodes.Goals as goal

pub loop-node-preserved : goal.loop-node-preserved
loop-node-preserved c = record { passed = before_next c.args.core.now c.args.ann.now c.loop-node.number c.loop-node.invariant.passed c.in-None.ensures; at = ap (λ n. n + 1) c.loop-node.invariant.at }

pub returns : goal.returns
returns c = before_seen c.args.core.now c.args.ann.now c.nodes-node-items.result.now c.loop-node.number c.loop-node.node-index c.formed.ensures c.nodes-node-items.ensures c.loop-node-test.false c.loop-node.invariant.at c.loop-node.auto.node-index-end c.loop-node.invariant.passed
