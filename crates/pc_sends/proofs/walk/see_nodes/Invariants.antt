use Rattle.pc_sends.specs.{Growth.{Grown, TurnsBelow}, Found.CallsAreFound}
use Rattle.pc_sends.proofs.{Grows.At, Walking.NodeAims}
use Rattle.pc_sends.proofs.walk.see_nodes.Given as goal

abbrev pub invariant-loop-node : goal.invariant-loop-node
invariant-loop-node l = record {
  grown : Grown (TurnsBelow (At (NodeAims l.noted.core.now l.noted.entities.now) l.nodes) 0 l.node-index) l.fn.walk.found l.walk.found;
  known : CallsAreFound l.noted.core.now l.walk.calls l.walk.found;
}
