use Rattle.std.proofs.Common.{◌≡◌, ◌++◌, drop}
use Rattle.pc_places.specs.Text.{nodes_text}
use Rattle.pc_places.proofs.text.push_nodes.Given as goal

abbrev pub invariant-loop-node : goal.invariant-loop-node
invariant-loop-node l = l.text.items ++ nodes_text l.core (drop l.node-index l.core.nodes) ≡ l.initial.text.items ++ nodes_text l.core l.core.nodes
