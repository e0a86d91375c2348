use Rattle.pc_body_spec.proofs.Nodes.{nodes_have_children}
use Rattle.pc_body_spec.proofs.laws.nodes_have_children.Goals as goal

pub returns : goal.returns
returns c = nodes_have_children
