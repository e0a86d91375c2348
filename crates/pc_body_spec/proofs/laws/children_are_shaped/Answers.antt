use Rattle.pc_body_spec.proofs.Shapes.{shaped}
use Rattle.pc_body_spec.proofs.laws.children_are_shaped.Goals as goal

pub returns : goal.returns
returns c = shaped
