use Rattle.pc_text_order.proofs.{Bodies.bodies_ascend, Declarations.declarations_ascend}
use Rattle.pc_text_order.proofs.laws.names_are_in_order.Goals as goal

pub returns : goal.returns
returns c = record { bodies = bodies_ascend; declarations = declarations_ascend }
