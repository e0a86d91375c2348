use Rattle.pc_elab.proofs.Wholes.{core_formed}
use Rattle.pc_elab.proofs.laws.cores_are_formed.Goals as goal

pub returns : goal.returns
returns c file core spelled stands =
    let small = c.cores_are_small.ensures file core stands in
    (core_formed c.names_are_in_order.ensures.bodies c.cores_are_formed.ensures file core spelled stands, small.0, small.1)
