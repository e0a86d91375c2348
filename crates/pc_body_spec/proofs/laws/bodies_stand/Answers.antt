use Rattle.pc_body_spec.proofs.Bodies.{bodies_stand, added_bodies_stand}
use Rattle.pc_body_spec.proofs.laws.bodies_stand.Goals as goal

pub returns : goal.returns
returns c = record { written = bodies_stand; added = added_bodies_stand }
