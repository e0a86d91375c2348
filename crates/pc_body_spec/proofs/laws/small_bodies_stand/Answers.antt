use Rattle.pc_body_spec.proofs.Examples.{first_stands, second_stands, third_stands}
use Rattle.pc_body_spec.proofs.laws.small_bodies_stand.Goals as goal

pub returns : goal.returns
returns c = record { first = first_stands; second = second_stands; third = third_stands }
