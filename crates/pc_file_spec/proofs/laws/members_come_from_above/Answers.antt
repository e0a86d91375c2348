use Rattle.pc_file_spec.proofs.Takings.{traits_have_no_bodies, bodies_are_taken, bodies_are_there}
use Rattle.pc_file_spec.proofs.laws.members_come_from_above.Goals as goal

pub returns : goal.returns
returns c = record { traits = traits_have_no_bodies; taken = bodies_are_taken; there = bodies_are_there }
