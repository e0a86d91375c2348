use Rattle.pc_core_relation.proofs.Ones.{standing_cores_are_made, standing_cores_are_one}
use Rattle.pc_core_relation.proofs.laws.standing_cores_are_made.Goals as goal

pub returns : goal.returns
returns c = record { made = standing_cores_are_made; one = standing_cores_are_one }
