use Rattle.pc_file_spec.proofs.Formation.{stands_is_formed}
use Rattle.pc_file_spec.proofs.laws.cores_are_formed.Goals as goal

pub returns : goal.returns
returns c = stands_is_formed
