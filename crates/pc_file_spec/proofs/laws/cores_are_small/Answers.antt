use Rattle.pc_file_spec.proofs.Formation.{cores_small}
use Rattle.pc_file_spec.proofs.laws.cores_are_small.Goals as goal

pub returns : goal.returns
returns c = cores_small
