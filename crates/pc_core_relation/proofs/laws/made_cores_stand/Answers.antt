use Rattle.pc_core_relation.proofs.Files.{made_cores_stand}
use Rattle.pc_core_relation.proofs.laws.made_cores_stand.Goals as goal

pub returns : goal.returns
returns c = made_cores_stand
