use Rattle.pc_types.proofs.Sound.{accepted_never_lacks}
use Rattle.pc_types.proofs.laws.accepted_never_lacks.Goals as goal

pub returns : goal.returns
returns c = accepted_never_lacks
