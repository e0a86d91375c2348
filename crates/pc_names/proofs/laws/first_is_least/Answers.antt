use Rattle.pc_names.proofs.Leasts.{first_is_least}
use Rattle.pc_names.proofs.laws.first_is_least.Goals as goal

pub returns : goal.returns
returns c = first_is_least
