use Rattle.pc_choose.proofs.Changing.{few_change}
use Rattle.pc_choose.proofs.laws.few_change.Goals as goal

pub returns : goal.returns
returns c = few_change
