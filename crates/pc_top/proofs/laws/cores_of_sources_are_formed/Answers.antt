use Rattle.pc_top.proofs.Deriving.{core_formed}
use Rattle.pc_top.proofs.laws.cores_of_sources_are_formed.Goals as goal

pub returns : goal.returns
returns c = core_formed c.tokens_are_in_order.ensures.ascend c.cores_are_formed.ensures
