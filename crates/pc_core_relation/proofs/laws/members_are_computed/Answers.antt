use Rattle.pc_core_relation.proofs.Inherited.{members_computed}
use Rattle.pc_core_relation.proofs.laws.members_are_computed.Goals as goal

pub returns : goal.returns
returns c = members_computed
