use Rattle.pc_check.proofs.OneFault.{one_node, one_constructor, one_kind}
use Rattle.pc_check.proofs.laws.faults_are_one.Goals as goal

pub returns-clause-node : goal.returns-clause-node
returns-clause-node c = one_node

pub returns-clause-constructor : goal.returns-clause-constructor
returns-clause-constructor c = one_constructor

pub returns-clause-kind : goal.returns-clause-kind
returns-clause-kind c = one_kind
