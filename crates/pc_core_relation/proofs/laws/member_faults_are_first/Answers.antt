use Rattle.pc_core_relation.proofs.MemberFaults.{member_faults_are_first}
use Rattle.pc_core_relation.proofs.laws.member_faults_are_first.Goals as goal

pub returns : goal.returns
returns c = member_faults_are_first
