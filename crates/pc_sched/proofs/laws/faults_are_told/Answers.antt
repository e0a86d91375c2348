use Rattle.pc_sched.proofs.Together.{told, never_both, fault_one}
use Rattle.pc_sched.proofs.laws.faults_are_told.Goals as goal

pub returns : goal.returns
returns c = record { either = told; not_both = never_both; one = fault_one }
