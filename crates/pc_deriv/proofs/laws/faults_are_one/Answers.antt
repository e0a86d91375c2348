use Rattle.pc_deriv.proofs.Outcome.{one_fault, no_fault}
use Rattle.pc_deriv.proofs.laws.faults_are_one.Goals as goal

pub returns-clause-one : goal.returns-clause-one
returns-clause-one c = one_fault

pub returns-clause-apart : goal.returns-clause-apart
returns-clause-apart c = no_fault
