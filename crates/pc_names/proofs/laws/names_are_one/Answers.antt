use Rattle.pc_names.proofs.Ones.{one_closing, one_fault, not_both}
use Rattle.pc_names.proofs.laws.names_are_one.Goals as goal

pub returns-clause-closing : goal.returns-clause-closing
returns-clause-closing c = one_closing

pub returns-clause-fault : goal.returns-clause-fault
returns-clause-fault c = one_fault

pub returns-clause-apart : goal.returns-clause-apart
returns-clause-apart c = not_both
