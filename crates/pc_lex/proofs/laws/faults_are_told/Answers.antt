use Rattle.pc_lex.proofs.{OneFault.fault_one, Together.{told, never_both, no_list}}
use Rattle.pc_lex.proofs.laws.faults_are_told.Goals as goal

pub returns : goal.returns
returns c = record { either = told; not_both = never_both; no_list = no_list; one = fault_one }
