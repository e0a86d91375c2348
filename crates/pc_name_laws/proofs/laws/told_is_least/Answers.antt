use Rattle.pc_name_laws.proofs.{Joined.fault_is_told, Unknowns.{told_is_least, told_of_text_is_least}}
use Rattle.pc_name_laws.proofs.laws.told_is_least.Goals as goal

pub returns : goal.returns
returns c = record { tokens = told_is_least; text = told_of_text_is_least; some = fault_is_told }
