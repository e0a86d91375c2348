use Rattle.pc_file_spec.proofs.Ones.{core_or_fault, one_core, one_fault, not_both}
use Rattle.pc_file_spec.proofs.laws.cores_are_one.Goals as goal

pub returns : goal.returns
returns c = record { some = core_or_fault; core = one_core; fault = one_fault; apart = not_both }
