use Rattle.pc_file_spec.proofs.SmallCores.{first_stands, second_stands, third_is_refused, fourth_stands}
use Rattle.pc_file_spec.proofs.laws.small_files_stand.Goals as goal

pub returns : goal.returns
returns c = record { first = first_stands; second = second_stands; third = third_is_refused; fourth = fourth_stands }
