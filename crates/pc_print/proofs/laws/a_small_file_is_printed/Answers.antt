use Rattle.pc_print.proofs.Examples.{main_is_printed}
use Rattle.pc_print.proofs.laws.a_small_file_is_printed.Goals as goal

pub returns : goal.returns
returns c = main_is_printed
