use Rattle.pc_print.proofs.ReadAgain.{printing_is_read}
use Rattle.pc_print.proofs.laws.printed_files_are_read.Goals as goal

pub returns : goal.returns
returns c = printing_is_read
