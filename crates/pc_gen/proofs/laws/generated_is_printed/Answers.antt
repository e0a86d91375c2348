use Rattle.pc_gen.proofs.Printed.{program_printed}
use Rattle.pc_gen.proofs.laws.generated_is_printed.Goals as goal

pub returns : goal.returns
returns c = program_printed
