use Rattle.pc_body_spec.proofs.Types.{written_types_are_there}
use Rattle.pc_body_spec.proofs.laws.written_types_are_there.Goals as goal

pub returns : goal.returns
returns c = written_types_are_there
