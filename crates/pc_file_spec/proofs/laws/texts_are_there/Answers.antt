use Rattle.pc_file_spec.proofs.Tables.{texts_there}
use Rattle.pc_file_spec.proofs.laws.texts_are_there.Goals as goal

pub returns : goal.returns
returns c = texts_there
