use Rattle.pc_body_spec.proofs.Meanings.{nothing_missing}
use Rattle.pc_body_spec.proofs.laws.names_are_there.Goals as goal

pub returns : goal.returns
returns c = nothing_missing
