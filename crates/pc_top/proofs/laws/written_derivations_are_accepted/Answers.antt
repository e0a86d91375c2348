use Rattle.pc_top.proofs.Written.{written_accepted}
use Rattle.pc_top.proofs.laws.written_derivations_are_accepted.Goals as goal

pub returns : goal.returns
returns c = written_accepted
