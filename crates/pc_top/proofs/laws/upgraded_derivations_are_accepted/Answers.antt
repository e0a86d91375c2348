use Rattle.pc_top.proofs.Written.{upgraded_accepted}
use Rattle.pc_top.proofs.laws.upgraded_derivations_are_accepted.Goals as goal

pub returns : goal.returns
returns c = upgraded_accepted
