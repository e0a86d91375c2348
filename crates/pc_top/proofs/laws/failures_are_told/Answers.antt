use Rattle.pc_top.proofs.Failures.{failures_told}
use Rattle.pc_top.proofs.laws.failures_are_told.Goals as goal

pub returns : goal.returns
returns c = failures_told
