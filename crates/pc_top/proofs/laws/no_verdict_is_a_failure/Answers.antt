use Rattle.pc_top.proofs.Verdicts.{verdicts_own}
use Rattle.pc_top.proofs.laws.no_verdict_is_a_failure.Goals as goal

pub returns : goal.returns
returns c = verdicts_own
