use Rattle.pc_choose.proofs.Fairness.{round_robin_is_fair}
use Rattle.pc_choose.proofs.laws.round_robin_is_fair.Goals as goal

pub returns : goal.returns
returns c = round_robin_is_fair
